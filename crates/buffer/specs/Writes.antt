-- What writers leave in a lent buffer.
use Rattle.std.specs.Prelude.{ℕ, ◌+◌, ◌≤◌, ◌≡◌, Bool, true, false, length, min}
use Rattle.model.specs.rules.Base.{Bytes, choose◌then◌else◌}
use Rattle.model.specs.rules.Report.{MAXFILE}
pub use Rattle.buffer.specs.Written.{written}

-- an offset as it is measured: at most the limit of a file, so that a text of any length has a measure (§7.1)
unfoldable pub measure : ℕ → ℕ
measure n = min MAXFILE n

-- a text w may be measured from o on, and written there if `write` is set
pub record Room (write : Bool) (o : ℕ) (w out : Bytes) : Type 0 where
  pub measured : write ≡ false → o ≤ MAXFILE
  pub inside : write ≡ true → o + length w ≤ length out

-- a text w was written over old from o on if `write` is set, and otherwise only measured: new is the buffer now, r the offset after w
pub record WrittenAt (write : Bool) (old : Bytes) (o : ℕ) (w new : Bytes) (r : ℕ) : Type 0 where
  pub place : r ≡ (choose write then o + length w else measure (o + length w))
  pub text : new ≡ (choose write then written old o w else old)
