-- Spans of bytes that are skipped at once.
use Rattle.std.specs.Prelude.{ℕ, ◌+◌, ◌≤◌, ◌<◌, ◌≡◌, Bool, true, not, ◌&&◌, Some}
use Rattle.model.specs.declared.Char.TheVariants.{Whole}
use Rattle.model.specs.rules.Base.{Bytes, ◌is◌}
use Rattle.model.specs.rules.Api.{slice}
use Rattle.swar.specs.Words.{is_clean, all_pass, bytes_of, zero_bytes}
use Rattle.utf8.specs.Multibyte.{chars_from}

-- bytes that pass this test lie from `at` to r, and r is at most `stop`
pub record PassRun (passes : ℕ → Bool) (s : Bytes) (at stop r : ℕ) : Type 0 where
  pub from : at ≤ r
  pub upto : r ≤ stop
  pub each : all_pass passes (slice s at r) ≡ true

-- and they are whole characters
pub record TextRun (passes : ℕ → Bool) (s : Bytes) (at stop r : ℕ) : Type 0 where
  pub from : at ≤ r
  pub upto : r ≤ stop
  pub each : all_pass passes (slice s at r) ≡ true
  pub whole : chars_from Whole (slice s at r) ≡ Some Whole

-- bytes that pass lie from `at` up to the first flag of the word at `end`, which has one
pub record FlaggedRun (passes : ℕ → Bool) (s : Bytes) (at stop end flags : ℕ) : Type 0 where
  pub fits : end + 8 ≤ stop
  pub first : zero_bytes (bytes_of 8 flags) < 8
  pub run : PassRun passes s at stop (end + zero_bytes (bytes_of 8 flags))

-- a clean byte other than the delimiter: one of an unquoted cell
unfoldable pub is_open : (delimiter quote b : ℕ) → Bool
is_open delimiter quote b = is_clean quote b && not (b is delimiter)
