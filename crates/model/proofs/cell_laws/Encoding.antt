-- Fault 2 is given exactly where a byte breaks the UTF-8 table of a text it belongs to (`encoding_iff`), so fault 3 is not
-- (`syntax_whole`).
use Prim.Native.Nat.{ℕ}
use native.Mathlib.Omega.{arith}
use mathlib.Core.Path.{◌≡◌, refl}
use mathlib.Core.Logic.{◌↔◌}
use mathlib.Core.Bool.{Bool, true, false}
use Rattle.model.specs.rules.Types.{Dialect, Encoding, Syntax, FileState, Step, Ok, Err}
use Rattle.model.specs.rules.File.{file_step}
use Rattle.model.specs.laws.Viable.{text_at, breaks}
use Rattle.model.proofs.Tests.{impossible}
use Rattle.model.proofs.file_laws.FileSteps.{Reports, reports_to, reports_two, reports_three, tells, step_transition}

found_two : {t : Bool} (s : Step) → Reports t s → s ≡ Err Encoding → t ≡ true
found_two (Ok (f, p)) reports_to e = let z : ◌≡◌ {A = ℕ} 0 1 = cc in absurd (omega arith)
found_two (Err x) reports_two e = refl
found_two (Err x) reports_three e = let z : ◌≡◌ {A = ℕ} 0 1 = cc in absurd (omega arith)

found_true : {t : Bool} (s : Step) → Reports t s → t ≡ true → s ≡ Err Encoding
found_true (Ok (f, p)) reports_to e = impossible e
found_true (Err x) reports_two e = refl
found_true (Err x) reports_three e = impossible e

found_three : {t : Bool} (s : Step) → Reports t s → s ≡ Err Syntax → t ≡ false
found_three (Ok (f, p)) reports_to e = let z : ◌≡◌ {A = ℕ} 0 1 = cc in absurd (omega arith)
found_three (Err x) reports_two e = let z : ◌≡◌ {A = ℕ} 0 1 = cc in absurd (omega arith)
found_three (Err x) reports_three e = refl

pub encoding_iff : (d : Dialect) (f : FileState) (b : ℕ) → (file_step d f b ≡ Err Encoding) ↔ (breaks (text_at d f) b ≡ true)
encoding_iff d f b =
    let k = tells (step_transition d f b) in
    (λ e. found_two (file_step d f b) k e, λ e. found_true (file_step d f b) k e)

pub syntax_whole : (d : Dialect) (f : FileState) (b : ℕ) → file_step d f b ≡ Err Syntax → breaks (text_at d f) b ≡ false
syntax_whole d f b e = found_three (file_step d f b) (tells (step_transition d f b)) e
