-- The invariant: while none was found, no earlier byte is ED.
use Prim.Native.Nat.{ℕ, ◌<◌}
use mathlib.Core.Path.{◌≡◌}
use mathlib.Core.Bool.{false}
use lib.ListN.{get_or}
use Rattle.piece_record.proofs.holds_ed.Given as goal

abbrev pub invariant-loop-b : goal.invariant-loop-b
invariant-loop-b l = l.found ≡ false → (j : ℕ) → j < l.b-index → get_or l.s j 0 ≡ 0xED → ⊥
