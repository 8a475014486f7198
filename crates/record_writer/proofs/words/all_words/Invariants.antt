-- The invariant: the bytes before i pass.
use Prim.Native.Nat.{ℕ, ◌-◌, ◌≤◌, ◌<◌, ◌^◌}
use mathlib.Core.Bool.{Bool}
use Rattle.swar.specs.Words.{Flags}
use Rattle.swar.proofs.Spans.{CheckedTo}
use Rattle.record_writer.proofs.words.all_words.Given as goal

abbrev pub invariant-loop-i : goal.invariant-loop-i
invariant-loop-i g l =
    (l.from ≤ l.i) × (l.i ≤ l.upto)
    × ((passes : ℕ → Bool) → ((w flags : ℕ) → w < 2 ^ 64 → goal.F-post g l.unfit w flags → Flags passes w flags) → CheckedTo passes l.raw l.from l.upto l.i)

abbrev pub decreases-loop-i : goal.decreases-loop-i
decreases-loop-i g l = l.upto - l.i
