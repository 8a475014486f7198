-- The invariant: the result for all names equals the result for those from n on, given the keys of the ones before.
use mathlib.Core.Path.{◌≡◌}
use mathlib.Core.List.{List}
use Prim.Native.Nat.{ℕ}
use lib.ListN.{length}
use Rattle.model.specs.declared.Fault.{Fault}
use Rattle.record_check.proofs.RepeatedNames.{repeat_at}
use Rattle.record_check.proofs.names.first_repeat.Given as goal

abbrev pub invariant-loop-n : goal.invariant-loop-n
invariant-loop-n l =
    (fault : ℕ → Fault) (kinds : List ℕ) → length kinds ≡ length l.starts →
    repeat_at l.src l.rule fault l.s l.starts l.ends kinds 0 ≡ repeat_at l.src l.rule fault l.s l.starts l.ends kinds l.n
