-- `cell_scanner::word_steps` meets its contract. The invariant: the run from `at` is eight bytes for each step, and then the run from
-- here.
use Prim.Native.Nat.{◌+◌, ◌*◌}
use mathlib.Core.Path.{◌≡◌}
use Rattle.model.specs.rules.Api.{slice}
use Rattle.cell_scanner.specs.Run.{leading}
use Rattle.cell_scanner.proofs.word_steps.Given as goal

abbrev pub invariant-loop-words : goal.invariant-loop-words
invariant-loop-words l = leading l.p l.q (slice l.s l.at l.stop) ≡ 8 * l.words + leading l.p l.q (slice l.s (l.at + 8 * l.words) l.stop)
