-- The invariant: the result for all kinds equals the result for those from n on.
use mathlib.Core.Path.{◌≡◌}
use Rattle.record_check.proofs.Records.{not_text_at}
use Rattle.record_check.proofs.first_not_text.Given as goal

abbrev pub invariant-loop-n : goal.invariant-loop-n
invariant-loop-n l = not_text_at l.kinds 0 ≡ not_text_at l.kinds l.n
