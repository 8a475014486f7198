-- The invariant: the bytes from `at` on hold p exactly when those from i on do.
use mathlib.Core.Path.{◌≡◌}
use lib.ListN.{drop}
use Rattle.model.specs.rules.Base.{holds}
use Rattle.swar.specs.Words.{is_byte}
use Rattle.record_writer.proofs.clean.plus.holds_from.Given as goal

abbrev pub invariant-loop-i : goal.invariant-loop-i
invariant-loop-i l = holds (is_byte l.p) (drop l.at l.bs) ≡ holds (is_byte l.p) (drop l.i l.bs)
