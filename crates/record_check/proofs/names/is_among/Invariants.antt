-- `record_check::names::is_among` meets its contract. The invariant: the name is among the first n exactly when it is among those that are
-- left.
use mathlib.Core.Path.{◌≡◌}
use lib.ListN.{length}
use Rattle.model.specs.rules.Report.{MAXRECORD}
use Rattle.model.specs.rules.Records.{name_key, among}
use Rattle.record_check.specs.Keys.{keys_before}
use Rattle.record_check.proofs.names.is_among.Given as goal

abbrev pub invariant-loop-j : goal.invariant-loop-j
invariant-loop-j l = (length l.room ≡ MAXRECORD)
    × (among (name_key l.rule l.name) (keys_before l.src l.rule l.s l.starts l.ends l.n) ≡ among (name_key l.rule l.name) (keys_before l.src l.rule l.s l.starts l.ends l.j))
