-- `piece_state::checks::check_between` meets its contract, by its tests.
use mathlib.Core.Logic.{inl, inr}
use Rattle.model.specs.rules.Base.{choose◌then◌else◌}
use Rattle.model.proofs.Tests.{tests}
use Rattle.piece_state.specs.Checks.{check_between}
use Rattle.piece_state.proofs.checks.check_between.Goals as goal

pub returns-then-fault-gt0 : goal.returns-then-fault-gt0
unfolding check_between choose◌then◌else◌
returns-then-fault-gt0 c = search tests

pub returns-then-ended-gt0 : goal.returns-then-ended-gt0
unfolding check_between choose◌then◌else◌
returns-then-ended-gt0 c = search (tests, c.call_report.ensures)

pub returns-then-piece-gt-MAX_PIECE : goal.returns-then-piece-gt-MAX_PIECE
unfolding check_between choose◌then◌else◌
returns-then-piece-gt-MAX_PIECE c =
    elim c.then-piece-gt-MAX_PIECE.either [
      | inl long ↦ search (tests, c.call_report-then-piece-gt-MAX_PIECE.ensures)
      | inr short ↦ search (tests, c.call_report-then-piece-gt-MAX_PIECE.ensures)
    ]

pub returns : goal.returns
unfolding check_between choose◌then◌else◌
returns c = search tests
