-- `cell_decoder::decode_cell` meets its contract: a refusal names the fault that the check found.
use mathlib.Core.Path.{sym}
use borrow.Author.Rules.{rules}
use Rattle.std.proofs.lemmas.Result.{err_from_is_err_and, MatchResult-weaker}
use Rattle.cell_decoder.proofs.DecoderAnswers.{unsound_by}
use Rattle.cell_decoder.proofs.decode_cell.Goals as goal

pub returns-in_err-map_err-clause-result_value : goal.returns-in_err-map_err-clause-result_value
returns-in_err-map_err-clause-result_value c =
    let a = c.args in
    let p = err_from_is_err_and c.from_residual.result c.from_residual.ensures.1 in
    let e = c.in_err-map_err.field-0.0 in
    rw (p.1, p.2) (unsound_by a.d a.raw.now a.room.now e (sym c.validate_cell.ensures)
    (MatchResult-weaker c.validate_cell.result c.in_err-map_err.ensures.cases (λ _ k. cc) (λ f k. search rules))).0
