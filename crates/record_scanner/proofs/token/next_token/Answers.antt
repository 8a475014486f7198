-- `record_scanner::token::next_token` meets its contract, by the result of `dispatch` and the end of the cell.
use mathlib.Core.Path.{sym, ◌∙◌}
use Rattle.record_scanner.proofs.TokenOutcomes.{met_skipped, met_byte, met_after, met_cell}
use Rattle.record_scanner.proofs.token.next_token.Goals as goal

pub returns-then-i-j : goal.returns-then-i-j
returns-then-i-j c =
    let o =
    met_skipped c.args.d c.args.limit c.args.part.now c.args.f c.args.i
    c.args.size c.requires.0 c.requires.1 _ c.comment_end-j.ensures c.if-i-j.true in
    record { lies = o.0; token_correct = o.1 }

pub returns-else-i-j : goal.returns-else-i-j
returns-else-i-j c =
    let o =
    met_byte c.args.d c.args.limit c.args.part.now c.args.f c.args.i
    c.args.size c.requires.0 c.requires.1 _ c.dispatch.ensures _ c.in-Is.is in
    record { lies = o.0; token_correct = o.1 }

pub returns-in-AfterCell : goal.returns-in-AfterCell
returns-in-AfterCell c =
    let o =
    met_after c.args.d c.args.limit c.args.part.now c.args.f c.args.i
    c.args.size c.requires.0 c.requires.1 _ c.dispatch.ensures c.in-AfterCell.is in
    record { lies = o.0; token_correct = o.1 }

pub returns-in-Stopped : goal.returns-in-Stopped
returns-in-Stopped c =
    let o =
    met_cell c.args.d c.args.limit c.args.part.now c.args.f c.args.i
    c.args.size c.requires.0 c.requires.1 _ c.dispatch.ensures _ c.in-InCell.is _
    c.limit_end-stop.ensures _ (sym c.cell_end.ensures ∙ c.in-Stopped.is) in
    record { lies = o.0; token_correct = o.1 }

pub returns-in-Refused : goal.returns-in-Refused
returns-in-Refused c =
    let o =
    met_cell c.args.d c.args.limit c.args.part.now c.args.f c.args.i
    c.args.size c.requires.0 c.requires.1 _ c.dispatch.ensures _ c.in-InCell.is _
    c.limit_end-stop.ensures _ (sym c.cell_end.ensures ∙ c.in-Refused.is) in
    record { lies = o.0; token_correct = o.1 }

pub returns-in-Open : goal.returns-in-Open
returns-in-Open c =
    let o =
    met_cell c.args.d c.args.limit c.args.part.now c.args.f c.args.i
    c.args.size c.requires.0 c.requires.1 _ c.dispatch.ensures _ c.in-InCell.is _
    c.limit_end-stop.ensures _ (sym c.cell_end.ensures ∙ c.in-Open.is) in
    record { lies = o.0; token_correct = o.1 }
