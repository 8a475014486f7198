-- `record_target::check_target` meets its contract: its checks are the definition's, in the same order.
use mathlib.Core.Path.{sym, ◌∙◌}
use Rattle.std.proofs.lemmas.Result.{err_from_is_err_and}
use Rattle.record_check.proofs.Keys.{cells_named}
use Rattle.record_check.proofs.Records.{counted}
use Rattle.record_target.proofs.Reasons.{no_cells, lacks, clashes, by_length}
use Rattle.record_target.proofs.check_target.Goals as goal

pub returns-then-lacks_cells : goal.returns-then-lacks_cells
returns-then-lacks_cells c =
    rw (no_cells c.args.t c.args.header c.args.written _ (sym (c.lacks_cells.ensures _ (counted c.requires.cells)) ∙ c.if-lacks_cells.true))

pub returns-in_err-x : goal.returns-in_err-x
returns-in_err-x c =
    let a = c.args in
    let has = sym (c.lacks_cells.ensures _ (counted c.requires.cells)) ∙ c.if-lacks_cells.false in
    let p = err_from_is_err_and c.from_residual.result c.from_residual.ensures.1 in
    rw (p.1, p.2, lacks a.t a.header a.written _ has _ (sym c.measure-x.ensures.carries_value ∙ c.in_err-x.was))

pub name_clash-requires : goal.name_clash-requires
name_clash-requires c = cells_named c.requires.cells

pub returns-in_err-name_clash : goal.returns-in_err-name_clash
returns-in_err-name_clash c =
    let a = c.args in
    let has = sym (c.lacks_cells.ensures _ (counted c.requires.cells)) ∙ c.if-lacks_cells.false in
    let clash = sym (c.name_clash.ensures a.kinds.now (sym c.requires.cells.with_kinds)) ∙ c.in_err-name_clash.was in
    let p = err_from_is_err_and c.from_residual-in_err-name_clash.result c.from_residual-in_err-name_clash.ensures.1 in
    rw (p.1, p.2, clashes a.t a.header a.written _ has (sym c.measure-x.ensures.carries_value ∙ c.in_ok-x.was) _ clash)

pub returns : goal.returns
returns c =
    let a = c.args in
    let has = sym (c.lacks_cells.ensures _ (counted c.requires.cells)) ∙ c.if-lacks_cells.false in
    let clash = sym (c.name_clash.ensures a.kinds.now (sym c.requires.cells.with_kinds)) ∙ c.in_ok-name_clash.was in
    rw (by_length a.t a.header a.written _ has (sym c.measure-x.ensures.carries_value ∙ c.in_ok-x.was) clash)
    (c.check_size.ensures _ c.measure-x.ensures.end_value)
