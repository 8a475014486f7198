-- `record_writer::clean::quoted::column_length` meets its contract.
use mathlib.Core.Path.{sym, ap, ◌∙◌}
use Prim.Native.Nat.{ℕ, ◌+◌}
use native.Mathlib.Omega.{arith}
use Rattle.record_writer.specs.CleanCellText.{quoted_cell}
use Rattle.record_writer.proofs.Lengths.{length_cell, length_first, length_later}
use Rattle.record_writer.proofs.clean.quoted.column_length.Goals as goal

pub returns-then-n-eq0 : goal.returns-then-n-eq0
returns-then-n-eq0 c = let a = c.args in c.cell_length.ensures ∙ sym (length_first a.n (quoted_cell a.raw.now) c.if-n-eq0.true)

pub overflow_add-result : goal.overflow_add-result
overflow_add-result c = omega (arith, c.cell_length-2.ensures, length_cell c.args.raw.now, c.requires)

pub returns : goal.returns
returns c =
    let a = c.args in
    ap (λ (k : ℕ). k + 1) c.cell_length-2.ensures ∙ sym (length_later a.n (quoted_cell a.raw.now) c.if-n-eq0.false)
