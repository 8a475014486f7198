-- `cell_fast::value::null_end` meets its contract, by its tests of the two bytes.
use native.Mathlib.Omega.{arith}
use Rattle.cell_fast.proofs.BareValues.{tdif_null_ends}
use Rattle.cell_fast.proofs.value.null_end.Goals as goal

pub returns : goal.returns
returns c = tdif_null_ends c.requires.1 (omega arith) c.if-s-at-ne92.false c.if-s-at-ne78.false
