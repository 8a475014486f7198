-- `piece_record::last_end` meets its contract.
use native.Mathlib.Omega.{arith}
use mathlib.Core.Path.{refl}
use lib.ListN.{length}
use Rattle.piece_record.proofs.BufferedCells.{end_none, end_some}
use Rattle.piece_record.proofs.last_end.Goals as goal

pub returns-in-empty : goal.returns-in-empty
returns-in-empty c = end_none c.args.ends.now (omega arith)

pub returns-in-len1-up : goal.returns-in-len1-up
returns-in-len1-up c = let ends = c.args.ends.now in end_some ends (length ends) refl (omega arith)
