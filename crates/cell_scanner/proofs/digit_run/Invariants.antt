-- `cell_scanner::digit_run` meets its contract. The invariant: the rest of the cell is the same from here on.
use Rattle.model.specs.declared.Dialect.{Dialect}
use Rattle.cell_scanner.specs.Run.{RestFrom}
use Rattle.cell_scanner.proofs.digit_run.Given as goal

abbrev pub invariant-loop-i : goal.invariant-loop-i
invariant-loop-i l = (d : Dialect) → RestFrom d l.fn.c l.s l.stop l.at l.i
