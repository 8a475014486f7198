-- `cell_scanner::keeps_digits` meets its contract, state by state.
use Rattle.cell_scanner.proofs.Runs.{integer_keeps, fraction_keeps, exponent_keeps}
use Rattle.cell_scanner.proofs.keeps_digits.Goals as goal

pub returns-in-Integer : goal.returns-in-Integer
returns-in-Integer c e = rw c.in-Integer.is integer_keeps

pub returns-in-Fraction : goal.returns-in-Fraction
returns-in-Fraction c e = rw c.in-Fraction.is fraction_keeps

pub returns-in-Exponent : goal.returns-in-Exponent
returns-in-Exponent c e = rw c.in-Exponent.is exponent_keeps
