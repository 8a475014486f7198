-- `record_check::data` meets its contract: its tests are the definition's.
use native.Mathlib.Omega.{arith}
use Rattle.record_check.proofs.Records.{data_too_many, data_uneven, data_sound}
use Rattle.record_check.proofs.data.Goals as goal

pub returns-then-cells-gt-MAX_COLUMNS : goal.returns-then-cells-gt-MAX_COLUMNS
returns-then-cells-gt-MAX_COLUMNS c = λ vs e. data_too_many c.args.columns c.args.cells vs e (omega arith)

pub returns-then-cells-columns : goal.returns-then-cells-columns
returns-then-cells-columns c = λ vs e. data_uneven c.args.columns c.args.cells vs e (omega arith) (λ n. omega arith)

pub returns : goal.returns
returns c = λ vs e. data_sound c.args.columns c.args.cells vs e (omega arith) (omega arith)
