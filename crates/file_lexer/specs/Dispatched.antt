-- What the results of the inner functions mean, in the definition's terms.
use Rattle.std.specs.Prelude.{ℕ, false}
use Rattle.model.specs.declared.Dialect.{Dialect}
use Rattle.model.specs.rules.Types.{Step}
use Rattle.model.specs.rules.File.{after_cell, in_cell}
use Rattle.file_lexer.specs.declared.Dispatched.{Dispatched}
use Rattle.file_lexer.specs.declared.Dispatched.TheVariants.{Is, InCell, AfterCell}

-- the step that a result means
abbrev pub step_of : Dialect → Dispatched → ℕ → Step
step_of d (Is s) b = s
step_of d (InCell c) b = in_cell d c b
step_of d AfterCell b = after_cell d false b
