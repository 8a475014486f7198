-- `cell_fast::value::value_end` meets its contract: a number that is guessed, a long one, or what the first byte decides.
use Rattle.std.proofs.lemmas.Option.{IfSome_then}
use Rattle.model.specs.declared.Cell.TheVariants.{Fresh}
use Rattle.cell_fast.specs.BareValues.{unsigned}
use Rattle.cell_fast.proofs.value.value_end.Goals as goal

pub returns-then-no_digit-eq0 : goal.returns-then-no_digit-eq0
returns-then-no_digit-eq0 c = IfSome_then c.number_end.result c.number_end.ensures (λ r x. x Fresh unsigned)
