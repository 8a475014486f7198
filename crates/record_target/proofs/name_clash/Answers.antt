-- `record_target::name_clash` meets its contract: it is the first repeated name of a header, with this fault.
use mathlib.Core.Path.{sym, ap, ◌∙◌}
use mathlib.Core.Bool.{Bool}
use Rattle.model.specs.declared.Fault.TheVariants.{Clash}
use Rattle.model.specs.rules.Records.{clash_fault}
use Rattle.cell_decoder.specs.Sources.{cells_in}
use Rattle.record_check.specs.Keys.{repeated_as}
use Rattle.record_target.proofs.name_clash.Goals as goal

pub returns-then-not-header : goal.returns-then-not-header
returns-then-not-header c kinds k = ap (λ (header : Bool). clash_fault c.args.t header (cells_in c.args.src c.args.s.now c.args.starts.now c.args.ends.now kinds)) (sym (c.if-not-header.true))

pub returns-in-None : goal.returns-in-None
returns-in-None c kinds k =
    sym (ap (repeated_as Clash) c.in-None.is) ∙ c.first_repeat.ensures Clash kinds k
    ∙ ap (λ (header : Bool). clash_fault c.args.t header (cells_in c.args.src c.args.s.now c.args.starts.now c.args.ends.now kinds)) (sym (c.if-not-header.false))

pub returns-in-Some : goal.returns-in-Some
returns-in-Some c kinds k =
    sym (ap (repeated_as Clash) c.in-Some.is) ∙ c.first_repeat.ensures Clash kinds k
    ∙ ap (λ (header : Bool). clash_fault c.args.t header (cells_in c.args.src c.args.s.now c.args.starts.now c.args.ends.now kinds)) (sym (c.if-not-header.false))
