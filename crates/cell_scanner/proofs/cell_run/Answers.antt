-- `cell_scanner::cell_run` meets its contract: ordinary bytes of a text, or digits.
use mathlib.Core.Path.{sym, ◌∙◌}
use Rattle.cell_scanner.proofs.Runs.{rest_run}
use Rattle.cell_scanner.proofs.cell_run.Goals as goal

pub returns-in-Some : goal.returns-in-Some
returns-in-Some c =
    let a = c.args in
    rest_run a.d a.c c.in-Some.q a.s.now a.stop a.at c.run.result c.requires.0 c.requires.1 (sym c.run_stop.ensures ∙ c.in-Some.is)
    (rw (← c.quote_of.ensures) c.run.ensures)

pub returns-in-None : goal.returns-in-None
returns-in-None c = c.digit_run.ensures c.args.d
