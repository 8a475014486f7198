-- `cell_fast::runs::clean_run` meets its contract: whole words, and then the bytes before the first that is not clean.
use Rattle.cell_fast.proofs.PassRuns.{pass_join}
use Rattle.cell_fast.proofs.runs.clean_run.Goals as goal

pub returns-in-None : goal.returns-in-None
returns-in-None c = pass_join c.clean_words-words.ensures.words c.single_steps.ensures
