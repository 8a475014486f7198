-- `messages::dialects::is_word` meets its contract: the library's comparison is that of TDIF's keys.
use Rattle.messages.proofs.Spelling.{spelled}
use Rattle.messages.proofs.dialects.is_word.Goals as goal

pub returns : goal.returns
returns c = spelled c.args.word.now c.args.name.now _ c.eq_ignore_ascii_case.ensures.test
