-- `swar::before_flag` meets its contract: the trailing zeros of flags are eight for each zero byte before the first, and seven.
use Rattle.swar.proofs.WordReads.{zeros_word}
use Rattle.swar.proofs.before_flag.Goals as goal

pub returns : goal.returns
returns c = zeros_word c.args.flags
