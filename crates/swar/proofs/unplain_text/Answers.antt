-- `swar::unplain_text` meets its contract. No sum leaves 64 bits, since no byte of the low bits is above 7F hex.
use native.Mathlib.Omega.{arith}
use Rattle.swar.proofs.TextBytes.{sum_fits, plain_flags}
use Rattle.swar.proofs.unplain_text.Goals as goal

pub overflow_add-no_backslash : goal.overflow_add-no_backslash
overflow_add-no_backslash c = omega (arith, sum_fits c.args.w 0x5C5C5C5C5C5C5C5C 0x7F7F7F7F7F7F7F7F (omega arith) (omega arith))

pub overflow_add-no_ed : goal.overflow_add-no_ed
overflow_add-no_ed c = omega (arith, sum_fits c.args.w 0x6D6D6D6D6D6D6D6D 0x7F7F7F7F7F7F7F7F (omega arith) (omega arith))

pub returns : goal.returns
returns c = plain_flags c.args.w (omega arith)
