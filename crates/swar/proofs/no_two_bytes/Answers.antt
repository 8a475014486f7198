-- `swar::no_two_bytes` meets its contract, by what is left at each place of the word.
use native.Mathlib.Omega.{arith}
use lib.Bits.{and_le_r}
use Rattle.swar.proofs.TwoByteTest.{two_byte_zeros}
use Rattle.swar.proofs.no_two_bytes.Goals as goal

pub overflow_sub-too_low : goal.overflow_sub-too_low
overflow_sub-too_low c = omega (arith, and_le_r c.args.w 0x001E001E001E001E)

pub returns : goal.returns
returns c = two_byte_zeros c.args.w (omega arith)
