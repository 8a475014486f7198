-- `swar::guess` returns an index within the word: some byte of the flags is not 0. The difference is not below 0, since no byte of the low
-- bits is above 7F hex.
use native.Mathlib.Omega.{arith}
use lib.Bits.{and_le_r}
use Rattle.swar.proofs.OrdinaryTest.{stop_fits}
use Rattle.swar.proofs.WordReads.{flag_within}
use Rattle.swar.proofs.guess.Goals as goal

pub overflow_sub-near : goal.overflow_sub-near
overflow_sub-near c = stop_fits c.args.w c.args.c c.eight_stops.result c.eight_stops.ensures

pub returns : goal.returns
returns c = rw c.before_flag.ensures (flag_within 8 _ (omega (arith, and_le_r)) c.if-near-eq0.false)
