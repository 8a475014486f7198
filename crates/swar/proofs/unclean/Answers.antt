-- `swar::unclean` meets its contract. No difference is below 0, since no byte of the low bits is above 7F hex.
use native.Mathlib.Omega.{arith}
use lib.Bits.{bit_and, and_le_r, xor_lt}
use Rattle.swar.proofs.OrdinaryTest.{stop_fits}
use Rattle.swar.proofs.CleanTest.{clean_flags}
use Rattle.swar.proofs.unclean.Goals as goal

pub overflow_sub-is_first : goal.overflow_sub-is_first
overflow_sub-is_first c = stop_fits c.args.w c.args.p c.eight_stops.result c.eight_stops.ensures

pub overflow_sub-is_second : goal.overflow_sub-is_second
overflow_sub-is_second c = stop_fits c.args.w c.args.q c.eight_stops-2.result c.eight_stops-2.ensures

pub overflow_sub-is_backslash : goal.overflow_sub-is_backslash
overflow_sub-is_backslash c =
    let l = and_le_r c.args.w 0x7F7F7F7F7F7F7F7F in
    omega (arith, xor_lt 63 (bit_and c.args.w 0x7F7F7F7F7F7F7F7F) 0x5C5C5C5C5C5C5C5C (omega arith) (omega arith))

pub returns : goal.returns
returns c =
    let a = c.args in
    clean_flags a.w a.p a.q c.eight_stops.result c.eight_stops-2.result (omega arith)
    c.eight_stops.ensures c.eight_stops-2.ensures
