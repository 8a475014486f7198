-- `swar::unordinary` meets its contract. No difference is below 0 and no sum leaves 64 bits, since no byte of the low bits is above 7F
-- hex.
use native.Mathlib.Omega.{arith}
use Rattle.swar.proofs.OrdinaryTest.{stop_fits, flags}
use Rattle.swar.proofs.unordinary.Goals as goal

pub overflow_sub-is_first : goal.overflow_sub-is_first
overflow_sub-is_first c = stop_fits c.args.w c.args.p c.eight_stops.result c.eight_stops.ensures

pub overflow_sub-is_second : goal.overflow_sub-is_second
overflow_sub-is_second c = stop_fits c.args.w c.args.q c.eight_stops-2.result c.eight_stops-2.ensures

pub returns : goal.returns
returns c =
    let a = c.args in
    flags a.w a.p a.q c.eight_stops.result c.eight_stops-2.result (omega arith) c.eight_stops.ensures
    c.eight_stops-2.ensures
