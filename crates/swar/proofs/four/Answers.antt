-- `swar::four` meets its contract: the four bytes of the slice, joined with four zeros.
use Prim.Native.Nat.{ℕ, ◌<◌}
use native.Mathlib.Omega.{arith}
use lib.ListN.{get_or}
use Rattle.swar.proofs.WordReads.{four_read}
use Rattle.swar.proofs.four.Goals as goal

pub returns : goal.returns
returns c =
    let byte : (j : ℕ) → get_or c.args.s.now j 0 < 0x100 = λ j. omega (arith, c.type_inv.s j) in
    four_read c.args.s.now c.args.i _ c.requires byte c.joined.ensures
