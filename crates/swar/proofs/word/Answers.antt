-- `swar::word` meets its contract: the eight bytes of the slice, joined.
use Prim.Native.Nat.{ℕ, ◌<◌}
use native.Mathlib.Omega.{arith}
use lib.ListN.{get_or}
use Rattle.swar.proofs.WordReads.{word_read}
use Rattle.swar.proofs.word.Goals as goal

pub returns : goal.returns
returns c =
    let byte : (j : ℕ) → get_or c.args.s.now j 0 < 0x100 = λ j. omega (arith, c.type_inv.s j) in
    word_read c.args.s.now c.args.i _ c.requires byte c.joined.ensures
