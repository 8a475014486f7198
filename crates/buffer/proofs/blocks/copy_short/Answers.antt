-- `buffer::blocks::copy_short` meets its contract: the first and the last four bytes, or one to three, or none.
use mathlib.Core.Path.{refl}
use Prim.Native.Nat.{◌-◌}
use native.Mathlib.Omega.{arith}
use lib.ListN.{length}
use Rattle.buffer.proofs.BlockProgress.{start}
use Rattle.buffer.proofs.Overlaps.{next_block, last_block}
use Rattle.buffer.proofs.blocks.copy_short.Goals as goal

pub returns-then-src-ge4 : goal.returns-then-src-ge4
returns-then-src-ge4 c =
    let a = c.args in
    let first = next_block 0 (start a.out.now a.at a.src.now c.requires.1) 4 c.if-src-ge4.true refl c.copy_block.ensures in
    last_block 4 first 4 (length a.src.now - 4) refl (omega (arith, c.requires.0)) c.if-src-ge4.true
    (omega (arith, c.if-src-ge4.true)) c.copy_block-then-src-ge4.ensures
