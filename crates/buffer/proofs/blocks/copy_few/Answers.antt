-- `buffer::blocks::copy_few` meets its contract: its stores, from the last to the first, write the text.
use mathlib.Core.Path.{refl}
use Prim.Native.Nat.{◌-◌, ◌/◌}
use lib.ListN.{length}
use Rattle.buffer.proofs.Overlaps.{few_stored}
use Rattle.buffer.proofs.blocks.copy_few.Goals as goal

pub returns : goal.returns
returns c =
    few_stored c.args.out.now c.args.at c.args.src.now (length c.args.src.now / 2) (length c.args.src.now - 1) refl
    refl c.requires.0 c.requires.1 c.requires.2
