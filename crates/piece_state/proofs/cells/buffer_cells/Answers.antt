use Rattle.piece_state.proofs.BufferedLists.{keeping, cell_fits, kept_next, kept_all}
use Rattle.piece_state.proofs.cells.buffer_cells.Goals as goal

pub loop-k-init : goal.loop-k-init
loop-k-init c = keeping c.requires.spans_in c.requires.from_le_n.0 c.requires.from_le_n.1 c.requires.n_in_bounds

pub copy-at-requires : goal.copy-at-requires
copy-at-requires c = cell_fits c.loop-k.invariant c.loop-k-test.true

pub loop-k-preserved : goal.loop-k-preserved
loop-k-preserved c = kept_next c.loop-k.invariant c.loop-k-test.true c.copy-at.ensures

pub returns : goal.returns
returns c = let all = kept_all c.loop-k.invariant c.loop-k-test.false in record { value = all.0; bytes_after = all.1; ends_after = all.2 }
