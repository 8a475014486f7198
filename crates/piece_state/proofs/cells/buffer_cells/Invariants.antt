-- `piece_state::cells::buffer_cells` meets its contract. The invariant: the cells from k on are pending.
use Rattle.piece_state.proofs.BufferedLists.{Preserving}
use Rattle.piece_state.proofs.cells.buffer_cells.Given as goal

abbrev pub invariant-loop-k : goal.invariant-loop-k
invariant-loop-k l = Preserving l.piece l.starts l.stops l.from l.n l.initial.bytes l.fill l.initial.ends l.bytes l.ends l.k l.at
