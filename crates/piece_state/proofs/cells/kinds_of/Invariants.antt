-- `piece_state::cells::kinds_of` meets its contract. The invariant: the kinds from index k on are pending.
use Rattle.piece_state.proofs.BufferedLists.{Sorting}
use Rattle.piece_state.proofs.cells.kinds_of.Given as goal

abbrev pub invariant-loop-k : goal.invariant-loop-k
invariant-loop-k l = Sorting l.d l.bytes l.starts l.ends l.n l.initial.kinds l.kinds l.k
