-- `piece_state::cells::starts_of` meets its contract. The invariant: the next start is pending, and then each end from k on but the last.
use Rattle.piece_state.proofs.BufferedLists.{Starting}
use Rattle.piece_state.proofs.cells.starts_of.Given as goal

abbrev pub invariant-loop-k : goal.invariant-loop-k
invariant-loop-k l = Starting l.ends l.n l.initial.starts l.starts l.k l.at
