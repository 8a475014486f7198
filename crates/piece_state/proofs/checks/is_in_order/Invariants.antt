-- `piece_state::checks::is_in_order` meets its contract. The invariant: the check of all ends equals that of the ends from here on.
use mathlib.Core.Path.{◌≡◌}
use lib.ListN.{take, drop}
use Rattle.piece_state.specs.Sound.{in_order}
use Rattle.piece_state.proofs.checks.is_in_order.Given as goal

abbrev pub invariant-loop-end : goal.invariant-loop-end
invariant-loop-end l = in_order 0 (take l.n l.ends) l.fill ≡ in_order l.at (drop l.end-index (take l.n l.ends)) l.fill
