-- `record_scanner::store::store_cell` meets its contract: a store in each list, or none.
use Rattle.record_scanner.proofs.StoreLaws.{not_stored, no_room, stored_there}
use Rattle.record_scanner.proofs.store.store_cell.Goals as goal
use Rattle.record_scanner.proofs.store.store_cell.Goals.{else-closes-via-then-closes+else-k-room, else-closes-via-else-closes}

pub returns-then-k-room : goal.returns-then-k-room
returns-then-k-room c =
    let t = c.if-closes.true in
    let l = c.if-k-room.true in
    record {
      starts_after = stored_there _ _ _ _ _ t l;
      ends_after = stored_there _ _ _ _ _ t l;
      kinds_after = rw (c.from.ensures, c.kind_of.ensures) (stored_there _ _ _ _ _ t l);
    }

pub returns-else-closes : goal.returns-else-closes
returns-else-closes c =
    elim c.else-closes.branch [
      | else-closes-via-then-closes+else-k-room w ↦
          let t = w.if-closes.true in
          let l = w.if-k-room.false in
          record { starts_after = no_room _ _ _ _ _ t l; ends_after = no_room _ _ _ _ _ t l; kinds_after = no_room _ _ _ _ _ t l }
      | else-closes-via-else-closes w ↦
          let l = w.if-closes.false in
          record { starts_after = not_stored _ _ _ _ _ l; ends_after = not_stored _ _ _ _ _ l; kinds_after = not_stored _ _ _ _ _ l }
    ]
