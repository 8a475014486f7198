-- `at_end` meets its contract, by what the file's end is to the state.
use mathlib.Core.Path.{sym, ap, ◌∙◌}
use lib.ListN.{length}
use Rattle.model.specs.declared.Ending.{Ending}
use Rattle.file_cursor.specs.Ends.{is_final, end_event}
use Rattle.record_scanner.proofs.StoreLaws.{not_stored, same_stored}
use Rattle.file_cursor.proofs.scan.at_end.Goals as goal

pub returns-in-Clean : goal.returns-in-Clean
returns-in-Clean c =
    let a = c.args in
    let e = sym c.file_end.ensures ∙ c.in-Clean.is in
    let n = ap is_final e in
    record {
      value = ap (λ (x : Ending). end_event x a.h (length a.file.now)) (sym e);
      starts_after = not_stored _ _ _ _ _ n;
      ends_after = not_stored _ _ _ _ _ n;
      kinds_after = not_stored _ _ _ _ _ n;
    }

pub returns-in-Final : goal.returns-in-Final
returns-in-Final c =
    let a = c.args in
    let e = sym c.file_end.ensures ∙ c.in-Final.is in
    let y = sym (ap is_final e) in
    let p = c.store_cell.ensures in
    record {
      value = ap (λ (x : Ending). end_event x a.h (length a.file.now)) (sym e);
      starts_after = same_stored _ _ _ _ _ _ _ y p.starts_after;
      ends_after = same_stored _ _ _ _ _ _ _ y p.ends_after;
      kinds_after = same_stored _ _ _ _ _ _ _ y p.kinds_after;
    }

pub returns-in-Cut : goal.returns-in-Cut
returns-in-Cut c =
    let a = c.args in
    let e = sym c.file_end.ensures ∙ c.in-Cut.is in
    let n = ap is_final e in
    record {
      value = ap (λ (x : Ending). end_event x a.h (length a.file.now)) (sym e);
      starts_after = not_stored _ _ _ _ _ n;
      ends_after = not_stored _ _ _ _ _ n;
      kinds_after = not_stored _ _ _ _ _ n;
    }
