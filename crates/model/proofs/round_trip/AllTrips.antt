-- The round trips, each from the file that proves it.
use Prim.Native.Nat.{ℕ, ◌≤◌}
use mathlib.Core.Path.{◌≡◌, sym, ap, subst, ◌∙◌}
use Rattle.std.specs.Prelude.{None, Some}
use mathlib.Core.List.{List, [], ◌∷◌}
use lib.ListN.{length}
use Rattle.model.specs.rules.Types.{Dialect}
use Rattle.model.specs.rules.Base.{Bytes, concat}
use Rattle.model.specs.rules.Dialect.{dialect_of, into}
use Rattle.model.specs.rules.Text.{Value, table_text}
use Rattle.model.specs.rules.Api.{Table, reader}
use Rattle.model.specs.laws.Laws.{All, all_cons}
use Rattle.model.specs.laws.RoundTrips.{TableTrip, Writable, ReadsBack, RoundTrip, Trips}
use Rattle.model.proofs.round_trip.CellBack.{cell_back}
use Rattle.model.proofs.round_trip.TableRead.{own_none, own_some, Read-as, table_read, read_as}
use Rattle.model.proofs.round_trip.WriterBack.{record_trip, writer_back}
use Rattle.model.proofs.round_trip.TableRows.{Even, rows_even}
use Rattle.model.proofs.Spans.{reader_decodes}
use Rattle.model.proofs.round_trip.RoundTrip.{Wrote, writer_wrote, Answers, reader_answers}
use Rattle.model.proofs.round_trip.ConvertBack.{same_text, converted_back, converted_once}

table_trip : TableTrip
table_trip d rs w =
    let b = writer_back d rs w in
    (read_as (table_read d None rs own_none b), read_as (table_read d (Some (into d)) rs own_some b))

same_some : {x y : List (List Value)} → Some x ≡ Some y → x ≡ y
same_some e = cc

first_row : {columns : ℕ} {h : List Value} {rs : List (List Value)} → All (λ (r : List Value). length r ≡ columns) (h ∷ rs) → length h ≡ columns
first_row (all_cons l ls) = l

rows_back :
    (n : ℕ) (table : Table) (d : Dialect) (rs : List (List Value)) (places : ℕ) (text : Bytes) → dialect_of n ≡ Some d → Writable d rs →
    Even table.columns table.records rs → table_text (into d) rs ≡ text → length (concat rs) ≤ places →
    ReadsBack n table rs text (reader n text places)
rows_back n table d [] places text k w e s l = absurd (elim w [ ])
rows_back n table d (h ∷ rs) places text k w e s l =
    let r : Read-as d None text (h ∷ rs)
    = subst (λ (x : Bytes). Read-as d None x (h ∷ rs)) s (table_read d None (h ∷ rs) own_none (writer_back d (h ∷ rs) w)) in
    let a : Answers (h ∷ rs) (length h) (reader n text places) = reader_answers n d h rs places text k r l in
    record {
      report = a.report;
      columns = a.columns ∙ first_row e.even;
      records = a.records ∙ e.count;
      cells = a.cells;
      decoded = reader_decodes n text places;
    }

round_trip : RoundTrip
round_trip n table rs room places text e w l =
    let x : Wrote n table room text = writer_wrote n table room text w in
    let q : x.cells ≡ rs = same_some (sym x.table_rows ∙ e) in
    rows_back n table x.dialect rs places text x.known (rw q at x.can_write) (rows_even table rs e).0
    (ap (table_text (into x.dialect)) (sym q) ∙ x.spelt.same) l

pub trips : Trips
trips =
    record {
      cell = cell_back;
      record_text_lem = record_trip;
      table = table_trip;
      reader_decodes = reader_decodes;
      round_trip = round_trip;
      same_text = same_text;
      converted_back = converted_back;
      converted_once = converted_once;
    }
