-- Demand 2: the reader returns what the grammar derives. The records read are those of the derivation, cell by cell
-- (`acceptable_read` of grammar), so their kinds and contents agree in file order; and the answer on an accepted file has all its
-- cells. Assumes nothing.
use Prim.Native.Nat.{ℕ, ◌≤◌}
use mathlib.Core.Path.{◌≡◌, refl, sym, ap, ap₂, ◌∙◌}
use mathlib.Core.Bool.{Bool, true, false}
use Rattle.std.specs.Prelude.{Some}
use mathlib.Core.List.{List, [], ◌∷◌, ◌++◌, map, map-append}
use lib.Dec.{ltb}
use lib.ListN.{length}
use Rattle.model.specs.declared.Dialect.{Dialect}
use Rattle.model.specs.rules.Base.{Bytes, concat, choose◌then◌else◌}
use Rattle.model.specs.rules.Dialect.{dialect_of}
use Rattle.model.specs.rules.Text.{Value}
use Rattle.model.specs.rules.Report.{accepted}
use Rattle.model.specs.rules.Records.{Rec, rows}
use Rattle.model.specs.rules.Api.{answered, read_answer, reader}
use Rattle.model.proofs.round_trip.RoundTrip.{reader_known}
use Rattle.grammar.specs.rfc.Derived.{Derived, kind_in, content_in, Line, cells_in, Each, each_none, each_cons}
use Rattle.grammar.specs.Accepted.{Acceptable, ChecksHold, cell_count, ShowsCell, ShowsRecord}
use Rattle.grammar.proofs.Acceptance.{ten, ReadAs, read_as, acceptable_read}
use Rattle.grammar.proofs.RecordChecks.{each_length}
use Rattle.grammar.proofs.Theorems.{reader_exactly}
use Rattle.theorems.specs.Demands.{columns_in, AsDerived}

module _ {A : Type 0} {file : Bytes} (f : Value → A) (g : Derived → A) (agree : (v : Value) (c : Derived) → ShowsCell file v c → f v ≡ g c) where
  cells_agree : {vs : List Value} {cs : List Derived} → Each (ShowsCell file) vs cs → map f vs ≡ map g cs
  cells_agree each_none = refl
  cells_agree (each_cons {x = v} {y = c} s k) = ap₂ (λ (x : A) (xs : List A). x ∷ xs) (agree v c s) (cells_agree k)

  records_agree : {rs : List Rec} {ls : List (Line Derived)} → Each (ShowsRecord file) rs ls → map f (concat (rows rs)) ≡ map g (concat (map cells_in ls))
  unfolding rows concat
  records_agree each_none = refl
  records_agree (each_cons {x = r} {xs = rs} {y = l} {ys = ls} s k) =
      map-append f r.cells (concat (rows rs)) ∙ ap₂ (λ (x y : List A). x ++ y) (cells_agree s.cells) (records_agree k) ∙
      sym (map-append g (cells_in l) (concat (map cells_in ls)))

header_columns : {file : Bytes} {h : Rec} {rs : List Rec} {ls : List (Line Derived)} → Each (ShowsRecord file) (h ∷ rs) ls → length h.cells ≡ columns_in ls
header_columns (each_cons s k) = each_length s.cells

pub no_records : {A : Type 0} {d : Dialect} → ChecksHold d [] → A
no_records = elim [ ]

none_read : {A : Type 0} {file : Bytes} {d : Dialect} {ls : List (Line Derived)} → Each (ShowsRecord file) [] ls → ChecksHold d ls → A
none_read each_none c = no_records c

pub as_derived :
    (n : ℕ) (d : Dialect) (file : Bytes) (room : ℕ) (ls : List (Line Derived)) → dialect_of n ≡ Some d → Acceptable d file ls → cell_count ls ≤ room →
    AsDerived ls (reader n file room)
unfolding choose◌then◌else◌
as_derived n d file room ls e a k = by_reading (acceptable_read d file ls a)
  where
    reported : (reader n file room).report ≡ accepted
    reported = (reader_exactly n d file room e).1 (ls, a, k)

    by_records :
        (rs : List Rec) → Each (ShowsRecord file) rs ls → (answered rs (concat (rows rs)) room).report ≡ accepted →
        AsDerived ls (answered rs (concat (rows rs)) room)
    by_records [] shows q = none_read shows a.checks
    by_records (h ∷ rs) shows q = go (ltb room (length (concat (rows (h ∷ rs))))) refl
      where
        go : (b : Bool) → ltb room (length (concat (rows (h ∷ rs)))) ≡ b → AsDerived ls (answered (h ∷ rs) (concat (rows (h ∷ rs))) room)
        go true p = ten (rw p at q)
        go false p =
            rw p
            (record {
              columns = header_columns shows;
              records = each_length shows;
              kinds = records_agree (λ (v : Value). v.kind) kind_in (λ v c s. s.kind) shows;
              contents = records_agree (λ (v : Value). v.content) content_in (λ v c s. s.content) shows;
            })

    by_reading : ReadAs d file ls → AsDerived ls (reader n file room)
    by_reading (read_as end s shows) =
        let w : reader n file room ≡ answered end.done (concat (rows end.done)) room = reader_known n d file room e ∙ ap (λ p. read_answer p room) s in
        rw w (by_records end.done shows (rw w at reported))
