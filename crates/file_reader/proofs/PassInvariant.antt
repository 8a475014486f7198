-- The invariant of a pass over the data records, and how each result of the scan preserves it or ends the pass.
use Prim.Native.Nat.{ℕ, suc, ◌+◌, ◌≤◌, ◌<◌}
use native.Mathlib.Omega.{arith}
use mathlib.Core.Path.{◌≡◌, refl, sym, ap, subst, ◌∙◌}
use mathlib.Core.Bool.{Bool, true, false}
use Rattle.std.specs.Prelude.{None, Ok, Err}
use mathlib.Core.List.{List, [], ◌∷◌, ◌++◌, map, map-append, append_assoc, append-nil}
use lib.ListN.{length, drop, length-append, length-map}
use Rattle.model.specs.declared.Dialect.{Dialect}
use Rattle.model.specs.declared.FileState.{FileState}
use Rattle.model.specs.declared.FileState.TheVariants.{Begin}
use Rattle.model.specs.declared.Fault.{Fault}
use Rattle.model.specs.declared.Report.{Report}
use Rattle.model.specs.rules.Types.{CheckResult}
use Rattle.model.specs.rules.Base.{Bytes, concat}
use Rattle.model.specs.rules.Text.{Value}
use Rattle.model.specs.rules.Report.{report, number_of, column_of, MAXFILE}
use Rattle.model.specs.rules.Records.{Rec, rows, Read, between_records, Progress, going, stopped, complete, read_from, read_end, record_fault, data_fault}
use Rattle.model.specs.rules.Records.{fault_report}
use Rattle.model.specs.rules.Api.{starts_of, ends_of, kinds_of}
use Rattle.file_cursor.specs.Next.{Next, next_record, EventInBounds}
use Rattle.record_scanner.specs.Stored.{stored_from}
use Rattle.file_cursor.specs.FileOutcome.{rest_of, ReadsAs}
use Rattle.file_cursor.specs.declared.scan.FileScan.{FileScan}
use Rattle.file_cursor.specs.declared.scan.FileScan.TheVariants.{Completed, LastRecord, Failed, End}
use Rattle.file_cursor.proofs.RecordByRecord.{stays, reads_on}
use Rattle.file_reader.specs.declared.pass.DataScan.{DataScan}
use Rattle.file_reader.specs.declared.pass.DataScan.TheVariants as next
use Rattle.file_reader.specs.Passes.{data_scan, Holds, PassOutcome, accepted, refused, PassSound}
use Rattle.record_scanner.proofs.FilledLists.{stored_from_append}
use Rattle.file_cursor.proofs.Complete.{report_start, report_byte, data_fault_lem, rec_of, complete_sound, complete_faulty}
use Rattle.file_cursor.proofs.Events.{on_record, on_last, on_fault, on_finish}

-- ---- lists

-- more cells are stored after those that are there
stored_more :
    (φ : Value → ℕ) (room n : ℕ) (vs ws : List Value) (old new out : List ℕ) → length vs ≡ n → new ≡ stored_from room 0 (map φ vs) old →
    out ≡ stored_from room n (map φ ws) new → out ≡ stored_from room 0 (map φ (vs ++ ws)) old
stored_more φ room n vs ws old new out l e f =
    let m : length (map φ vs) ≡ n = length-map vs φ ∙ l in
    let z : n ≡ 0 + length (map φ vs) = omega arith in
    f
    ∙ ap (λ (xs : List ℕ). stored_from room n (map φ ws) xs) e
    ∙ ap (λ (i : ℕ). stored_from room i (map φ ws) (stored_from room 0 (map φ vs) old)) z
    ∙ sym (stored_from_append room 0 (map φ vs) (map φ ws) old)
    ∙ ap (λ (xs : List ℕ). stored_from room 0 xs old) (sym (map-append φ vs ws))

pub more_held :
    (room n : ℕ) (vs ws : List Value) (s₀ e₀ k₀ s e ks s' e' k' : List ℕ) → length vs ≡ n → Holds room vs s₀ e₀ k₀ s e ks →
    (s' ≡ stored_from room n (starts_of ws) s) → (e' ≡ stored_from room n (ends_of ws) e) → (k' ≡ stored_from room n (kinds_of ws) ks) →
    Holds room (vs ++ ws) s₀ e₀ k₀ s' e' k'
more_held room n vs ws s₀ e₀ k₀ s e ks s' e' k' l y a b c =
    record {
      at_starts = stored_more _ room n vs ws s₀ s s' l y.at_starts a;
      at_ends = stored_more _ room n vs ws e₀ e e' l y.at_ends b;
      at_kinds = stored_more _ room n vs ws k₀ ks k' l y.at_kinds c;
    }

rows_snoc : (ds : List Rec) (r : Rec) → concat (rows (ds ++ (r ∷ []))) ≡ concat (rows ds) ++ r.cells
unfolding rows concat
rows_snoc [] r = append-nil r.cells
rows_snoc (x ∷ ds) r = ap (λ (l : List Value). x.cells ++ l) (rows_snoc ds r) ∙ sym (append_assoc x.cells (concat (rows ds)) r.cells)

length_snoc : (ds : List Rec) (r : Rec) → length (ds ++ (r ∷ [])) ≡ length ds + 1
length_snoc ds r = length-append ds (r ∷ [])

-- ---- the next data record

none_such : {A : Type 0} → ◌≡◌ {A = ℕ} 0 1 → A
none_such z = absurd (omega arith)

-- which event of reading it is
is_record :
    (m : ℕ) (x : FileScan) (start n : ℕ) (g : FileState) (o : ℕ) → next.Record start n g o false ≡ data_scan m x → x ≡ Completed start n g o
is_record m (Completed start' n' g' o') start n g o z = cc
is_record m (LastRecord start' n') start n g o z = none_such cc
is_record m (Failed x' o') start n g o z = none_such cc
is_record m (End o') start n g o z = none_such cc

is_last : (m : ℕ) (x : FileScan) (start n : ℕ) (g : FileState) (o : ℕ) → next.Record start n g o true ≡ data_scan m x → x ≡ LastRecord start n
is_last m (Completed start' n' g' o') start n g o z = none_such cc
is_last m (LastRecord start' n') start n g o z = cc
is_last m (Failed x' o') start n g o z = none_such cc
is_last m (End o') start n g o z = none_such cc

is_fault : (m : ℕ) (x : FileScan) (t : Fault) (o : ℕ) → next.Failed t o ≡ data_scan m x → x ≡ Failed t o
is_fault m (Completed start' n' g' o') t o z = none_such cc
is_fault m (LastRecord start' n') t o z = none_such cc
is_fault m (Failed t' o') t o z = cc
is_fault m (End o') t o z = none_such cc

-- the offset of the file's end
abbrev end_of : FileScan → ℕ
end_of (Completed start n g o) = 0
end_of (LastRecord start n) = 0
end_of (Failed t o) = 0
end_of (End o) = o

is_end_lem : (m : ℕ) (x : FileScan) → next.End ≡ data_scan m x → x ≡ End (end_of x)
is_end_lem m (Completed start' n' g' o') z = none_such cc
is_end_lem m (LastRecord start' n') z = none_such cc
is_end_lem m (Failed t' o') z = none_such cc
is_end_lem m (End o') z = refl

-- ---- the invariant

-- what a pass is given: where it begins, the header's columns and the lists as they were
pub record Call : Type 0 where
  pub d : Dialect
  pub file : Bytes
  pub from : ℕ
  pub first : FileState
  pub columns : ℕ
  pub room : ℕ
  pub s₀ : List ℕ
  pub e₀ : List ℕ
  pub k₀ : List ℕ

module _ (call : Call) where
  open call use {d, file, from, first, columns, room, s₀, e₀, k₀}

  -- after the header h and this number of data records with these cells, reading is at i
  pub record Turned (h : Rec) (vs : List Value) (f : FileState) (i records : ℕ) : Type 0 where
    pub ds : List Rec
    pub cells : concat (rows ds) ≡ vs
    pub count : length ds ≡ records
    pub rest : rest_of d None file (h ∷ []) first from ≡ rest_of d None file (h ∷ ds) f i

  pub record Going (f : FileState) (i cells records : ℕ) (s e k : List ℕ) : Type 0 where
    pub vs : List Value
    pub lists : Holds room vs s₀ e₀ k₀ s e k
    pub counted : length vs ≡ cells
    pub inside : i ≤ length file
    pub under : i ≤ MAXFILE
    pub few : cells ≤ i
    pub many : records ≤ i
    pub turn : (h : Rec) → length h.cells ≡ columns → Turned h vs f i records

  pub goes : from ≤ length file → from ≤ MAXFILE → Going first from 0 0 s₀ e₀ k₀
  unfolding stored_from rows concat
  goes l m =
      record {
        vs = [];
        lists = record { at_starts = refl; at_ends = refl; at_kinds = refl };
        counted = refl;
        inside = l;
        under = m;
        few = omega arith;
        many = omega arith;
        turn = λ h q. record { ds = []; cells = refl; count = refl; rest = refl };
      }

  module _ {f : FileState} {i cells records : ℕ} {s e k : List ℕ} (y : Going f i cells records s e k) where
    abbrev Here : Next
    Here = next_record d (between_records [] f i) (drop i file)

    -- the next data record
    module _ {v : DataScan} {s' e' k' : List ℕ}
        (found :
        (v ≡ data_scan (length file) Here.event)
        × ((s' ≡ stored_from room cells (starts_of Here.cells) s)
        × ((e' ≡ stored_from room cells (ends_of Here.cells) e)
        × ((k' ≡ stored_from room cells (kinds_of Here.cells) k) × EventInBounds (length file) i cells Here.event)))) where
      pub now_held : Holds room (y.vs ++ Here.cells) s₀ e₀ k₀ s' e' k'
      now_held =
          more_held room cells y.vs Here.cells s₀ e₀ k₀ s e k s' e' k' y.counted y.lists
          found.1.0 found.1.1.0 found.1.1.1.0

      next_follows : (h : Rec) (ds : List Rec) → ReadsAs d None file (h ∷ ds) Here (rest_of d None file (h ∷ ds) f i)
      next_follows h ds = reads_on d None file (h ∷ ds) f i y.inside

      number : (r : Read) (h : Rec) (ds : List Rec) → r.done ≡ h ∷ ds → length ds ≡ records → length r.done ≡ suc records
      number r h ds q c = ap length q ∙ ap suc c

      two_more : suc (suc records) ≡ records + 2
      two_more = omega arith

      -- ---- a record

      module _ (start n : ℕ) (g : FileState) (o : ℕ) (last : Bool) (w : v ≡ next.Record start n g o last) (u : CheckResult)
          (j : (ws : List Value) → length ws ≡ n → u ≡ data_fault columns ws) where
        abbrev Is : Bool → Type 0
        Is l = next.Record start n g o l ≡ data_scan (length file) Here.event

        here : Is last
        here = sym w ∙ found.0

        complete_here : Is false → Here.event ≡ Completed start n g o
        complete_here z = is_record (length file) Here.event start n g o z

        last_here : Is true → Here.event ≡ LastRecord start n
        last_here z = is_last (length file) Here.event start n g o z

        -- the record, whatever completes it, and that a fault of it ends reading
        record AtData (rs : List Rec) (p : Progress) : Type 0 where
          pub r : Read
          pub done : r.done ≡ rs
          pub starts : r.start ≡ start
          pub counts : length Here.cells ≡ n
          pub stops : (x : Fault) → record_fault d None r.done Here.cells ≡ Err x → p ≡ stopped x r

        at_data : (rs : List Rec) (p : Progress) → ReadsAs d None file rs Here p → (l : Bool) → Is l → AtData rs p
        at_data rs p t false z =
            let at = on_record d None file rs Here p t start n g o (complete_here z) in
            record {
              r = at.r;
              done = at.done;
              starts = at.starts;
              counts = at.counts;
              stops =
                  λ x q.
                  at.rest ∙ ap (λ (b : Progress). read_end d None (read_from d None b (drop o file)))
                  (complete_faulty d None at.r Here.cells g o x q)
                  ∙ sym (stays d None x at.r (drop o file));
            }
        at_data rs p t true z =
            let at = on_last d None file rs Here p t start n (last_here z) in
            record {
              r = at.r;
              done = at.done;
              starts = at.starts;
              counts = at.counts;
              stops = λ x q. at.rest ∙ complete_faulty d None at.r Here.cells Begin (length file) x q;
            }

        few_of : (l : Bool) → Is l → cells + n ≤ MAXFILE + 1
        few_of false z =
            let m : (i < o) × (o ≤ length file) × (o ≤ MAXFILE) × (cells + n ≤ o)
            = subst (EventInBounds (length file) i cells) (complete_here z) found.1.1.1.1 in
            let a : o ≤ MAXFILE = m.2 in
            let b : cells + n ≤ o = m.3 in
            omega arith
        few_of true z =
            let m : (length file ≤ MAXFILE) × (cells + n ≤ length file + 1)
            = subst (EventInBounds (length file) i cells) (last_here z) found.1.1.1.1 in
            let a : length file ≤ MAXFILE = m.0 in
            let b : cells + n ≤ length file + 1 = m.1 in
            omega arith

        pub few_here : cells + n ≤ MAXFILE + 1
        few_here = few_of last here

        counts_here : length Here.cells ≡ n
        counts_here = (at_data [] _ (reads_on d None file [] f i y.inside) last here).counts

        validated_here : u ≡ data_fault columns Here.cells
        validated_here = j Here.cells counts_here

        total : length (y.vs ++ Here.cells) ≡ cells + n
        total = length-append y.vs Here.cells ∙ ap (λ (x : ℕ). x + length Here.cells) y.counted ∙ ap (λ (x : ℕ). cells + x) counts_here

        -- what its check says of reading after the records of which the first is the header h
        fault_of :
            (h : Rec) (ds : List Rec) (r : Read) → length h.cells ≡ columns → r.done ≡ h ∷ ds →
            record_fault d None r.done Here.cells ≡ u
        fault_of h ds r q a =
            ap (λ (l : List Rec). record_fault d None l Here.cells) a ∙ data_fault_lem d h ds Here.cells
            ∙ ap (λ (m : ℕ). data_fault m Here.cells) q ∙ sym validated_here

        sound_record :
            (h : Rec) (ds : List Rec) (r : Read) (g' : FileState) (o' : ℕ) → length h.cells ≡ columns → r.done ≡ h ∷ ds → u ≡ Ok tt →
            complete d None r Here.cells g' o' ≡ going (between_records (h ∷ (ds ++ (rec_of r Here.cells ∷ []))) g' o')
        sound_record h ds r g' o' q a z =
            complete_sound d None r Here.cells g' o' (fault_of h ds r q a ∙ z)
            ∙ ap (λ (l : List Rec). going (between_records (l ++ (rec_of r Here.cells ∷ [])) g' o')) a

        pub record_refused :
            (x : Fault) → u ≡ Err x → (t : Report) → t ≡ report (number_of x) (records + 2) (column_of x) start →
            PassSound d file from first columns room s₀ e₀ k₀ (Err t) s' e' k'
        record_refused x z t te =
            record { vs = y.vs ++ Here.cells; lists = now_held; outcome = λ h q. out h q (y.turn h q); few = tt }
          where
            out :
                (h : Rec) → length h.cells ≡ columns → Turned h y.vs f i records →
                PassOutcome h (y.vs ++ Here.cells) (rest_of d None file (h ∷ []) first from) (Err t)
            out h q a =
                let at : AtData (h ∷ a.ds) (rest_of d None file (h ∷ a.ds) f i) = at_data (h ∷ a.ds) _ (next_follows h a.ds) last here in
                let fault : record_fault d None at.r.done Here.cells ≡ Err x = fault_of h a.ds at.r q at.done ∙ z in
                let p : rest_of d None file (h ∷ []) first from ≡ stopped x at.r = a.rest ∙ at.stops x fault in
                let b : t ≡ fault_report x at.r
                = te ∙ ap (λ (m : ℕ). report (number_of x) m (column_of x) start) (sym two_more)
                ∙ ap (λ (m : ℕ). report (number_of x) (suc (suc records)) (column_of x) m) (sym at.starts)
                ∙ report_start d None at.r Here.cells x (suc records) fault (number at.r h a.ds at.done a.count) in
                subst (λ (m : Progress). PassOutcome h (y.vs ++ Here.cells) m (Err t)) (sym p)
                (subst (λ (m : Report). PassOutcome h (y.vs ++ Here.cells) (stopped x at.r) (Err m)) (sym b) (refused x at.r))

        -- ---- a sound record: more may follow, or the file's end completed it

        pub fits_here : last ≡ false → (i < o) × (o ≤ length file) × (o ≤ MAXFILE) × (cells + n ≤ o)
        fits_here z = subst (EventInBounds (length file) i cells) (complete_here (subst Is z here)) found.1.1.1.1

        pub record_on : last ≡ false → u ≡ Ok tt → Going g o (cells + n) (records + 1) s' e' k'
        record_on lz z =
            let m = fits_here lz in
            let a : i < o = m.0 in
            let b : o ≤ length file = m.1 in
            let c : o ≤ MAXFILE = m.2 in
            let l : cells + n ≤ o = m.3 in
            let q : records ≤ i = y.many in
            record {
              vs = y.vs ++ Here.cells;
              lists = now_held;
              counted = total;
              inside = b;
              under = c;
              few = omega arith;
              many = omega arith;
              turn = λ h t. turned h t (y.turn h t);
            }
          where
            turned : (h : Rec) → length h.cells ≡ columns → Turned h y.vs f i records → Turned h (y.vs ++ Here.cells) g o (records + 1)
            turned h t x =
                let at = on_record d None file (h ∷ x.ds) Here _ (next_follows h x.ds) start n g o (complete_here (subst Is lz here)) in
                let rec : Rec = rec_of at.r Here.cells in
                record {
                  ds = x.ds ++ (rec ∷ []);
                  cells = rows_snoc x.ds rec ∙ ap (λ (l : List Value). l ++ Here.cells) x.cells;
                  count = length_snoc x.ds rec ∙ ap (λ (m : ℕ). m + 1) x.count;
                  rest =
                      x.rest ∙ at.rest
                      ∙ ap (λ (p : Progress). read_end d None (read_from d None p (drop o file)))
                      (sound_record h x.ds at.r g o t at.done z);
                }

        pub last_accepted :
            last ≡ true → u ≡ Ok tt →
            PassSound d file from first columns room s₀ e₀ k₀ (Ok (record { records = records + 1; cells = cells + n })) s' e' k'
        last_accepted lz z =
            record { vs = y.vs ++ Here.cells; lists = now_held; outcome = λ h q. out h q (y.turn h q); few = few_here }
          where
            out :
                (h : Rec) → length h.cells ≡ columns → Turned h y.vs f i records →
                PassOutcome h (y.vs ++ Here.cells) (rest_of d None file (h ∷ []) first from) (Ok (record { records = records + 1; cells = cells + n }))
            out h q a =
                let at = on_last d None file (h ∷ a.ds) Here _ (next_follows h a.ds) start n (last_here (subst Is lz here)) in
                let rec : Rec = rec_of at.r Here.cells in
                let ds : List Rec = a.ds ++ (rec ∷ []) in
                let p : rest_of d None file (h ∷ []) first from ≡ going (between_records (h ∷ ds) Begin (length file))
                = a.rest ∙ at.rest ∙ sound_record h a.ds at.r Begin (length file) q at.done z in
                let c : length ds ≡ records + 1 = length_snoc a.ds rec ∙ ap (λ (m : ℕ). m + 1) a.count in
                let t : concat (rows ds) ≡ y.vs ++ Here.cells = rows_snoc a.ds rec ∙ ap (λ (l : List Value). l ++ Here.cells) a.cells in
                rw (p, sym c, sym total) (accepted (between_records (h ∷ ds) Begin (length file)) ds refl t)

      -- ---- a fault, and the end of the file

      pub fault_refused :
          (x : Fault) (o : ℕ) → v ≡ next.Failed x o → (t : Report) → t ≡ report (number_of x) (records + 2) (column_of x) o →
          PassSound d file from first columns room s₀ e₀ k₀ (Err t) s' e' k'
      fault_refused x o w t te =
          record { vs = y.vs ++ Here.cells; lists = now_held; outcome = λ h q. out h q (y.turn h q); few = tt }
        where
          out :
              (h : Rec) → length h.cells ≡ columns → Turned h y.vs f i records →
              PassOutcome h (y.vs ++ Here.cells) (rest_of d None file (h ∷ []) first from) (Err t)
          out h q a =
              let at = on_fault d None file (h ∷ a.ds) Here _ (next_follows h a.ds) x o
              (is_fault (length file) Here.event x o (sym w ∙ found.0)) in
              let p : rest_of d None file (h ∷ []) first from ≡ stopped x at.r = a.rest ∙ at.rest in
              let z : t ≡ fault_report x at.r
              = te ∙ ap (λ (m : ℕ). report (number_of x) m (column_of x) o) (sym two_more)
              ∙ ap (λ (m : ℕ). report (number_of x) (suc (suc records)) (column_of x) m) (sym at.place)
              ∙ (report_byte x at.r (suc records) at.byte (number at.r h a.ds at.done a.count)) in
              rw (p, z) (refused x at.r)

      pub finish_accepted : v ≡ next.End → PassSound d file from first columns room s₀ e₀ k₀ (Ok (record { records = records; cells = cells })) s' e' k'
      finish_accepted w =
          record { vs = y.vs ++ Here.cells; lists = now_held; outcome = λ h q. out h q (y.turn h q); few = small }
        where
          small : cells ≤ MAXFILE + 1
          small = let a : cells ≤ i = y.few in let b : i ≤ MAXFILE = y.under in omega arith

          out :
              (h : Rec) → length h.cells ≡ columns → Turned h y.vs f i records →
              PassOutcome h (y.vs ++ Here.cells) (rest_of d None file (h ∷ []) first from) (Ok (record { records = records; cells = cells }))
          out h q a =
              let at = on_finish d None file (h ∷ a.ds) Here _ (next_follows h a.ds) _
              (is_end_lem (length file) Here.event (sym w ∙ found.0)) in
              let p : rest_of d None file (h ∷ []) first from ≡ going at.r = a.rest ∙ at.rest in
              let n : Here.cells ≡ [] = at.none_left in
              let t : y.vs ++ Here.cells ≡ y.vs = ap (λ (l : List Value). y.vs ++ l) n ∙ append-nil y.vs in
              let c : length (y.vs ++ Here.cells) ≡ cells = ap length t ∙ y.counted in
              subst (λ (g : Progress). PassOutcome h (y.vs ++ Here.cells) g (Ok (record { records = records; cells = cells }))) (sym p)
              (subst (λ (m : ℕ). PassOutcome h (y.vs ++ Here.cells) (going at.r) (Ok (record { records = m; cells = cells }))) a.count
              (subst (λ (m : ℕ). PassOutcome h (y.vs ++ Here.cells) (going at.r) (Ok (record { records = length a.ds; cells = m }))) c
              (accepted at.r a.ds at.done (a.cells ∙ sym t))))
