-- The invariants of the two passes, and how each result of the cursor preserves them or ends the pass.
use Prim.Native.Nat.{ℕ, ◌+◌, ◌≤◌}
use native.Mathlib.Omega.{arith}
use mathlib.Core.Path.{◌≡◌, refl, sym, ap, subst, ◌∙◌}
use mathlib.Core.Bool.{Bool, true, false}
use Rattle.std.specs.Prelude.{Option, None, Some, Result, Ok, Err}
use mathlib.Core.List.{List, [], ◌∷◌, ◌++◌, append-nil}
use lib.ListN.{length, take, length-append}
use lib.Dec.{eqb}
use borrow.Author.Tests.{le-ltb}
use Rattle.model.specs.declared.Dialect.{Dialect}
use Rattle.model.specs.declared.Report.{Report}
use Rattle.model.specs.rules.Base.{Bytes, is_empty, over, choose◌then◌else◌}
use Rattle.model.specs.rules.Dialect.{into}
use Rattle.model.specs.laws.Laws.{Grows}
use Rattle.model.specs.rules.Text.{Value, record_text, table_text, ending}
use Rattle.model.specs.rules.Records.{Rec, rows, Read, Progress, going, stopped, read_file, records_of}
use Rattle.model.proofs.round_trip.TableText.{table_grows, table_snoc}
use Rattle.model.proofs.TargetLaws.{file_alone}
use Rattle.buffer.specs.Writes.{written, Room, WrittenAt}
use Rattle.buffer.proofs.WriteProgress.{Emitting, emitting, room_rest, put_next, put_whole, same_long, written_first}
use Rattle.cell_decoder.specs.declared.source.Source.TheVariants.{File}
use Rattle.cell_decoder.specs.Sources.{cells_in}
use Rattle.file_cursor.specs.declared.Cursor.{Cursor}
use Rattle.file_cursor.specs.NextRecord.{at_start, Next, NextRecordSound}
use Rattle.file_cursor.proofs.RecordChecks.{empty_none}
use Rattle.file_cursor.proofs.Traversal.{Walking, sets_out, sets_rs, walks_on, walks_rs, grows, at_end, at_fault}
use Rattle.file_converter.specs.Converts as converts
use Rattle.file_converter.specs.Converts.{answer_in, text_in, MeasureSound, Accepts}

-- ---- the first pass

module _ {d t : Dialect} {file : Bytes} {c : Cursor} (y : Walking d (Some t) file c) {s e k : List ℕ} {o : Result (Option Cursor) Report}
    (v : NextRecordSound d (Some t) file y.rs c.state c.offset s e k o) where
  pub measured_all : o ≡ Ok None → MeasureSound d t file (Ok c.written)
  measured_all q =
      let a = at_end v q in
      converts.accepted a.r (y.rest ∙ a.rest) (ap (λ (l : List Rec). length (table_text (into t) (rows l))) a.done ∙ y.after.text)

  pub measured_refused : {x : Report} → o ≡ Err x → MeasureSound d t file (Err x)
  measured_refused q =
      let a = at_fault v q in
      subst (λ (x : Report). MeasureSound d t file (Err x)) (sym a.report) (converts.refused a.fault a.r (y.rest ∙ a.rest))

-- ---- the second pass

-- the text of a file that is accepted and has room
pub answer_text : {d t : Dialect} {file : Bytes} {room : ℕ} (a : Accepts d t file room) → (answer_in d t file room).text ≡ text_in t a.r
unfolding choose◌then◌else◌
answer_text {t = t} {room = room} a = rw (a.reads, le-ltb room (length (text_in t a.r)) a.fits)

written_text : {old : Bytes} {o : ℕ} {w new : Bytes} {r : ℕ} → WrittenAt true old o w new r → new ≡ written old o w
unfolding choose◌then◌else◌
written_text p = p.text

-- the records so far are written
pub record Filling (d t : Dialect) (file old out : Bytes) (c : Cursor) (at : ℕ) : Type 0 where
  pub walk : Walking d None file c
  pub puts : WrittenAt true old 0 (table_text (into t) (rows walk.rs)) out at
  pub long : length out ≡ length old

pub fills : (d t : Dialect) (file old : Bytes) (c : Cursor) → c ≡ at_start → Filling d t file old old c 0
unfolding table_text rows
fills d t file old c q =
    let p : WrittenAt true old 0 [] old 0 = put_whole (emitting true (record { measured = λ z. omega arith; inside = λ z. omega arith })) in
    record { walk = sets_out d None file c q; puts = rw (sets_rs d None file c q) p; long = refl }

module _ {d t : Dialect} {file old out : Bytes} {c : Cursor} {at : ℕ} (y : Filling d t file old out c at) (a : Accepts d t file (length old)) where
  -- without its target the file is read to the same records
  alone : read_file d None file ≡ going a.r
  alone = file_alone d (into t) file a.r a.reads

  module _ {s e k : List ℕ} {v : Cursor} (n : Next d None file y.walk.rs c.state c.offset s e k v) where
    abbrev Cells-of : List Value
    Cells-of = cells_in (File d) file (take v.columns s) (take v.columns e) (take v.columns k)

    abbrev Text-of : Bytes
    Text-of = record_text (into t) (eqb c.done 0) Cells-of ++ ending t

    -- the text with one record more
    snoc : table_text (into t) (rows (y.walk.rs ++ (n.rec ∷ []))) ≡ table_text (into t) (rows y.walk.rs) ++ Text-of
    snoc =
        table_snoc (into t) y.walk.rs n.rec
        ∙ ap (λ (b : Bool). table_text (into t) (rows y.walk.rs) ++ (record_text (into t) b n.rec.cells ++ ending t))
        (sym (empty_none y.walk.rs c.done y.walk.after.count))
        ∙ ap (λ (vs : List Value). table_text (into t) (rows y.walk.rs) ++ (record_text (into t) (eqb c.done 0) vs ++ ending t)) (sym n.values)

    -- it is no longer than the text of all
    within : length (table_text (into t) (rows (y.walk.rs ++ (n.rec ∷ [])))) ≤ length old
    within =
        let g : Grows (y.walk.rs ++ (n.rec ∷ [])) a.r.done
        = subst (λ (p : Progress). Grows (y.walk.rs ++ (n.rec ∷ [])) (records_of p)) alone
        (subst (λ (l : List Rec). Grows l (records_of (read_file d None file))) (walks_rs y.walk n)
        (grows (walks_on y.walk n))) in
        let h = table_grows (into t) g in
        let l : length (text_in t a.r) ≡ length (table_text (into t) (rows (y.walk.rs ++ (n.rec ∷ [])))) + length h.added
        = ap length h.sum ∙ length-append (table_text (into t) (rows (y.walk.rs ++ (n.rec ∷ [])))) h.added in
        omega (arith, a.fits)

    both : Emitting true old 0 (table_text (into t) (rows y.walk.rs) ++ Text-of) out at Text-of
    both =
        record {
          w = table_text (into t) (rows y.walk.rs);
          so_far = y.puts;
          left = refl;
          room =
              record {
                measured = λ z. omega arith;
                inside =
                    λ z.
                    let l : length (table_text (into t) (rows (y.walk.rs ++ (n.rec ∷ []))))
                    ≡ length (table_text (into t) (rows y.walk.rs) ++ Text-of)
                    = ap length snoc in
                    let m : length (table_text (into t) (rows (y.walk.rs ++ (n.rec ∷ [])))) ≤ length old = within in omega arith;
              };
        }

    pub room_there : Room true at Text-of out
    room_there = room_rest both

    pub fills_on : {new : Bytes} {o : ℕ} → WrittenAt true out at Text-of new o → Filling d t file old new v o
    fills_on {new} {o} p =
        let q : Emitting true old 0 (table_text (into t) (rows y.walk.rs) ++ Text-of) new o []
        = put_next Text-of
        (subst (Emitting true old 0 (table_text (into t) (rows y.walk.rs) ++ Text-of) out at) (sym (append-nil Text-of)) both) p in
        record {
          walk = walks_on y.walk n;
          puts = rw (walks_rs y.walk n, snoc) (put_whole q);
          long = same_long q;
        }

    -- the same of a data record
    module _ (later : is_empty y.walk.rs ≡ false) where
      no_header : eqb c.done 0 ≡ false
      no_header = empty_none y.walk.rs c.done y.walk.after.count ∙ later

      pub room_data : Room true at (record_text (into t) false Cells-of ++ ending t) out
      room_data = subst (λ (b : Bool). Room true at (record_text (into t) b Cells-of ++ ending t) out) no_header room_there

      pub fills_data : {new : Bytes} {o : ℕ} → WrittenAt true out at (record_text (into t) false Cells-of ++ ending t) new o → Filling d t file old new v o
      fills_data {new} {o} p = fills_on (subst (λ (b : Bool). WrittenAt true out at (record_text (into t) b Cells-of ++ ending t) new o) (sym no_header) p)

  module _ {s e k : List ℕ} {o : Result (Option Cursor) Report} (v : NextRecordSound d None file y.walk.rs c.state c.offset s e k o) where
    pub filled_all : o ≡ Ok None → out ≡ over (answer_in d t file (length old)).text old
    filled_all q =
        let b = at_end v q in
        let same : going b.r ≡ going a.r = sym (y.walk.rest ∙ b.rest) ∙ alone in
        let r : b.r ≡ a.r = cc in
        let rs : y.walk.rs ≡ a.r.done = sym b.done ∙ ap (λ (r : Read). r.done) r in
        written_text y.puts ∙ ap (λ (l : List Rec). written old 0 (table_text (into t) (rows l))) rs ∙ written_first old (text_in t a.r)
        ∙ ap (λ (w : Bytes). over w old) (sym (answer_text a))

    pub never_refused : {A : Type 0} {x : Report} → o ≡ Err x → A
    never_refused q =
        let b = at_fault v q in
        let same : stopped b.fault b.r ≡ going a.r = sym (y.walk.rest ∙ b.rest) ∙ alone in
        let z : ◌≡◌ {A = ℕ} 0 1 = cc in
        absurd (omega arith)
