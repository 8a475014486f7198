-- The spans of the cells that were read are those of the derivation. The reader holds the next byte's offset and the offset at which
-- the current cell was opened, as `Runs` does, so each step of one is a step of the other.
use Prim.Native.Nat.{ℕ, suc}
use mathlib.Core.Path.{◌≡◌, refl, sym, ap, ◌∙◌}
use mathlib.Core.Bool.{Bool, true, false}
use Rattle.std.specs.Prelude.{None, Some}
use mathlib.Core.List.{List, [], ◌∷◌, ◌++◌, map, map-append, append_assoc, append-nil}
use lib.ListN.{length}
use lib.Dec.{ltb}
use Rattle.grammar.specs.rfc.Types.{Dialect, FileState, Begin, OfCell, Outside, Passed, Between, Tail, Ends, Step, Ok, Clean, Final}
use Rattle.grammar.specs.rfc.Types.{CheckResult, Err}
use Rattle.grammar.specs.rfc.Types as types
use Rattle.model.specs.rules.Base.{Bytes, choose◌then◌else◌, concat}
use Rattle.model.specs.rules.Dialect.{dialect_of}
use Rattle.model.specs.rules.File.{file_step, file_end}
use Rattle.model.specs.rules.Report.{accepted}
use Rattle.model.specs.rules.Records.{Rec, rows, Progress, stopped, Read, going, nothing_read, between_records, cell_now, closing, validated, complete}
use Rattle.model.specs.rules.Records.{move, file_full, record_full, record_fault, read_byte, read_from, read_bytes, end_between, read_end, read_file}
use Rattle.model.specs.rules.Api.{answered, read_answer, reader}
use Rattle.grammar.specs.rfc.Derived.{Derived, Line}
use Rattle.grammar.specs.dialects.Derives.{Derives}
use Rattle.grammar.specs.dialects.Spans.{Span, span, stretches, span_of, shown}
use Rattle.model.proofs.file_laws.FileSteps.{its_transition}
use Rattle.grammar.proofs.StepStages.{stage_of, cell_stage, between_stage, tail_stage, ends_stage}
use Rattle.grammar.proofs.DerivationState.{Tidy, tidy_rest, tidy_cell, recording_tidy, rest_tidy, rested_none, parted_tidy}
use Rattle.grammar.proofs.DerivationState.{moved_outside, moved_passed, moved_between, moved_tail}
use Rattle.grammar.proofs.dialects.ReadsWithSpans.{Runs}
use Rattle.grammar.proofs.dialects.ReadsWithSpans as walks
use Rattle.grammar.proofs.AcceptedOnly.{not_going, same_going, stopped_going}
use Rattle.grammar.proofs.dialects.FileGrammar.{derived_runs}
use Rattle.grammar.proofs.Acceptance.{accepted_going, ten}

-- the complete cells of the current record come before the rest of it
onto : List Span → List (List Span) → List (List Span)
onto cs [] = []
onto cs (ps ∷ ss) = (cs ++ ps) ∷ ss

onto_none : (ss : List (List Span)) → onto [] ss ≡ ss
unfolding onto
onto_none [] = refl
onto_none (ps ∷ ss) = refl

module _ (d : Dialect) (end : Read) where
  -- reading on from r reaches the end
  abbrev Comes : Read → Bytes → Type 0
  Comes r xs = read_end d None (read_from d None (going r) xs) ≡ going end

  -- the records are then those that were complete, and these
  abbrev Shows : Read → List (List Span) → Type 0
  Shows r ss = shown end.done ≡ shown r.done ++ onto (map span_of r.cells) ss

  byte_read :
      (r : Read) (b : ℕ) (bs : Bytes) (s : Step) → file_step d r.state b ≡ s → Comes r (b ∷ bs) →
      read_end d None (read_from d None (move d None r b s) bs) ≡ going end
  unfolding read_from read_byte choose◌then◌else◌
  byte_read r b bs s e q = go (file_full r) (record_full r b) refl refl
    where
      go : (x y : Bool) → file_full r ≡ x → record_full r b ≡ y → read_end d None (read_from d None (move d None r b s) bs) ≡ going end
      go true y f z = not_going d types.FileTooLong r bs (rw f at q)
      go false true f z = not_going d types.RecordTooLong r bs (rw (f, z) at q)
      go false false f z = rw (f, z, e) at q

  verdict_read :
      (r next : Read) (bs : Bytes) (v : CheckResult) → read_end d None (read_from d None (validated r next v) bs) ≡ going end → Comes next bs
  verdict_read r next bs (Ok _) q = q
  verdict_read r next bs (Err x) q = not_going d x r bs q

  -- the current cell closes where the run has it
  closing_onto :
      (r : Read) {o p : ℕ} (ps : List Span) (ss : List (List Span)) → r.offset ≡ o → r.opened ≡ p →
      onto (map span_of (closing d true r)) (ps ∷ ss) ≡ onto (map span_of r.cells) ((span p o ∷ ps) ∷ ss)
  unfolding onto
  closing_onto r ps ss po pp =
      rw (map-append span_of r.cells (cell_now d r ∷ []), append_assoc (map span_of r.cells) (span_of (cell_now d r) ∷ []) ps, po, pp)

  -- a complete record comes after those before it
  record_onto :
      (rs : List Rec) (r : Rec) (ss : List (List Span)) → shown (rs ++ (r ∷ [])) ++ onto [] ss ≡ shown rs ++ onto (map span_of r.cells) ([] ∷ ss)
  unfolding onto
  record_onto rs r ss =
      rw (
        map-append (λ (r : Rec). map span_of r.cells) rs (r ∷ []),
        append_assoc (shown rs) (map span_of r.cells ∷ []) (onto [] ss),
        onto_none ss,
        append-nil (map span_of r.cells),
      )

  between_same : (r : Read) (rs : List Rec) → end_between r rs ≡ going end → r ≡ end
  between_same r [] q = stopped_going q
  between_same r (h ∷ rs) q = same_going q

  validated_same : (r next : Read) (v : CheckResult) → validated r next v ≡ going end → next ≡ end
  validated_same r next (Ok _) q = same_going q
  validated_same r next (Err x) q = stopped_going q

  stepped : (r : Read) {f : FileState} (b : ℕ) (s : Step) → r.state ≡ f → file_step d f b ≡ s → file_step d r.state b ≡ s
  stepped r b s p e = ap (λ z. file_step d z b) p ∙ e

  walk_shows :
      {f : FileState} {o p : ℕ} {xs text raw : Bytes} {ls : List (Line Bytes)} {ss : List (List Span)} → Runs d f o p xs ls ss →
      (r : Read) → r.state ≡ f → r.offset ≡ o → r.opened ≡ p → Tidy (stage_of d r.state) text raw r.cells → Comes r xs → Shows r ss
  unfolding move complete read_from read_end onto
  walk_shows (walks.ends_clean {f} e) r pf po pp t q =
      let c : file_end d r.state ≡ Clean = ap (file_end d) pf ∙ e in
      let z : r ≡ end = between_same r r.done (rw c at q) in
      sym (ap (λ (x : Read). shown x.done) z) ∙ sym (append-nil (shown r.done))
  walk_shows (walks.ends_final {f} e) r pf po pp t q =
      let c : file_end d r.state ≡ Final = ap (file_end d) pf ∙ e in
      let made : Rec = record { start = r.start; size = r.size; cells = closing d true r } in
      let next : Read = between_records (r.done ++ (made ∷ [])) Begin r.offset in
      let z : next ≡ end = validated_same r next (record_fault d None r.done (closing d true r)) (rw c at q) in
      let a : shown (r.done ++ (made ∷ [])) ≡ shown (r.done ++ (made ∷ [])) ++ [] = sym (append-nil (shown (r.done ++ (made ∷ [])))) in
      sym (ap (λ (x : Read). shown x.done) z) ∙ a ∙ record_onto r.done made [] ∙ ap (λ z. shown r.done ++ z) (closing_onto r [] [] po pp)
  walk_shows (walks.outside {g} {b} {bs} e k) r pf po pp t q =
      let s = stepped r b (Ok (g, Outside)) pf e in
      let m = rested_none (moved_outside (its_transition s) t) in
      rw m.0 (walk_shows k _ refl (ap suc po) (ap suc po) (rest_tidy m.1) (byte_read r b bs (Ok (g, Outside)) s q))
  walk_shows (walks.passed {g} {b} {bs} e k) r pf po pp t q =
      let s = stepped r b (Ok (g, Passed)) pf e in
      let m = rested_none (moved_passed (its_transition s) t) in
      rw m.0 (walk_shows k _ refl (ap suc po) (ap suc po) (rest_tidy m.1) (byte_read r b bs (Ok (g, Passed)) s q))
  walk_shows {text} {raw} (walks.of_cell {g} {b} {bs} e k) r pf po pp t q =
      let s = stepped r b (Ok (g, OfCell)) pf e in
      let m : Tidy (stage_of d g) text raw r.cells = rw (cell_stage (its_transition s)) tidy_cell in
      walk_shows k _ refl (ap suc po) pp m (byte_read r b bs (Ok (g, OfCell)) s q)
  walk_shows (walks.between {g} {b} {bs} e k) r pf po pp t q =
      let s = stepped r b (Ok (g, Between false)) pf e in
      walk_shows k _ refl (ap suc po) (ap suc po) (parted_tidy (moved_between (its_transition s) t)) (byte_read r b bs (Ok (g, Between false)) s q)
  walk_shows {text} (walks.between_closing {g} {b} {bs} {ps} {ss} e k) r pf po pp t q =
      let s = stepped r b (Ok (g, Between true)) pf e in
      let m = recording_tidy {text = text} (between_stage (its_transition s)) in
      walk_shows k _ refl (ap suc po) (ap suc po) m (byte_read r b bs (Ok (g, Between true)) s q) ∙ ap (λ z. shown r.done ++ z) (closing_onto r ps ss po pp)
  walk_shows (walks.tail {g} {b} {bs} e k) r pf po pp t q =
      let s = stepped r b (Ok (g, Tail false)) pf e in
      walk_shows k _ refl (ap suc po) (ap suc po) (parted_tidy (moved_tail (its_transition s) t)) (byte_read r b bs (Ok (g, Tail false)) s q)
  walk_shows {text} (walks.tail_closing {g} {b} {bs} {ps} {ss} e k) r pf po pp t q =
      let s = stepped r b (Ok (g, Tail true)) pf e in
      let m = recording_tidy {text = text} (tail_stage (its_transition s)) in
      walk_shows k _ refl (ap suc po) (ap suc po) m (byte_read r b bs (Ok (g, Tail true)) s q) ∙ ap (λ z. shown r.done ++ z) (closing_onto r ps ss po pp)
  walk_shows (walks.ends {g} {b} {bs} {ss} e k) r pf po pp t q =
      let s = stepped r b (Ok (g, Ends false)) pf e in
      let made : Rec = record { start = r.start; size = r.size; cells = r.cells } in
      let next : Read = between_records (r.done ++ (made ∷ [])) g (suc r.offset) in
      let m = rest_tidy (ends_stage (its_transition s)) in
      walk_shows k next refl (ap suc po) (ap suc po) m
      (verdict_read r next bs (record_fault d None r.done r.cells) (byte_read r b bs (Ok (g, Ends false)) s q))
      ∙ record_onto r.done made ss
  walk_shows (walks.ends_closing {g} {b} {bs} {ss} e k) r pf po pp t q =
      let s = stepped r b (Ok (g, Ends true)) pf e in
      let made : Rec = record { start = r.start; size = r.size; cells = closing d true r } in
      let next : Read = between_records (r.done ++ (made ∷ [])) g (suc r.offset) in
      let m = rest_tidy (ends_stage (its_transition s)) in
      walk_shows k next refl (ap suc po) (ap suc po) m
      (verdict_read r next bs (record_fault d None r.done (closing d true r)) (byte_read r b bs (Ok (g, Ends true)) s q)) ∙
      record_onto r.done made ss ∙ ap (λ z. shown r.done ++ z) (closing_onto r [] ss po pp)

-- the reader's spans are those of every derivation
pub same_spans :
    (d : Dialect) (xs : Bytes) (ls : List (Line Derived)) (k : Derives d xs ls) (r : Read) → read_file d None xs ≡ going r →
    shown r.done ≡ stretches d xs ls k
unfolding read_file read_bytes nothing_read
same_spans d xs ls k r e = walk_shows d r (derived_runs d xs ls k) nothing_read refl refl refl tidy_rest e ∙ onto_none (stretches d xs ls k)

-- ---- the reader's call

rows_spans : (rs : List Rec) → map span_of (concat (rows rs)) ≡ concat (shown rs)
unfolding rows concat
rows_spans [] = refl
rows_spans (r ∷ rs) = map-append span_of r.cells (concat (rows rs)) ∙ ap (λ z. map span_of r.cells ++ z) (rows_spans rs)

-- the answer on an accepted file has all its cells
answered_cells :
    (rs : List Rec) (room : ℕ) → (answered rs (concat (rows rs)) room).report ≡ accepted →
    (answered rs (concat (rows rs)) room).cells ≡ concat (rows rs)
unfolding rows concat choose◌then◌else◌
answered_cells [] room e = refl
answered_cells (h ∷ rs) room e = go (ltb room (length (concat (rows (h ∷ rs))))) refl
  where
    go : (t : Bool) → ltb room (length (concat (rows (h ∷ rs)))) ≡ t → (answered (h ∷ rs) (concat (rows (h ∷ rs))) room).cells ≡ concat (rows (h ∷ rs))
    go true p = ten (rw p at e)
    go false p = rw p

-- the cells that it returns lie, in file order, where every derivation has them
pub reader_spans :
    (n : ℕ) (d : Dialect) (xs : Bytes) (room : ℕ) (ls : List (Line Derived)) (k : Derives d xs ls) → dialect_of n ≡ Some d →
    (reader n xs room).report ≡ accepted → map span_of (reader n xs room).cells ≡ concat (stretches d xs ls k)
unfolding reader
reader_spans n d xs room ls k dialect e = rw (dialect, reader) (go (read_file d None xs) refl (rw (dialect, reader) at e))
  where
    go : (p : Progress) → read_file d None xs ≡ p → (read_answer p room).report ≡ accepted → map span_of (read_answer p room).cells ≡ concat (stretches d xs ls k)
    go (going r) q e =
        ap (map span_of) (answered_cells r.done room e) ∙ rows_spans r.done ∙ ap concat (same_spans d xs ls k r q)
    go (stopped x r) q e = stopped_going (accepted_going (stopped x r) e).1
