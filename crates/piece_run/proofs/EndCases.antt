-- What the code does at the end of the file, case by case: it returns what the laws of the end say.
use Prim.Native.Nat.{ℕ, suc, ◌+◌, ◌≤◌, ◌<◌}
use native.Mathlib.Omega.{arith}
use native.Mathlib.Numerals.{add-one}
use mathlib.Core.Path.{◌≡◌, refl, sym, ap, ap₂, subst, ◌∙◌}
use mathlib.Core.List.{List, [], ◌∷◌, ◌++◌, append_assoc, append-nil}
use lib.ListN.{length, take, set, length-append, length-map}
use lib.Seq.{take-suc-set}
use Rattle.model.specs.rules.Base.{Bytes, is_empty}
use Rattle.model.specs.rules.File.{file_end}
use Rattle.model.specs.rules.Text.{Value, record_text, table_text, ending}
use Rattle.model.specs.rules.Report.{accepted, report, number_of, column_of, LEASTOUTPUT, MAXCOLUMNS}
use Rattle.model.specs.rules.Records.{Rec, rows, Progress, going, stopped, between_records, fault_report, report_of, records_of}
use Rattle.model.specs.laws.RoundTrips.{SameCells}
use Rattle.model.specs.laws.Scans.{RawCell, Buffered, value_of}
use Rattle.model.specs.laws.Places.{buffered_bytes, buffered_ends}
use Rattle.model.specs.laws.Machine.{new_text}
use Rattle.buffer.specs.Writes.{written}
use Rattle.buffer.proofs.WriteProgress.{written_first}
use Rattle.piece_state.specs.Sound.{InOrder, order_end, order_next}
use Rattle.piece_state.specs.CurrentRecord.{CurrentRecord}
use Rattle.piece_state.specs.declared.place.Place.{Place}
use Rattle.piece_step.specs.Types.{Dialect, Target, Begin, Final, Fault, TooManyColumns, Ok, Err}
use Rattle.piece_record.specs.declared.RecordError.TheVariants.{Refused, Invalid}
use Rattle.piece_step.specs.declared.CallResult.{CallResult}
use Rattle.piece_step.specs.Invariant.{read_at, StateInvariant}
use Rattle.piece_record.specs.Completion.{RecordResult, fault_at, text_at, FinishSound, is_written, is_refused, has_no_room, CompleteSound, not_encoded, ruled, buffered_values}
use Rattle.piece_step.specs.Calls.{CallStart, Finished}
use Rattle.piece_step.proofs.Writes.{end_room, new_length, new_none, new_more, grows_none, grows_more}
use Rattle.piece_step.proofs.BufferedParts.{order_append}
use Rattle.piece_step.proofs.ScanAnswers.{current_of_lem, kept_same, kept_followed}
use Rattle.piece_step.proofs.Steps.{same_self, too_many_fault}
use Rattle.piece_run.proofs.EndLaws.{read_last, last_cells, last_values, done_last, last_whole, last_faulty, last_reports, last_sound, last_text}

-- ---- a call that writes nothing

module _ (d : Dialect) (t : Target) (p : Place) (done : List Rec) (k : Buffered) (out : List ℕ) (r : CallResult) where
  nothing_new :
      (q : Progress) → read_last d t p done k ≡ q → records_of q ≡ done → r.place ≡ p → r.report ≡ report_of q → r.length ≡ 0 → Finished d t p done k out out r
  nothing_new q e f s g l =
      let none : new_text t done (records_of q) ≡ [] = ap (new_text t done) f ∙ new_none t done in
      record { place = s; reports = rw e g; text = rw (e, none); long = rw (e, none) l }

  pub finish_fault :
      (x : Fault) → read_last d t p done k ≡ stopped x (read_at d p done k) → r.place ≡ p → r.report ≡ fault_report x (read_at d p done k) →
      r.length ≡ 0 → Finished d t p done k out out r
  finish_fault x e s g l = nothing_new (stopped x (read_at d p done k)) e refl s g l

  pub finish_clean : read_last d t p done k ≡ going (read_at d p done k) → r.place ≡ p → r.report ≡ accepted → r.length ≡ 0 → Finished d t p done k out out r
  finish_clean e s g l = nothing_new (going (read_at d p done k)) e refl s g l

-- ---- the current cell is appended

last_bytes : (cs : List RawCell) (c : RawCell) → buffered_bytes (cs ++ (c ∷ [])) ≡ buffered_bytes cs ++ c.bytes
unfolding buffered_bytes
last_bytes [] c = append-nil c.bytes
last_bytes (x ∷ cs) c = ap (λ (l : Bytes). x.bytes ++ l) (last_bytes cs c) ∙ sym (append_assoc x.bytes (buffered_bytes cs) c.bytes)

last_ends :
    (o : ℕ) (cs : List RawCell) (c : RawCell) →
    buffered_ends o (cs ++ (c ∷ [])) ≡ buffered_ends o cs ++ ((o + length (buffered_bytes cs) + length c.bytes) ∷ [])
unfolding buffered_bytes buffered_ends
last_ends o [] c = let e : o + length c.bytes ≡ o + 0 + length c.bytes = omega arith in ap (λ (n : ℕ). n ∷ []) e
last_ends o (x ∷ cs) c =
    let e : o + length x.bytes + length (buffered_bytes cs) + length c.bytes ≡ o + length (x.bytes ++ buffered_bytes cs) + length c.bytes =
    omega (arith, length-append x.bytes (buffered_bytes cs)) in
    ap (λ (l : List ℕ). (o + length x.bytes) ∷ l)
    (last_ends (o + length x.bytes) cs c ∙ ap (λ (n : ℕ). buffered_ends (o + length x.bytes) cs ++ (n ∷ [])) e)

pub last_hand :
    {bytes : Bytes} {fill : ℕ} {ends : List ℕ} {cells : List RawCell} {raw : Bytes} (c : RawCell) → CurrentRecord bytes fill ends cells raw →
    c.bytes ≡ raw → length cells < length ends → CurrentRecord bytes fill (set ends (length cells) fill) (cells ++ (c ∷ [])) []
last_hand {bytes} {fill} {ends} {cells} {raw} c h e l =
    let b : buffered_bytes (cells ++ (c ∷ [])) ≡ buffered_bytes cells ++ raw = last_bytes cells c ∙ ap (λ (x : Bytes). buffered_bytes cells ++ x) e in
    let n : length (cells ++ (c ∷ [])) ≡ suc (length cells) = length-append cells (c ∷ []) ∙ add-one (length cells) in
    let f : fill ≡ 0 + length (buffered_bytes cells) + length c.bytes = omega (arith, h.filled, ap length e) in
    record {
      held = h.held ∙ sym b ∙ sym (append-nil (buffered_bytes (cells ++ (c ∷ []))));
      filled = omega (arith, h.filled, ap length b, length-append (buffered_bytes cells) raw);
      ended =
          ap (λ (m : ℕ). take m (set ends (length cells) fill)) n ∙ take-suc-set ends (length cells) fill l
          ∙ ap₂ (λ (x : List ℕ) (y : ℕ). x ++ (y ∷ [])) h.ended f ∙ sym (last_ends 0 cells c);
    }

pub last_order : (ends : List ℕ) (last fill : ℕ) → InOrder 0 (take last ends) fill → last < length ends → InOrder 0 (take (last + 1) (set ends last fill)) fill
last_order ends last fill h l =
    let g : fill ≤ fill = omega arith in
    let e : take (last + 1) (set ends last fill) ≡ take last ends ++ (fill ∷ []) =
    ap (λ (m : ℕ). take m (set ends last fill)) (add-one last) ∙ take-suc-set ends last fill l in
    rw e (order_append h (order_next g (order_end g)))

-- ---- a last record

-- its text ends in the output, from any state
pub last_room :
    {d : Dialect} {t : Target} {p : Place} {bytes ends out out' : List ℕ} {end : ℕ} → CompleteSound d t p bytes ends 0 out out' (Ok end) → end ≤ length out
last_room (not_encoded z w y) = let x : ◌≡◌ {A = ℕ} 0 1 = cc in absurd (omega arith)
last_room (ruled (is_written v l w e)) = omega arith

module _ (d : Dialect) (t : Target) (p : Place) (bytes ends out : List ℕ) (done : List Rec) (k : Buffered)
    (b : CallStart d t [] p bytes ends out done k) (e : file_end d p.state ≡ Final) where
  abbrev hold : StateInvariant d t p bytes ends done k
  hold = b.hold

  counted : length (last_cells d t p done k) ≡ p.cells + 1
  counted = omega (arith, length-append k.cells (record { from = k.opened; upto = p.offset; bytes = k.raw } ∷ []), hold.cells)

  refuses :
      (x : Fault) (ws : List Value) (r : CallResult) → SameCells ws (last_values d t p done k) → fault_at d t p ws ≡ Err x → r.place ≡ p →
      r.report ≡ report (number_of x) (p.records + 1) (column_of x) p.start → r.length ≡ 0 → Finished d t p done k out out r
  refuses x ws r same q s g l =
      finish_fault d t p done k out r x (last_faulty d t p done k hold e ws same x q) s (g ∙ sym (last_reports d t p done k hold e ws same x q)) l

  pub finish_many :
      MAXCOLUMNS ≤ p.cells → (r : CallResult) → r.place ≡ p →
      r.report ≡ report (number_of TooManyColumns) (p.records + 1) (column_of TooManyColumns) p.start → r.length ≡ 0 →
      Finished d t p done k out out r
  finish_many h r s g l =
      let ws : List Value = last_values d t p done k in
      let m : length ws ≡ p.cells + 1 = length-map (last_cells d t p done k) (value_of d) ∙ counted in
      refuses TooManyColumns ws r (same_self ws) (too_many_fault d t p ws (omega arith)) s g l

  module _ (few : p.cells < MAXCOLUMNS) (long_ends : length ends ≡ MAXCOLUMNS) (ends' : List ℕ) (is_set : ends' ≡ set ends p.cells p.fill) where
    hand : CurrentRecord bytes p.fill ends' (last_cells d t p done k) []
    hand =
        let c : RawCell = record { from = k.opened; upto = p.offset; bytes = k.raw } in
        let l : length k.cells ≤ MAXCOLUMNS = omega (arith, hold.cells) in
        let z : CurrentRecord bytes p.fill (set ends (length k.cells) p.fill) (k.cells ++ (c ∷ [])) [] =
        last_hand c (current_of_lem (hold.shown l)) refl (omega (arith, hold.cells)) in
        let same : ends' ≡ set ends (length k.cells) p.fill = is_set ∙ ap (λ (n : ℕ). set ends n p.fill) hold.cells in
        rw same z

    abbrev theirs : List Value
    theirs = buffered_values d bytes (take (p.cells + 1) ends')

    same_theirs : SameCells theirs (last_values d t p done k)
    same_theirs = rw counted at (kept_same hand d)

    -- the text
    module _ (v : fault_at d t p theirs ≡ Ok tt) where
      reads : read_last d t p done k ≡ going (between_records (done_last d t p done k) Begin p.offset)
      reads = last_sound d t p done k hold e theirs same_theirs v

      new : new_text t done (done_last d t p done k) ≡ text_at t p theirs
      new =
          new_more t (record { start = k.start; size = p.size; cells = last_values d t p done k }) (grows_none t done)
          ∙ ap (λ (l : Bytes). l ++ (record_text t (is_empty done) (last_values d t p done k) ++ ending t.dialect)) (new_none t done)
          ∙ sym (last_text d t p done k hold e theirs same_theirs)

      fits : length (text_at t p theirs) ≤ LEASTOUTPUT
      fits =
          let most : length (table_text t (rows (done_last d t p done k))) ≤ length (table_text t (rows done)) + LEASTOUTPUT =
          end_room d t b.reached.consumed (read_at d p done k) b.reached.reads (between_records (done_last d t p done k) Begin p.offset) reads in
          let sum : length (table_text t (rows done)) + length (new_text t done (done_last d t p done k)) ≡ length (table_text t (rows (done_last d t p done k))) =
          new_length t (grows_more t (record { start = k.start; size = p.size; cells = last_values d t p done k }) (grows_none t done)) in
          omega (arith, ap length new)

      written_last :
          (out' : List ℕ) (r : CallResult) → out' ≡ written out 0 (text_at t p theirs) → r.length ≡ 0 + length (text_at t p theirs) → r.place ≡ p →
          r.report ≡ accepted → Finished d t p done k out out' r
      written_last out' r w l s g =
          let z : 0 + length (text_at t p theirs) ≡ length (text_at t p theirs) = omega arith in
          record {
            place = s;
            reports = rw reads g;
            text = rw (reads, new) (w ∙ written_first out (text_at t p theirs));
            long = rw (reads, new) (l ∙ z);
          }

    abbrev pub Told : List ℕ → RecordResult → CallResult → Type 0
    Told out' (Ok end) r = (r.report ≡ accepted) × (r.length ≡ end) × (r.place ≡ p)
    Told out' (Err (Refused x)) r = (r.report ≡ report (number_of x) (p.records + 1) (column_of x) p.start) × (r.length ≡ 0) × (r.place ≡ p)
    Told out' (Err Invalid) r = Unit {0}

    finishing :
        (out' : List ℕ) (x : RecordResult) (r : CallResult) → FinishSound (fault_at d t p theirs) (text_at t p theirs) 0 out out' x → Told out' x r →
        Finished d t p done k out out' r
    finishing out' (Ok end) r (is_written v l w q) g = written_last v out' r w (g.1 ∙ q) g.2 g.0
    finishing out' (Err (Refused x)) r (is_refused v w) g =
        subst (λ (z : List ℕ). Finished d t p done k out z r) (sym w) (refuses x theirs r same_theirs v g.2 g.0 g.1)
    finishing out' (Err Invalid) r (has_no_room v l w) g = absurd (omega (arith, fits v, b.room))

    pub finish_kept :
        (out' : List ℕ) (x : RecordResult) (r : CallResult) → CompleteSound d t p bytes (take (p.cells + 1) ends') 0 out out' x → Told out' x r →
        Finished d t p done k out out' r
    finish_kept out' x r (not_encoded z w y) g = absurd (w (rw counted at (kept_followed hand d (last_whole d t p done k hold e))))
    finish_kept out' x r (ruled y) g = finishing out' x r y g
