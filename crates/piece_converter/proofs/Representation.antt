-- A call that is taken returns what model's machine answers, and the next state is at the machine's next stage. A new converter is before
-- the first byte.
use Prim.Native.Nat.{ℕ, ◌≤◌, ◌<◌}
use native.Mathlib.Omega.{arith}
use mathlib.Core.Path.{◌≡◌, refl, sym, ap, ap₂, subst, ◌∙◌}
use mathlib.Core.Bool.{Bool, true, false, ◌||◌}
use Rattle.std.specs.Prelude.{Option, None, Some}
use mathlib.Core.List.{List, [], ◌++◌, append-nil}
use lib.ListN.{length, replicate, length-replicate}
use lib.Dec.{ltb}
use borrow.Author.Tests.{ltb-false}
use Rattle.model.specs.declared.Report.{Report}
use Rattle.model.specs.declared.Dialect.{Dialect}
use Rattle.model.specs.declared.Fault.{Fault}
use Rattle.model.specs.declared.Target.{Target}
use Rattle.model.specs.declared.FileState.{FileState}
use Rattle.model.specs.rules.Base.{choose◌then◌else◌, Bytes}
use Rattle.model.specs.rules.Dialect.{dialect_of, into}
use Rattle.model.specs.rules.Text.{table_text}
use Rattle.model.specs.rules.Report.{number_of, MAXRECORD, MAXCOLUMNS, MAXPIECE, LEASTOUTPUT}
use Rattle.model.specs.rules.Records.{Rec, rows, Read, Progress, going, stopped, nothing_read, read_bytes, read_from, read_end, report_of, records_of, fault_report}
use Rattle.model.specs.rules.Api.{Written}
use Rattle.model.specs.laws.Laws.{all_none}
use Rattle.model.specs.rules.Ledger as ledger
use Rattle.model.specs.rules.Ledger.{Entry, piece, finish, consumed_in, too_small, taken, call_leaves}
use Rattle.model.specs.laws.Machine.{ConverterStage, taking, faulted, ended, stage_then, LiesAt, stood_taking, stood_faulted, stood_ended, new_text}
use Rattle.model.specs.laws.Machine.{carries_known, carries_source, carries_target}
use Rattle.model.specs.laws.Scans.{Buffered}
use Rattle.model.proofs.Tests.{impossible, within_true}
use Rattle.model.proofs.piece_laws.Histories.{fault_number}
use Rattle.model.proofs.piece_laws.MachineLaws.{machine}
use Rattle.codes.specs.Named.{text_answer}
use Rattle.codes.specs.declared.TextAnswer.{TextAnswer}
use Rattle.piece_state.specs.Checks.{StageEncoded, reports_taking, reports_faulted, reports_ended}
use Rattle.piece_state.specs.Codes.{state_from, fixed_state}
use Rattle.piece_state.specs.Sound.{at_start, order_end}
use Rattle.piece_state.specs.declared.place.Place.{Place}
use Rattle.piece_state.proofs.Codes.{state_back}
use Rattle.piece_step.specs.declared.CallResult.{CallResult}
use Rattle.piece_step.specs.Invariant.{read_at, columns_of, StateInvariant, buffered_none}
use Rattle.piece_step.specs.Steps.{InBounds, current_in}
use Rattle.piece_step.specs.Calls.{Named, Heads, Begun, Finished}
use Rattle.piece_run.specs.PieceRun.{PieceRunSound, took_all, took_fault}
use Rattle.piece_step.proofs.StepOutcomes.{first_holds, first_reads}
use Rattle.piece_step.proofs.Writes.{reads_on}
use Rattle.piece_step.proofs.BufferedSpans.{named_grows}
use Rattle.piece_converter.specs.States.{place_in, place_of, numbers_of}
use Rattle.piece_converter.specs.Representation.{StateShows, Unfaulted, Takes, StageOf, stage_taking, stage_faulted, stage_ended, stage_no_source}
use Rattle.piece_converter.specs.Representation.{stage_no_target, Models}
use Rattle.piece_converter.specs.Contract.{converter_of, new_converter, Represents}
use Rattle.piece_converter.specs.declared.Converter.{Converter}
use Rattle.piece_converter.proofs.Offsets.{offset_is}

-- a place is decoded from the numbers it was encoded in
pub place_back : (p : Place) (over : ℕ) (e : Report) → place_in (numbers_of p over e) ≡ p
place_back p over e =
    ap (λ (f : FileState). record {
      state = f;
      offset = p.offset;
      start = p.start;
      size = p.size;
      fill = p.fill;
      cells = p.cells;
      columns = p.columns;
      records = p.records;
      written = p.written;
    }) (state_back p.state)

or_none : (a b : Bool) → (a || b) ≡ false → (a ≡ false) × (b ≡ false)
or_none true b h = impossible (sym h)
or_none false b h = (refl, h)

-- a fault has a number
numbered : (x : Fault) (r : Read) → 0 < (fault_report x r).number
numbered x r = let z = within_true 1 9 (number_of x) (fault_number x) in let low = z.0 in omega arith

-- report, length and output are those of this answer
pub record Says (told : TextAnswer) (out out' : List ℕ) (a : Written) : Type 0 where
  pub answer : told ≡ text_answer a
  pub leaves : out' ≡ call_leaves a out

-- the state after a call that was taken
abbrev pub state_then : Converter → CallResult → (over : ℕ) → (ends name_ends bytes names : List ℕ) → Converter
state_then s r over ends name_ends bytes names =
    converter_of s.source s.target (numbers_of r.place over r.report) ends name_ends bytes names

-- its report and length
abbrev pub call_answer : CallResult → TextAnswer
call_answer r = record { report = r.report; length = r.length }

-- ---- a call that is taken

-- the stage of the state after it, and what it shows
pub record Left (m n : ℕ) (d t : Dialect) (consumed : Bytes) (w : ConverterStage) (next : Converter) : Type 0 where
  pub stage : StageOf m n consumed w next
  pub shows : StateShows d t consumed next
  pub offset : Unfaulted w → next.offset ≡ length consumed

-- what a state shows, by what reading its bytes results in
shows_by :
    {d t : Dialect} {consumed : Bytes} {s : Converter} (p : Progress) → read_bytes d (Some (into t)) consumed ≡ p → s.records ≡ length (records_of p) →
    s.columns ≡ columns_of (records_of p) → Named consumed s.names s.name_ends (records_of p) → StateShows d t consumed s
shows_by p e records columns names = record { records = rw e records; columns = rw e columns; names = rw e names }

module _ (d t : Dialect) (consumed : Bytes) (s : Converter) (done : List Rec) (k : Buffered) (h : Takes d t consumed s done k) where
  abbrev stood : Read
  stood = read_at d (place_of s) done k

  -- it has begun
  begun :
      (bs out : Bytes) → length bs ≤ MAXPIECE → LEASTOUTPUT ≤ length out →
      Begun d (into t) consumed bs (place_of s) s.names s.name_ends s.bytes s.ends out done k
  begun bs out short room =
      record {
        begins = record { hold = h.hold; reached = record { consumed = consumed; reads = h.reads }; short = short; room = room };
        offset = offset_is d (Some (into t)) consumed stood h.reads;
        heads = h.heads;
      }

  pub begun_piece :
      (bs out : Bytes) → too_small (piece bs (length out)) ≡ false →
      Begun d (into t) consumed bs (place_of s) s.names s.name_ends s.bytes s.ends out done k
  begun_piece bs out e =
      let x = or_none (ltb MAXPIECE (length bs)) (ltb (length out) LEASTOUTPUT) e in
      begun bs out (ltb-false MAXPIECE (length bs) x.0) (ltb-false (length out) LEASTOUTPUT x.1)

  pub begun_end :
      (out : Bytes) → too_small (finish (length out)) ≡ false →
      Begun d (into t) consumed [] (place_of s) s.names s.name_ends s.bytes s.ends out done k
  begun_end out e =
      let x = or_none (ltb MAXPIECE 0) (ltb (length out) LEASTOUTPUT) e in
      begun [] out (omega arith) (ltb-false (length out) LEASTOUTPUT x.1)

  says :
      (q : Progress) (r : CallResult) (out out' : Bytes) → r.report ≡ report_of q → out' ≡ call_leaves (taken (into t) (table_text (into t) (rows done)) q) out →
      r.length ≡ length (taken (into t) (table_text (into t) (rows done)) q).text →
      Says (call_answer r) out out' (taken (into t) (table_text (into t) (rows done)) q)
  says q r out out' g w l = record { answer = ap₂ (λ (x : Report) (n : ℕ). record { report = x; length = n }) g l; leaves = w }

  module _ (m n : ℕ) (p : dialect_of m ≡ Some d) (q : dialect_of n ≡ Some t) where
    -- a piece
    module _ (bs out : Bytes) (r : CallResult) (ends' name_ends' bytes' names' out' : List ℕ) where
      pub piece_says :
          PieceRunSound d (into t) consumed bs (place_of s) done k out names' name_ends' bytes' ends' out' r →
          Says (call_answer r) out out' (taken (into t) (table_text (into t) (rows done)) (read_from d (Some (into t)) (going stood) bs))
      unfolding new_text
      piece_says (took_all done' k' reads hold heads b g w l) = rw reads (says (going (read_at d r.place done' k')) r out out' g w l)
      piece_says (took_fault x z reads counts named g w l) = rw reads (says (stopped x z) r out out' g w l)

      pub piece_left :
          PieceRunSound d (into t) consumed bs (place_of s) done k out names' name_ends' bytes' ends' out' r → length names' ≡ MAXRECORD →
          length name_ends' ≡ MAXCOLUMNS → length bytes' ≡ MAXRECORD →
          length ends' ≡ MAXCOLUMNS →
          Left m n d t (consumed ++ bs) (stage_then false (read_from d (Some (into t)) (going stood) bs)) (state_then s r 0 ends' name_ends' bytes' names')
      piece_left (took_all done' k' reads hold heads b g w l) long_names long_name_ends long_bytes long_ends =
          let back : r.place ≡ place_in (numbers_of r.place 0 r.report) = sym (place_back r.place 0 r.report) in
          let on : read_bytes d (Some (into t)) (consumed ++ bs) ≡ going (read_at d r.place done' k') =
          reads_on d (into t) consumed stood h.reads bs ∙ reads in
          let takes : Takes d t (consumed ++ bs) (state_then s r 0 ends' name_ends' bytes' names') done' k' = record {
            hold = subst (λ (x : Place). StateInvariant d (into t) x (current_in x names' bytes') (current_in x name_ends' ends') done' k') back hold;
            heads = subst (λ (x : Place). Heads (consumed ++ bs) x names' name_ends' done' k') back heads;
            bounds = subst (λ (x : Place). InBounds x (current_in x name_ends' ends')) back b;
            reads = subst (λ (x : Place). read_bytes d (Some (into t)) (consumed ++ bs) ≡ going (read_at d x done' k')) back on;
            long_names = long_names;
            long_name_ends = long_name_ends;
            long_bytes = long_bytes;
            long_ends = long_ends;
          } in
          rw reads
          (record {
            stage = stage_taking d t done' k' p q (ap (λ (x : Place). read_at d x done' k') back) (reports_taking (ap (λ (e : Report). e.number) g)) takes;
            shows = shows_by (going (read_at d r.place done' k')) on hold.records hold.columns heads.named;
            offset = λ _. offset_is d (Some (into t)) (consumed ++ bs) (read_at d r.place done' k') on;
          })
      piece_left (took_fault x z reads counts named g w l) long_names long_name_ends long_bytes long_ends =
          rw reads
          (record {
            stage = stage_faulted (subst (λ (e : Report). StageEncoded (faulted (fault_report x z)) e 0) (sym g) (reports_faulted (numbered x z)));
            shows = shows_by (stopped x z) (reads_on d (into t) consumed stood h.reads bs ∙ reads) counts.records counts.columns named;
            offset = λ v. absurd v;
          })

    -- the end
    module _ (out : Bytes) (r : CallResult) (ends' name_ends' bytes' names' out' : List ℕ) (f : Finished d (into t) (place_of s) done k out out' r) where
      pub end_says : Says (call_answer r) out out' (taken (into t) (table_text (into t) (rows done)) (read_end d (Some (into t)) (going stood)))
      unfolding new_text
      end_says = says (read_end d (Some (into t)) (going stood)) r out out' f.reports f.text f.long

      -- the flag is 1 where the end was accepted; after a fault it is not determined
      end_stage : StageOf m n (consumed ++ []) (stage_then true (read_end d (Some (into t)) (going stood))) (state_then s r 1 ends' name_ends' bytes' names')
      end_stage = go (read_end d (Some (into t)) (going stood)) f.reports
        where
          go : (z : Progress) → r.report ≡ report_of z → StageOf m n (consumed ++ []) (stage_then true z) (state_then s r 1 ends' name_ends' bytes' names')
          go (going y) g = let one : 0 < 1 = omega arith in stage_ended (reports_ended (ap (λ (e : Report). e.number) g) one)
          go (stopped x y) g = stage_faulted (subst (λ (e : Report). StageEncoded (faulted (fault_report x y)) e 1) (sym g) (reports_faulted (numbered x y)))

      -- the bytes consumed and the place do not change
      pub end_left :
          Named consumed names' name_ends' done →
          Left m n d t (consumed ++ []) (stage_then true (read_end d (Some (into t)) (going stood))) (state_then s r 1 ends' name_ends' bytes' names')
      unfolding read_from
      end_left named =
          record {
            stage = end_stage;
            shows =
                shows_by (going stood) (reads_on d (into t) consumed stood h.reads [])
                (ap (λ (x : Place). x.records) f.place ∙ h.hold.records) (ap (λ (x : Place). x.columns) f.place ∙ h.hold.columns)
                (named_grows consumed [] names' name_ends' done named);
            offset =
                λ _. ap (λ (x : Place). x.offset) f.place ∙ offset_is d (Some (into t)) consumed stood h.reads ∙ ap length (sym (append-nil consumed));
          }

-- ---- a new converter

first_place : place_in (replicate 14 0) ≡ at_start
unfolding state_from fixed_state choose◌then◌else◌
first_place = refl

zeros : (n : ℕ) → length (replicate {A = ℕ} n 0) ≡ n
zeros n = length-replicate n 0

-- nothing is read yet
new_takes :
    (d t : Dialect) (m n : ℕ) (ends name_ends bytes names : List ℕ) → length names ≡ MAXRECORD → length name_ends ≡ MAXCOLUMNS → length bytes ≡ MAXRECORD →
    length ends ≡ MAXCOLUMNS → Takes d t [] (converter_of m n (replicate 14 0) ends name_ends bytes names) [] (buffered_none 0)
unfolding read_bytes read_from
new_takes d t m n ends name_ends bytes names long_names long_name_ends long_bytes long_ends =
    let z : 0 ≤ 0 = omega arith in
    let bounds : InBounds at_start (current_in at_start name_ends ends) =
    record {
      size = omega arith;
      fill = z;
      offset = omega arith;
      written = omega arith;
      records = z;
      cells = z;
      ordered = λ _. order_end z;
      between = λ _. (refl, refl);
    } in
    let heads : Heads [] at_start names name_ends [] (buffered_none 0) =
    record { named = tt; kept = λ _. record { raw = refl; forward = z; within = z; cells = all_none } } in
    let reads : read_bytes d (Some (into t)) [] ≡ going (read_at d at_start [] (buffered_none 0)) = ap going (sym (first_reads d)) in
    record {
      hold =
          subst (λ (x : Place). StateInvariant d (into t) x (current_in x names bytes) (current_in x name_ends ends) [] (buffered_none 0))
          (sym first_place) (first_holds d (into t) (current_in at_start names bytes) (current_in at_start name_ends ends));
      heads = subst (λ (x : Place). Heads [] x names name_ends [] (buffered_none 0)) (sym first_place) heads;
      bounds = subst (λ (x : Place). InBounds x (current_in x name_ends ends)) (sym first_place) bounds;
      reads = subst (λ (x : Place). read_bytes d (Some (into t)) [] ≡ going (read_at d x [] (buffered_none 0))) (sym first_place) reads;
      long_names = long_names;
      long_name_ends = long_name_ends;
      long_bytes = long_bytes;
      long_ends = long_ends;
    }

-- nothing is shown yet
new_shows : (d t : Dialect) (m n : ℕ) → StateShows d t [] (new_converter m n)
unfolding read_bytes read_from nothing_read
new_shows d t m n = record { records = refl; columns = refl; names = tt }

-- a new converter has answered no calls
pub new_carries : (m n : ℕ) → Represents m n [] (new_converter m n)
unfolding consumed_in
new_carries m n = go (dialect_of m) (dialect_of n) refl refl
  where
    new_models : (w : ConverterStage) → StageOf m n [] w (new_converter m n) → Models [] m n w (new_converter m n)
    new_models w stage = record { source = refl; target = refl; stage = stage; shows = λ d t _ _. new_shows d t m n; offset = λ _. refl }

    go : (x y : Option Dialect) → dialect_of m ≡ x → dialect_of n ≡ y → Represents m n [] (new_converter m n)
    go None y p q = carries_source p (new_models ended (stage_no_source p))
    go (Some d) None p q = carries_target q (new_models ended (stage_no_target q))
    go (Some d) (Some t) p q =
        let takes : Takes d t [] (new_converter m n) [] (buffered_none 0) =
        new_takes d t m n (replicate MAXCOLUMNS 0) (replicate MAXCOLUMNS 0) (replicate MAXRECORD 0) (replicate MAXRECORD 0) (zeros MAXRECORD)
        (zeros MAXCOLUMNS) (zeros MAXRECORD) (zeros MAXCOLUMNS) in
        let reads : nothing_read ≡ read_at d (place_in (replicate 14 0)) [] (buffered_none 0) =
        sym (first_reads d) ∙ ap (λ (x : Place). read_at d x [] (buffered_none 0)) (sym first_place) in
        carries_known d t (taking nothing_read) p q (machine m n d t p q).new
        (new_models (taking nothing_read) (stage_taking d t [] (buffered_none 0) p q reads (reports_taking refl) takes))

-- ---- after any calls

-- a state shows what the bytes consumed complete
pub shown_after :
    {m n : ℕ} {past : List Entry} {s : Converter} → Represents m n past s → (d t : Dialect) → dialect_of m ≡ Some d → dialect_of n ≡ Some t →
    StateShows d t (consumed_in past) s
shown_after (carries_known d t w p q stood model) = model.shows
shown_after (carries_source p model) = model.shows
shown_after (carries_target q model) = model.shows

not_faulted : {d : Dialect} {t : Target} {past : List Entry} {w : ConverterStage} → LiesAt d t past w → ledger.fault_in past ≡ None → Unfaulted w
not_faulted (stood_taking k e b x) none-met = tt
not_faulted (stood_faulted f r z k e x) none-met = let z : ◌≡◌ {A = ℕ} 0 1 = cc in absurd (omega arith)
not_faulted (stood_ended r k e b x) none-met = tt

-- and counts them as long as no fault was met
pub offset_after : {m n : ℕ} {past : List Entry} {s : Converter} → Represents m n past s → ledger.fault_in past ≡ None → s.offset ≡ length (consumed_in past)
offset_after (carries_known d t w p q stood model) none-met = model.offset (not_faulted stood none-met)
offset_after (carries_source p model) none-met = model.offset tt
offset_after (carries_target q model) none-met = model.offset tt
