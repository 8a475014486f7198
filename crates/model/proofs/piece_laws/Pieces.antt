-- The ledger against the whole converter: no call writes more than its room, a file in pieces is converted as it is whole, and a
-- fault found by a piece is that of every file that begins with the bytes consumed.
use Prim.Native.Nat.{ℕ, ◌+◌, ◌-◌, ◌≤◌}
use native.Mathlib.Omega.{arith}
use mathlib.Core.Path.{◌≡◌, refl, sym, ap, ◌∙◌}
use mathlib.Core.Bool.{Bool, true, false, ◌||◌}
use Rattle.std.specs.Prelude.{Option, None, Some}
use mathlib.Core.List.{List, [], ◌∷◌, ◌++◌, append_assoc, append-nil}
use lib.ListN.{length, drop, length-drop}
use lib.Dec.{ltb}
use borrow.Author.Tests.{ltb-false, le-ltb}
use Rattle.model.specs.rules.Types.{Report, Dialect, Target, Fault}
use Rattle.model.specs.rules.Base.{choose◌then◌else◌, within, Bytes, concat}
use Rattle.model.specs.rules.Dialect.{dialect_of, into}
use Rattle.model.specs.rules.Text.{table_text}
use Rattle.model.specs.rules.Report.{accepted, refusal, number_of, MAXFILE}
use Rattle.model.specs.rules.Records.{rows, Read, Progress, going, stopped, nothing_read, read_from, read_bytes, read_end, read_file, records_of}
use Rattle.model.specs.rules.Records.{report_of, fault_report}
use Rattle.model.specs.rules.Api.{Written, unwritten, converted_as, converter}
use Rattle.model.specs.rules.Ledger.{Call, piece, finish, Entry, bytes_of, room_of, is_file_fault, fault_in, ended_in, consumed_in, closed_in}
use Rattle.model.specs.rules.Ledger.{written_in, too_small, taken, seen_by, answer_to, answer_now, checked, history_from, history}
use Rattle.model.specs.laws.Laws.{All, all_none, all_cons, Grows}
use Rattle.model.specs.laws.Demands.{EndIsWhole, OutputFits, pieces, at_end, SameAsWhole, WholeAndPieces, FaultOfEveryFile}
use Rattle.model.specs.laws.Machine.{ConverterStage, taking, faulted, ended, LiesAt, stood_taking, stood_faulted, stood_ended}
use Rattle.model.proofs.Tests.{split, split_on, impossible}
use Rattle.model.proofs.file_laws.ReadAppend.{fault_stays, fault_stays_file, records_stay, end_grows}
use Rattle.model.proofs.cell_laws.CellRuns.{all_snoc}
use Rattle.model.proofs.round_trip.TableText.{table_grows, rest_of}
use Rattle.model.proofs.piece_laws.CallsMade.{after, history_snoc, answer_known, answer_source, answer_target}
use Rattle.model.proofs.piece_laws.Histories.{fault_number, fault_none, fault_some, consumed_none, written_append, ended_append, closed_none}
use Rattle.model.proofs.piece_laws.Histories.{answer_failed, answer_ended, answer_small, answer_taken}
use Rattle.model.proofs.piece_laws.MachineLaws.{text_of, history_stood}
use Rattle.model.proofs.piece_laws.Room.{piece_writes, end_writes, file_output}

none_some : {A B : Type 0} {x : A} → None ≡ Some x → B
none_some e = let z : ◌≡◌ {A = ℕ} 0 1 = cc in absurd (omega arith)

or_none : (a b : Bool) → (a || b) ≡ false → (a ≡ false) × (b ≡ false)
or_none true b h = impossible (sym h)
or_none false b h = (refl, h)

-- ---- room

module _ (d : Dialect) (t : Target) where
  taken_fits : (xs : Bytes) (q : Progress) (n : ℕ) → length (text_of d t q) ≤ length xs + n → length (taken t xs q).text ≤ n
  taken_fits xs q n h =
      let e : length (drop (length xs) (text_of d t q)) ≡ length (text_of d t q) - length xs = length-drop (length xs) (text_of d t q) in omega arith

  call_fits : (past : List Entry) (w : ConverterStage) (c : Call) → LiesAt d t past w → length (answer_to d t past c).text ≤ room_of c
  call_fits past (faulted e) c (stood_faulted f r z k s w) = rw (answer_failed d t past c e k) (omega arith)
  call_fits past ended c (stood_ended r k h b w) = rw (answer_ended d t past c k h) (omega arith)
  call_fits past (taking r) c (stood_taking k h b w) =
      split_on (too_small c) (λ s. rw (answer_small d t past c k h s) (omega arith)) λ s. rw (answer_taken d t past c k h s) (go c s)
    where
      go : (c : Call) → too_small c ≡ false → length (taken t (written_in past) (seen_by d t c (consumed_in past ++ bytes_of c))).text ≤ room_of c
      go (piece bs room) s =
          let x = or_none (ltb 4096 (length bs)) (ltb room 49152) s in
          let small : length bs ≤ 4096 = ltb-false 4096 (length bs) x.0 in
          let large : 49152 ≤ room = ltb-false room 49152 x.1 in
          let q : Progress = read_bytes d (Some t) (consumed_in past ++ bs) in
          let a : length (text_of d t q) ≤ length (text_of d t (going r)) + 49152 = piece_writes d t (consumed_in past) bs r b small in
          let l : length (written_in past) ≡ length (text_of d t (going r)) = ap length w in
          let z : length (text_of d t q) ≤ length (written_in past) + room = omega arith in
          taken_fits (written_in past) q room z
      go (finish room) s =
          let x = or_none (ltb 4096 0) (ltb room 49152) s in
          let large : 49152 ≤ room = ltb-false room 49152 x.1 in
          let q : Progress = read_file d (Some t) (consumed_in past) in
          let a : length (text_of d t q) ≤ length (text_of d t (going r)) + 49152 = end_writes d t (consumed_in past) r b in
          let l : length (written_in past) ≡ length (text_of d t (going r)) = ap length w in
          let z : length (text_of d t q) ≤ length (written_in past) + room = omega arith in
          rw append-nil (taken_fits (written_in past) q room z)

module _ (m n : ℕ) where
  -- the answer to any call after any list of calls
  pub answer_fits : (cs : List Call) (c : Call) → length (answer_now m n (history m n cs) c).text ≤ room_of c
  answer_fits cs c = go (dialect_of m) (dialect_of n) refl refl
    where
      go : (x y : Option Dialect) → dialect_of m ≡ x → dialect_of n ≡ y → length (answer_now m n (history m n cs) c).text ≤ room_of c
      go None y p q = rw (answer_source m n (history m n cs) c p) (omega arith)
      go (Some d) None p q = rw (answer_target m n d (history m n cs) c p q) (omega arith)
      go (Some d) (Some t) p q =
          let s = history_stood m n d t p q cs in
          rw (answer_known m n d t (history m n cs) c p q) (call_fits d (into t) (history m n cs) s.0 c s.1)

  fits_from :
      (cs : List Call) (ds : List Call) → All (λ (x : Entry). length x.answer.text ≤ room_of x.call) (history m n cs) →
      All (λ (x : Entry). length x.answer.text ≤ room_of x.call) (history_from m n (history m n cs) ds)
  unfolding history_from
  fits_from cs [] all = all
  fits_from cs (c ∷ ds) all =
      let next : history m n (cs ++ (c ∷ [])) ≡ after m n (history m n cs) c = history_snoc m n [] cs c in
      let more : All (λ (x : Entry). length x.answer.text ≤ room_of x.call) (after m n (history m n cs) c) = all_snoc all (answer_fits cs c) in
      rw next at (fits_from (cs ++ (c ∷ [])) ds (rw next more))

pub fits : OutputFits
unfolding history_from
fits m n cs = fits_from m n [] cs all_none

-- ---- faults

-- a piece is no end call
open_piece : (bs : Bytes) (room : ℕ) (a : Written) → closed_in (record { call = piece bs room; answer = a } ∷ []) ≡ false
unfolding closed_in
open_piece bs room a = split (λ (b : Bool). b ≡ false) (is_file_fault a.report) (λ _. refl) λ _. refl

module _ (m n : ℕ) (d t : Dialect) (p : dialect_of m ≡ Some d) (q : dialect_of n ≡ Some t) where
  converter_known : (bs : Bytes) (room : ℕ) → converter m n bs room ≡ converted_as (into t) room (read_file d (Some (into t)) bs)
  unfolding converter
  converter_known bs room = rw (p, converter, q)

  -- a piece after these calls finds a fault only where they have shown no end of the file
  still_open :
      (past : List Entry) (w : ConverterStage) (bs : Bytes) (room : ℕ) (e : Report) → LiesAt d (into t) past w → fault_in past ≡ None →
      fault_in (after m n past (piece bs room)) ≡ Some e → ended_in past ≡ false
  unfolding fault_in choose◌then◌else◌
  still_open past (taking r) bs room e (stood_taking k h b w) i g = h
  still_open past (faulted x) bs room e (stood_faulted f r z k s w) i g = none_some (sym i ∙ k)
  still_open past ended bs room e (stood_ended r k h b w) i g =
      let a : answer_now m n past (piece bs room) ≡ unwritten (refusal 11)
      = answer_known m n d t past (piece bs room) p q ∙ answer_ended d (into t) past (piece bs room) k h in
      let x : List Entry = record { call = piece bs room; answer = unwritten (refusal 11) } ∷ [] in
      let g' : fault_in (past ++ x) ≡ Some e = rw a at g in
      none_some (sym (fault_none x past i) ∙ g')

  known_fault :
      (past : List Entry) (w : ConverterStage) (bs rest : Bytes) (room : ℕ) (e : Report) →
      LiesAt d (into t) (after m n past (piece bs room)) w → fault_in past ≡ None → ended_in past ≡ false →
      fault_in (after m n past (piece bs room)) ≡ Some e → (converter m n (consumed_in (after m n past (piece bs room)) ++ rest) MAXFILE).report ≡ e
  unfolding choose◌then◌else◌
  known_fault past (taking r) bs rest room e (stood_taking k h b w) i o g = none_some (sym k ∙ g)
  known_fault past ended bs rest room e (stood_ended r k h b w) i o g = none_some (sym k ∙ g)
  known_fault past (faulted e') bs rest room e (stood_faulted f r z k s w) i o g =
      let x : List Entry = record { call = piece bs room; answer = answer_now m n past (piece bs room) } ∷ [] in
      let shut : closed_in (past ++ x) ≡ false = closed_none x past i ∙ rw (o, open_piece bs room (answer_now m n past (piece bs room))) in
      let seen : read_bytes d (Some (into t)) (consumed_in (past ++ x)) ≡ stopped f r = rw shut at s in
      let all : read_file d (Some (into t)) (consumed_in (past ++ x) ++ rest) ≡ stopped f r
      = fault_stays_file d (Some (into t)) f r (consumed_in (past ++ x)) rest seen in
      let same : e' ≡ e = some_same (sym k ∙ g) in
      rw (converter_known (consumed_in (past ++ x) ++ rest) MAXFILE, all) (sym z ∙ same)
    where
      some_same : {x y : Report} → Some x ≡ Some y → x ≡ y
      some_same z = cc

pub fault_of_every_file : FaultOfEveryFile
unfolding fault_in choose◌then◌else◌
fault_of_every_file m n cs bs rest room e h g = go (dialect_of m) (dialect_of n) refl refl
  where
    past : List Entry
    past = history m n cs

    next : history m n (cs ++ (piece bs room ∷ [])) ≡ after m n past (piece bs room)
    next = history_snoc m n [] cs (piece bs room)

    unknown_fault : {A : Type 0} → answer_now m n past (piece bs room) ≡ unwritten (refusal 11) → A
    unknown_fault a =
        let x : List Entry = record { call = piece bs room; answer = unwritten (refusal 11) } ∷ [] in
        let g' : fault_in (past ++ x) ≡ Some e = rw a at (rw next at g) in
        none_some (sym (fault_none x past h) ∙ g')

    go :
        (x y : Option Dialect) → dialect_of m ≡ x → dialect_of n ≡ y →
        (converter m n (consumed_in (history m n (cs ++ (piece bs room ∷ []))) ++ rest) MAXFILE).report ≡ e
    go None y p q = unknown_fault (answer_source m n past (piece bs room) p)
    go (Some d) None p q = unknown_fault (answer_target m n d past (piece bs room) p q)
    go (Some d) (Some t) p q =
        let s = history_stood m n d t p q cs in
        let s' = history_stood m n d t p q (cs ++ (piece bs room ∷ [])) in
        let now : LiesAt d (into t) (after m n past (piece bs room)) s'.0 = rw next at s'.1 in
        let met : fault_in (after m n past (piece bs room)) ≡ Some e = rw next at g in
        rw next (known_fault m n d t p q past s'.0 bs rest room e now h (still_open m n d t p q past s.0 bs room e s.1 h met) met)

-- ---- whole and pieces

module _ (d : Dialect) (t : Target) where
  -- a history of pieces alone, with these bytes in all
  data Pieced (bs : Bytes) (past : List Entry) : Type 0 where
    so_far :
        (r : Read) → fault_in past ≡ None → ended_in past ≡ false → consumed_in past ≡ bs → read_bytes d (Some t) bs ≡ going r →
        written_in past ≡ text_of d t (going r) → Pieced bs past
    no_more : (e : Fault) (r : Read) → fault_in past ≡ Some (fault_report e r) → read_bytes d (Some t) bs ≡ stopped e r → Pieced bs past

  abbrev given : Bytes → Written → List Entry
  given p a = record { call = piece p 49152; answer = a } ∷ []

  piece_more :
      (bs p : Bytes) (past : List Entry) (r : Read) (q : Progress) → read_bytes d (Some t) (bs ++ p) ≡ q → fault_in past ≡ None →
      ended_in past ≡ false → consumed_in past ≡ bs → read_bytes d (Some t) bs ≡ going r → written_in past ≡ text_of d t (going r) →
      Pieced (bs ++ p) (past ++ given p (taken t (written_in past) q))
  unfolding fault_in ended_in consumed_in written_in choose◌then◌else◌
  piece_more bs p past r (going r') e k h c b w =
      let x : List Entry = given p (taken t (written_in past) (going r')) in
      let g : Grows (records_of (read_bytes d (Some t) bs)) (records_of (read_bytes d (Some t) (bs ++ p))) = records_stay d (Some t) bs p in
      let g' : Grows r.done r'.done = rw (b, e) at g in
      let sum : written_in past ++ drop (length (written_in past)) (text_of d t (going r')) ≡ text_of d t (going r') = rw w (rest_of (table_grows t g')) in
      so_far r' (fault_none x past k) (ended_append x past ∙ rw h)
      (consumed_none x past k ∙ ap (λ l. consumed_in past ++ l) (append-nil p) ∙ ap (λ l. l ++ p) c) e
      (written_append x past ∙ ap (λ l. written_in past ++ l) (append-nil (drop (length (written_in past)) (text_of d t (going r')))) ∙ sum)
  piece_more bs p past r (stopped e' r') e k h c b w =
      let x : List Entry = given p (taken t (written_in past) (stopped e' r')) in
      let n : within 1 9 (number_of e') ≡ true = fault_number e' in
      let met : fault_in x ≡ Some (fault_report e' r') = rw n in
      no_more e' r' (fault_none x past k ∙ met) e

  pieced_after : (bs p : Bytes) (past : List Entry) → length p ≤ 4096 → Pieced bs past → Pieced (bs ++ p) (past ++ given p (answer_to d t past (piece p 49152)))
  pieced_after bs p past l (so_far r k h c b w) =
      let s : too_small (piece p 49152) ≡ false = rw (le-ltb 4096 (length p) l) in
      let a : answer_to d t past (piece p 49152) ≡ taken t (written_in past) (read_bytes d (Some t) (consumed_in past ++ p))
      = answer_taken d t past (piece p 49152) k h s in
      rw (a, c) (piece_more bs p past r (read_bytes d (Some t) (bs ++ p)) refl k h c b w)
  pieced_after bs p past l (no_more e r k b) =
      let x : List Entry = given p (unwritten (fault_report e r)) in
      rw (answer_failed d t past (piece p 49152) (fault_report e r) k) (no_more e r (fault_some x (fault_report e r) past k) (fault_stays d (Some t) e r bs p b))

  pieced_new : Pieced [] []
  unfolding fault_in ended_in consumed_in written_in read_bytes read_from nothing_read rows table_text
  pieced_new = so_far nothing_read refl refl refl refl refl

  -- the converter has room
  whole_report : (f : Progress) → length (text_of d t f) ≤ MAXFILE → (converted_as t MAXFILE f).report ≡ report_of f
  unfolding choose◌then◌else◌
  whole_report (going r) l = rw (le-ltb MAXFILE (length (text_of d t (going r))) l)
  whole_report (stopped e r) l = refl

  whole_text : (f : Progress) → length (text_of d t f) ≤ MAXFILE → (converted_as t MAXFILE f).report ≡ accepted → (converted_as t MAXFILE f).text ≡ text_of d t f
  unfolding choose◌then◌else◌
  whole_text (going r) l a = rw (le-ltb MAXFILE (length (text_of d t (going r))) l)
  whole_text (stopped e r) l a =
      let z : number_of e ≡ 0 = ap (λ (x : Report). x.number) a in
      let k : within 1 9 (number_of e) ≡ true = fault_number e in
      impossible (rw z at k)

  done_grows : (bs : Bytes) (r : Read) → read_bytes d (Some t) bs ≡ going r → Grows r.done (records_of (read_file d (Some t) bs))
  unfolding read_file
  done_grows bs r b = let g : Grows (records_of (going r)) (records_of (read_end d (Some t) (going r))) = end_grows d (Some t) (going r) in rw b g

module _ (m n : ℕ) (d t : Dialect) (p : dialect_of m ≡ Some d) (q : dialect_of n ≡ Some t) where
  pieced_from :
      (bs : Bytes) (past : List Entry) (ps : List Bytes) → All (λ (x : Bytes). length x ≤ 4096) ps → Pieced d (into t) bs past →
      Pieced d (into t) (bs ++ concat ps) (history_from m n past (pieces ps))
  unfolding history_from concat
  pieced_from bs past [] all_none s = rw append-nil s
  pieced_from bs past (x ∷ ps) (all_cons l ls) s =
      let s' : Pieced d (into t) (bs ++ x) (after m n past (piece x 49152))
      = rw (answer_known m n d t past (piece x 49152) p q) (pieced_after d (into t) bs x past l s) in
      rw (append_assoc bs x (concat ps)) at (pieced_from (bs ++ x) (after m n past (piece x 49152)) ps ls s')

  end_same : (ps : List Bytes) (past : List Entry) → Pieced d (into t) (concat ps) past → history m n (pieces ps) ≡ past → SameAsWhole m n ps
  end_same ps past (so_far r k h c b w) z =
      let f : Progress = read_file d (Some (into t)) (concat ps) in
      let l : length (text_of d (into t) f) ≤ MAXFILE = file_output d (into t) (concat ps) in
      let conv : converter m n (concat ps) MAXFILE ≡ converted_as (into t) MAXFILE f = converter_known m n d t p q (concat ps) MAXFILE in
      let a : answer_to d (into t) past (finish 49152)
      ≡ taken (into t) (written_in past) (read_file d (Some (into t)) (consumed_in past ++ []))
      = answer_taken d (into t) past (finish 49152) k h refl in
      let e : at_end m n ps ≡ taken (into t) (written_in past) f
      = ap (λ u. answer_now m n u (finish 49152)) z ∙ answer_known m n d t past (finish 49152) p q ∙ a
      ∙ ap (λ u. taken (into t) (written_in past) (read_file d (Some (into t)) u)) (append-nil (consumed_in past) ∙ c) in
      let g : Grows r.done (records_of f) = done_grows d (into t) (concat ps) r b in
      let sum : written_in past ++ drop (length (written_in past)) (text_of d (into t) f) ≡ text_of d (into t) f = rw w (rest_of (table_grows (into t) g)) in
      record {
        report = ap (λ u. u.report) e ∙ sym (whole_report d (into t) f l) ∙ ap (λ u. u.report) (sym conv);
        text = λ acc.
            ap (λ u. written_in u ++ (at_end m n ps).text) z ∙ ap (λ u. written_in past ++ u.text) e ∙ sum
            ∙ sym (whole_text d (into t) f l (ap (λ u. u.report) (sym conv) ∙ acc)) ∙ ap (λ u. u.text) (sym conv);
      }
  end_same ps past (no_more e r k b) z =
      let stop : read_file d (Some (into t)) (concat ps) ≡ stopped e r = rw append-nil at (fault_stays_file d (Some (into t)) e r (concat ps) [] b) in
      let conv : converter m n (concat ps) MAXFILE ≡ unwritten (fault_report e r)
      = converter_known m n d t p q (concat ps) MAXFILE ∙ ap (converted_as (into t) MAXFILE) stop in
      let a : at_end m n ps ≡ unwritten (fault_report e r)
      = ap (λ u. answer_now m n u (finish 49152)) z ∙ answer_known m n d t past (finish 49152) p q
      ∙ answer_failed d (into t) past (finish 49152) (fault_report e r) k in
      record {
        report = ap (λ u. u.report) a ∙ ap (λ u. u.report) (sym conv);
        text = λ acc.
            let w : number_of e ≡ 0 = ap (λ (u : Report). u.number) (ap (λ u. u.report) (sym conv) ∙ acc) in
            let v : within 1 9 (number_of e) ≡ true = fault_number e in
            impossible (rw w at v);
      }

unknown_same :
    (m n : ℕ) (ps : List Bytes) → at_end m n ps ≡ unwritten (refusal 11) → converter m n (concat ps) MAXFILE ≡ unwritten (refusal 11) →
    SameAsWhole m n ps
unknown_same m n ps a c =
    record {
      report = ap (λ u. u.report) a ∙ ap (λ u. u.report) (sym c);
      text = λ acc. let z : ◌≡◌ {A = ℕ} 11 0 = ap (λ (u : Report). u.number) (ap (λ u. u.report) (sym c) ∙ acc) in absurd (omega arith);
    }

pub whole_and_pieces : WholeAndPieces
unfolding converter
whole_and_pieces m n ps all = go (dialect_of m) (dialect_of n) refl refl
  where
    go : (x y : Option Dialect) → dialect_of m ≡ x → dialect_of n ≡ y → SameAsWhole m n ps
    go None y p q = unknown_same m n ps (answer_source m n (history m n (pieces ps)) (finish 49152) p) (rw (p, converter))
    go (Some d) None p q = unknown_same m n ps (answer_target m n d (history m n (pieces ps)) (finish 49152) p q) (rw (p, converter, q))
    go (Some d) (Some t) p q = end_same m n d t p q ps (history m n (pieces ps)) (pieced_from m n d t p q [] [] ps all (pieced_new d (into t))) refl

-- ---- any end call

pub end_is_whole : EndIsWhole
unfolding checked
end_is_whole m n cs room h = go (dialect_of m) (dialect_of n) refl refl
  where
    past : List Entry
    past = history m n cs

    by_state :
        (d t : Dialect) (w : ConverterStage) → dialect_of m ≡ Some d → dialect_of n ≡ Some t → LiesAt d (into t) past w →
        (answer_now m n past (finish room)).report ≡ (converter m n (consumed_in past) MAXFILE).report
    by_state d t (faulted e) p q (stood_faulted f r z k s w) = impossible (sym (rw (p, checked, q, k) at h))
    by_state d t ended p q (stood_ended r k e b w) = impossible (sym (rw (p, checked, q, k, e) at h))
    by_state d t (taking r) p q (stood_taking k e b w) =
        let f : Progress = read_file d (Some (into t)) (consumed_in past) in
        let l : length (text_of d (into t) f) ≤ MAXFILE = file_output d (into t) (consumed_in past) in
        let small : too_small (finish room) ≡ false = rw (p, checked, q, k, e) at h in
        let a : answer_now m n past (finish room) ≡ taken (into t) (written_in past) (read_file d (Some (into t)) (consumed_in past ++ []))
        = answer_known m n d t past (finish room) p q ∙ answer_taken d (into t) past (finish room) k e small in
        ap (λ u. u.report) a
        ∙ ap (λ u. report_of (read_file d (Some (into t)) u)) (append-nil (consumed_in past))
        ∙ sym (whole_report d (into t) f l)
        ∙ ap (λ u. u.report) (sym (converter_known m n d t p q (consumed_in past) MAXFILE))

    go : (x y : Option Dialect) → dialect_of m ≡ x → dialect_of n ≡ y → (answer_now m n past (finish room)).report ≡ (converter m n (consumed_in past) MAXFILE).report
    go None y p q = impossible (sym (rw (p, checked) at h))
    go (Some d) None p q = impossible (sym (rw (p, checked, q) at h))
    go (Some d) (Some t) p q = let s = history_stood m n d t p q cs in by_state d t s.0 p q s.1
