-- The ledger, call by call and against the whole converter: the cases of its answer to a call; what it has written once an end call
-- was accepted; and the fault that a call found, which the whole converter reports for the bytes consumed.
use Prim.Native.Nat.{ℕ, ◌≤◌}
use native.Mathlib.Omega.{arith}
use mathlib.Core.Path.{◌≡◌, refl, sym, ap, ap₂, ◌∙◌}
use mathlib.Core.Bool.{Bool, true, false, ◌&&◌}
use Rattle.std.specs.Prelude.{Option, None, Some}
use mathlib.Core.List.{List, [], ◌∷◌, ◌++◌, append-nil}
use lib.ListN.{length}
use lib.Dec.{eqb}
use borrow.Author.Tests.{le-ltb, ne_eqb}
use Rattle.model.specs.declared.Report.{Report}
use Rattle.model.specs.declared.Dialect.{Dialect}
use Rattle.model.specs.declared.Fault.{Fault}
use Rattle.model.specs.declared.Target.{Target}
use Rattle.model.specs.rules.Base.{choose◌then◌else◌, within, Bytes}
use Rattle.model.specs.rules.Dialect.{dialect_of, into}
use Rattle.model.specs.rules.Text.{table_text}
use Rattle.model.specs.rules.Report.{accepted, refusal, number_of, MAXFILE}
use Rattle.model.specs.rules.Records.{rows, Read, Progress, going, stopped, read_bytes, read_file, records_of, report_of, fault_report}
use Rattle.model.specs.rules.Api.{Written, unwritten, converted_as, converter}
use Rattle.model.specs.rules.Ledger.{Call, piece, Entry, bytes_of, is_finish, is_accepted, is_file_fault, fault_in, ended_in, consumed_in, closed_in}
use Rattle.model.specs.rules.Ledger.{written_in, too_small, taken, seen_by, answer_now, checked, history_from, history}
use Rattle.model.specs.laws.Demands.{seen_in}
use Rattle.model.specs.laws.Machine.{ConverterStage, taking, faulted, ended, LiesAt, stood_taking, stood_faulted, stood_ended}
use Rattle.model.proofs.Tests.{split_on, impossible, within_true}
use Rattle.model.proofs.piece_laws.CallsMade.{after, answer_known, answer_source, answer_target}
use Rattle.model.proofs.piece_laws.Histories.{fault_number, fault_none, fault_some, ended_append, answer_failed, answer_ended, answer_small, answer_taken}
use Rattle.model.proofs.piece_laws.MachineLaws.{history_stood}
use Rattle.model.proofs.round_trip.ConvertBack.{converter_known}
use Rattle.model.proofs.file_laws.ReadAppend.{fault_stays_file}
use Rattle.model.proofs.piece_laws.Room.{file_output}

none_some : {A B : Type 0} {x : A} → None ≡ Some x → B
none_some e = let z : ◌≡◌ {A = ℕ} 0 1 = cc in absurd (omega arith)

some_same : {A : Type 0} {x y : A} → Some x ≡ Some y → x ≡ y
some_same e = cc

and_none : (b : Bool) → (b && false) ≡ false
and_none true = refl
and_none false = refl

-- ---- one answer

-- the four cases of its answer to a call: 11; the fault found before; 10; or the call is taken
data AnsweredBy (m n : ℕ) (past : List Entry) (c : Call) : Type 0 where
  by_eleven : answer_now m n past c ≡ unwritten (refusal 11) → AnsweredBy m n past c
  by_fault : (e : Report) → fault_in past ≡ Some e → answer_now m n past c ≡ unwritten e → AnsweredBy m n past c
  by_sizes : too_small c ≡ true → answer_now m n past c ≡ unwritten (refusal 10) → AnsweredBy m n past c
  by_reading :
      (d t : Dialect) → dialect_of m ≡ Some d → dialect_of n ≡ Some t → fault_in past ≡ None → ended_in past ≡ false → checked m n past c ≡ false →
      answer_now m n past c ≡ taken (into t) (written_in past) (seen_by d (into t) c (consumed_in past ++ bytes_of c)) → AnsweredBy m n past c

-- a fault found before is a file fault
met_fault : (e : Report) (xs : List Entry) → fault_in xs ≡ Some e → is_file_fault e ≡ true
unfolding fault_in choose◌then◌else◌
met_fault e [] k = none_some k
met_fault e (x ∷ xs) k =
    split_on (is_file_fault x.answer.report)
    (λ h. let same : x.answer.report ≡ e = some_same (rw h at k) in rw same at h) λ h.
    met_fault e xs (rw h at k)

module _ (m n : ℕ) where
  answered_by : (past : List Entry) (c : Call) → AnsweredBy m n past c
  unfolding checked
  answered_by past c = go (dialect_of m) (dialect_of n) refl refl
    where
      known : (d t : Dialect) → dialect_of m ≡ Some d → dialect_of n ≡ Some t → (f : Option Report) → fault_in past ≡ f → AnsweredBy m n past c
      known d t p q (Some e) k = by_fault e k (answer_known m n d t past c p q ∙ answer_failed d (into t) past c e k)
      known d t p q None k =
          split_on (ended_in past) (λ z. by_eleven (answer_known m n d t past c p q ∙ answer_ended d (into t) past c k z)) λ z.
          split_on (too_small c) (λ s. by_sizes s (answer_known m n d t past c p q ∙ answer_small d (into t) past c k z s)) λ s.
          by_reading d t p q k z (rw (p, checked, q, k, z, s)) (answer_known m n d t past c p q ∙ answer_taken d (into t) past c k z s)

      go : (x y : Option Dialect) → dialect_of m ≡ x → dialect_of n ≡ y → AnsweredBy m n past c
      go None y p q = by_eleven (answer_source m n past c p)
      go (Some d) None p q = by_eleven (answer_target m n d past c p q)
      go (Some d) (Some t) p q = known d t p q (fault_in past) refl

  module _ (past : List Entry) (c : Call) where
    abbrev now : Written
    now = answer_now m n past c

    -- a call that a check refuses writes nothing
    pub silent : checked m n past c ≡ true → now.text ≡ []
    silent h = go (answered_by past c)
      where
        go : AnsweredBy m n past c → now.text ≡ []
        go (by_eleven a) = ap (λ (u : Written). u.text) a
        go (by_fault e k a) = ap (λ (u : Written). u.text) a
        go (by_sizes s a) = ap (λ (u : Written). u.text) a
        go (by_reading d t p q k z free a) = impossible (sym free ∙ h)

    -- 10 is for the sizes
    pub only_sizes : now.report.number ≡ 10 → too_small c ≡ true
    only_sizes h = go (answered_by past c)
      where
        number_of_lem : (w : Written) → now ≡ w → w.report.number ≡ 10
        number_of_lem w a = sym (ap (λ (u : Written). u.report.number) a) ∙ h

        no_fault : (x : ℕ) → x ≡ 10 → within 1 9 x ≡ true → too_small c ≡ true
        no_fault x e f = impossible (rw e at f)

        by_progress : (p : Progress) → (report_of p).number ≡ 10 → too_small c ≡ true
        by_progress (going r) e = let z : ◌≡◌ {A = ℕ} 0 10 = e in absurd (omega arith)
        by_progress (stopped f r) e = no_fault (number_of f) e (fault_number f)

        go : AnsweredBy m n past c → too_small c ≡ true
        go (by_eleven a) = let z : ◌≡◌ {A = ℕ} 11 10 = number_of_lem (unwritten (refusal 11)) a in absurd (omega arith)
        go (by_fault e k a) = no_fault e.number (number_of_lem (unwritten e) a) (met_fault e past k)
        go (by_sizes s a) = s
        go (by_reading d t p q k z free a) =
            by_progress (seen_by d (into t) c (consumed_in past ++ bytes_of c))
            (number_of_lem (taken (into t) (written_in past) (seen_by d (into t) c (consumed_in past ++ bytes_of c))) a)

    -- a file fault that any call reports is the one found first
    pub reports_first : is_file_fault now.report ≡ true → fault_in (after m n past c) ≡ Some now.report
    unfolding fault_in choose◌then◌else◌
    reports_first h = go (answered_by past c)
      where
        entry : List Entry
        entry = record { call = c; answer = now } ∷ []

        refuses : (x : ℕ) → now ≡ unwritten (refusal x) → within 1 9 x ≡ false → fault_in (after m n past c) ≡ Some now.report
        refuses x a e = let z : within 1 9 x ≡ true = rw a at h in impossible (sym e ∙ z)

        go : AnsweredBy m n past c → fault_in (after m n past c) ≡ Some now.report
        go (by_eleven a) = refuses 11 a refl
        go (by_fault e k a) = fault_some entry e past k ∙ ap (λ (u : Written). Some u.report) (sym a)
        go (by_sizes s a) = refuses 10 a refl
        go (by_reading d t p q k z free a) = let met : fault_in entry ≡ Some now.report = rw h in fault_none entry past k ∙ met

-- ---- the ledger and the whole converter

module _ (m n : ℕ) where
  -- with a number that is no dialect no fault is found and no end accepted
  idle :
      ((past : List Entry) (c : Call) → answer_now m n past c ≡ unwritten (refusal 11)) → (past : List Entry) (cs : List Call) →
      fault_in past ≡ None → ended_in past ≡ false →
      (fault_in (history_from m n past cs) ≡ None) × (ended_in (history_from m n past cs) ≡ false)
  unfolding history_from fault_in ended_in choose◌then◌else◌
  idle a past [] k z = (k, z)
  idle a past (c ∷ cs) k z =
      let new : List Entry = record { call = c; answer = answer_now m n past c } ∷ [] in
      idle a (after m n past c) cs (fault_none new past k ∙ rw (a past c)) (ended_append new past ∙ rw (z, a past c, and_none (is_finish c)))

  -- no end call is accepted where a fault was found
  data NotBoth (past : List Entry) : Type 0 where
    no_fault : fault_in past ≡ None → NotBoth past
    no_end : ended_in past ≡ false → NotBoth past

  not_both : (past : List Entry) (c : Call) → NotBoth past → NotBoth (after m n past c)
  unfolding fault_in ended_in choose◌then◌else◌
  not_both past c h = go h (answered_by m n past c)
    where
      new : Written → List Entry
      new w = record { call = c; answer = w } ∷ []

      not_accepted : (w : Written) → is_accepted w.report ≡ false → ended_in past ≡ false → ended_in (past ++ new w) ≡ false
      not_accepted w e z = ended_append (new w) past ∙ rw (e, z, and_none (is_finish c))

      -- a refusal of the call is neither
      refusing : (x : ℕ) → is_file_fault (refusal x) ≡ false → is_accepted (refusal x) ≡ false → NotBoth past → NotBoth (past ++ new (unwritten (refusal x)))
      refusing x e f (no_fault k) = no_fault (fault_none (new (unwritten (refusal x))) past k ∙ rw e)
      refusing x e f (no_end z) = no_end (not_accepted (unwritten (refusal x)) f z)

      no_acceptance : (x : ℕ) → within 1 9 x ≡ true → eqb x 0 ≡ false
      no_acceptance x e = let z = within_true 1 9 x e in ne_eqb x 0 (λ (q : x ≡ 0). let low : 1 ≤ x = z.0 in absurd (omega arith))

      reading : (t : Target) (p : Progress) → fault_in past ≡ None → ended_in past ≡ false → NotBoth (past ++ new (taken t (written_in past) p))
      reading t (going r) k z = no_fault (fault_none (new (taken t (written_in past) (going r))) past k)
      reading t (stopped e r) k z = no_end (not_accepted (taken t (written_in past) (stopped e r)) (no_acceptance (number_of e) (fault_number e)) z)

      go : NotBoth past → AnsweredBy m n past c → NotBoth (after m n past c)
      go h (by_eleven a) = rw a (refusing 11 refl refl h)
      go (no_fault k) (by_fault e f a) = none_some (sym k ∙ f)
      go (no_end z) (by_fault e f a) = rw a (no_end (not_accepted (unwritten e) (no_acceptance e.number (met_fault e past f)) z))
      go h (by_sizes s a) = rw a (refusing 10 refl refl h)
      go h (by_reading d t p q k z free a) = rw a (reading (into t) (seen_by d (into t) c (consumed_in past ++ bytes_of c)) k z)

  never_both : (past : List Entry) (cs : List Call) → NotBoth past → NotBoth (history_from m n past cs)
  unfolding history_from
  never_both past [] h = h
  never_both past (c ∷ cs) h = never_both (after m n past c) cs (not_both past c h)

  -- once an end call was accepted, all that was written is the whole converter's text
  pub ended_whole :
      (cs : List Call) → ended_in (history m n cs) ≡ true →
      converter m n (consumed_in (history m n cs)) MAXFILE ≡ record { report = accepted; text = written_in (history m n cs) }
  unfolding fault_in ended_in choose◌then◌else◌
  ended_whole cs h = go (dialect_of m) (dialect_of n) refl refl
    where
      past : List Entry
      past = history m n cs

      written : Bytes → Written
      written bs = record { report = accepted; text = bs }

      at_stage :
          (d t : Dialect) (w : ConverterStage) → dialect_of m ≡ Some d → dialect_of n ≡ Some t → LiesAt d (into t) past w →
          converter m n (consumed_in past) MAXFILE ≡ record { report = accepted; text = written_in past }
      at_stage d t (taking r) p q (stood_taking k e b w) = impossible (sym e ∙ h)
      at_stage d t (faulted x) p q (stood_faulted f r z k s w) = go_fault (never_both [] cs (no_end refl))
        where
          go_fault : NotBoth past → converter m n (consumed_in past) MAXFILE ≡ record { report = accepted; text = written_in past }
          go_fault (no_fault e) = none_some (sym e ∙ k)
          go_fault (no_end e) = impossible (sym e ∙ h)
      at_stage d t ended p q (stood_ended r k e b w) =
          let l : length (table_text (into t) (rows (records_of (read_file d (Some (into t)) (consumed_in past))))) ≤ MAXFILE
          = file_output d (into t) (consumed_in past) in
          let l' : length (table_text (into t) (rows r.done)) ≤ MAXFILE = rw b at l in
          converter_known m n d t (consumed_in past) MAXFILE p q
          ∙ ap (converted_as (into t) MAXFILE) b
          ∙ rw (le-ltb MAXFILE (length (table_text (into t) (rows r.done))) l') (ap (λ (bs : Bytes). written bs) (sym w))

      go :
          (x y : Option Dialect) → dialect_of m ≡ x → dialect_of n ≡ y →
          converter m n (consumed_in past) MAXFILE ≡ record { report = accepted; text = written_in past }
      go None y p q = impossible (sym (idle (λ l c. answer_source m n l c p) [] cs refl refl).1 ∙ h)
      go (Some d) None p q = impossible (sym (idle (λ l c. answer_target m n d l c p q) [] cs refl refl).1 ∙ h)
      go (Some d) (Some t) p q = let s = history_stood m n d t p q cs in at_stage d t s.0 p q s.1

  -- a fault found is the whole converter's
  pub met_whole : (cs : List Call) (e : Report) → fault_in (history m n cs) ≡ Some e → e ≡ (converter m n (consumed_in (history m n cs)) MAXFILE).report
  unfolding fault_in ended_in choose◌then◌else◌
  met_whole cs e h = go (dialect_of m) (dialect_of n) refl refl
    where
      past : List Entry
      past = history m n cs

      shown : (d : Dialect) (t : Target) (f : Fault) (r : Read) → seen_in d t past ≡ stopped f r → read_file d (Some t) (consumed_in past) ≡ stopped f r
      shown d t f r s =
          split_on (closed_in past) (λ z. rw z at s) λ z.
          let unended : read_bytes d (Some t) (consumed_in past) ≡ stopped f r = rw z at s in
          rw append-nil at (fault_stays_file d (Some t) f r (consumed_in past) [] unended)

      at_stage :
          (d t : Dialect) (w : ConverterStage) → dialect_of m ≡ Some d → dialect_of n ≡ Some t → LiesAt d (into t) past w →
          e ≡ (converter m n (consumed_in past) MAXFILE).report
      at_stage d t (taking r) p q (stood_taking k z b w) = none_some (sym k ∙ h)
      at_stage d t ended p q (stood_ended r k z b w) = none_some (sym k ∙ h)
      at_stage d t (faulted x) p q (stood_faulted f r z k s w) =
          let conv : converter m n (consumed_in past) MAXFILE ≡ unwritten (fault_report f r)
          = converter_known m n d t (consumed_in past) MAXFILE p q ∙ ap (converted_as (into t) MAXFILE) (shown d (into t) f r s) in
          some_same (sym h ∙ k) ∙ z ∙ ap (λ (u : Written). u.report) (sym conv)

      go : (x y : Option Dialect) → dialect_of m ≡ x → dialect_of n ≡ y → e ≡ (converter m n (consumed_in past) MAXFILE).report
      go None y p q = none_some (sym (idle (λ l c. answer_source m n l c p) [] cs refl refl).0 ∙ h)
      go (Some d) None p q = none_some (sym (idle (λ l c. answer_target m n d l c p q) [] cs refl refl).0 ∙ h)
      go (Some d) (Some t) p q = let s = history_stood m n d t p q cs in at_stage d t s.0 p q s.1

-- a fault, and the records before it, of every file that begins with these bytes
abbrev pub OfEveryFile : (m n : ℕ) (d : Dialect) (t : Target) → Bytes → Report → Type 0
OfEveryFile m n d t bs told =
    (e : Fault) × (r : Read) × (told ≡ fault_report e r)
    × ((rest : Bytes) → (read_file d (Some t) (bs ++ rest) ≡ stopped e r) × ((converter m n (bs ++ rest) MAXFILE).report ≡ told))

module _ (m n : ℕ) (d t : Dialect) (p : dialect_of m ≡ Some d) (q : dialect_of n ≡ Some t) (past : List Entry) (bs : Bytes) (room : ℕ)
    (k : fault_in past ≡ None) where
  -- a piece call that reports a fault where none was found before
  pub piece_fault :
      is_file_fault (answer_now m n past (piece bs room)).report ≡ true →
      OfEveryFile m n d (into t) (consumed_in past ++ bs) (answer_now m n past (piece bs room)).report
  piece_fault h = go (answered_by m n past (piece bs room))
    where
      told : Report
      told = (answer_now m n past (piece bs room)).report

      all : Bytes
      all = consumed_in past ++ bs

      refuses : (x : ℕ) → told ≡ refusal x → within 1 9 x ≡ false → OfEveryFile m n d (into t) all told
      refuses x a e = let z : within 1 9 x ≡ true = rw a at h in impossible (sym e ∙ z)

      by_progress : (x : Progress) → read_bytes d (Some (into t)) all ≡ x → told ≡ report_of x → OfEveryFile m n d (into t) all told
      by_progress (going r) b a = refuses 0 a refl
      by_progress (stopped e r) b a = (
        e,
        r,
        a,
        λ rest.
            let stays : read_file d (Some (into t)) (all ++ rest) ≡ stopped e r = fault_stays_file d (Some (into t)) e r all rest b in
            let conv : converter m n (all ++ rest) MAXFILE ≡ unwritten (fault_report e r)
            = converter_known m n d t (all ++ rest) MAXFILE p q ∙ ap (converted_as (into t) MAXFILE) stays in
            (stays, ap (λ (u : Written). u.report) conv ∙ sym a),
      )

      go : AnsweredBy m n past (piece bs room) → OfEveryFile m n d (into t) all told
      go (by_eleven a) = refuses 11 (ap (λ (u : Written). u.report) a) refl
      go (by_fault e f a) = none_some (sym k ∙ f)
      go (by_sizes s a) = refuses 10 (ap (λ (u : Written). u.report) a) refl
      go (by_reading d' t' p' q' k z free a) =
          let same : d' ≡ d = some_same (sym p' ∙ p) in
          let same' : t' ≡ t = some_same (sym q' ∙ q) in
          by_progress (read_bytes d (Some (into t)) all) refl
          (ap (λ (u : Written). u.report) a ∙ ap₂ (λ (x y : Dialect). report_of (read_bytes x (Some (into y)) all)) same same')
