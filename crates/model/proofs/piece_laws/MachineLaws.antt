-- The ledger follows the machine of Machine: after any list of calls the stage gives the ledger's next answer.
use Prim.Native.Nat.{ℕ}
use mathlib.Core.Path.{◌≡◌, refl, sym, ap, ◌∙◌}
use mathlib.Core.Bool.{true, false}
use Rattle.std.specs.Prelude.{Option, None, Some}
use mathlib.Core.List.{List, [], ◌∷◌, ◌++◌, append_assoc, append-nil}
use lib.ListN.{length, drop}
use lib.Seq.{drop-append_seam, drop-length}
use Rattle.model.specs.rules.Types.{Report, Dialect, Target, Fault}
use Rattle.model.specs.rules.Base.{choose◌then◌else◌, within, Bytes, is_empty}
use Rattle.model.specs.rules.Dialect.{dialect_of, into}
use Rattle.model.specs.rules.Text.{record_text, table_text, ending}
use Rattle.model.specs.rules.Report.{refusal, number_of}
use Rattle.model.specs.rules.Records.{Rec, rows, Read, Progress, going, stopped, nothing_read, read_from, read_bytes, read_end, read_file, records_of}
use Rattle.model.specs.rules.Records.{fault_report}
use Rattle.model.specs.rules.Api.{Written, unwritten}
use Rattle.model.specs.rules.Ledger.{Call, piece, finish, Entry, bytes_of, is_finish, fault_in, ended_in, consumed_in, closed_in, written_in, too_small}
use Rattle.model.specs.rules.Ledger.{taken, seen_by, answer_to, answer_now, checked, history_from, history}
use Rattle.model.specs.laws.Demands.{seen_in, JoinedOutputs}
use Rattle.model.specs.laws.Laws.{Grows}
use Rattle.model.specs.laws.Machine.{ConverterStage, taking, faulted, ended, seen_from, answer_at, stage_then, stage_after, checked_at, LiesAt}
use Rattle.model.specs.laws.Machine.{stood_taking, stood_faulted, stood_ended, Machine, UnknownLaws, Unknown}
use Rattle.model.specs.laws.Machine.{new_text, NewTextLaws}
use Rattle.model.proofs.Tests.{split_on}
use Rattle.model.proofs.file_laws.ReadAppend.{read_append, read_grows, end_grows}
use Rattle.model.proofs.round_trip.TableText.{table_grows, rest_of, table_snoc}
use Rattle.model.proofs.piece_laws.CallsMade.{answer_known, answer_source, answer_target}
use Rattle.model.proofs.piece_laws.Histories.{fault_number, fault_none, fault_some, consumed_none, consumed_some, closed_none, closed_some}
use Rattle.model.proofs.piece_laws.Histories.{closed_ended, written_append, ended_append, answer_failed, answer_ended, answer_small}
use Rattle.model.proofs.piece_laws.Histories.{answer_taken}

module _ (d : Dialect) (t : Target) where
  -- the canonical text of the records completed
  abbrev pub text_of : Progress → Bytes
  text_of p = table_text t (rows (records_of p))

  -- what a call has read, from the reading state
  seen_from_lem : (xs : Bytes) (r : Read) (c : Call) → read_bytes d (Some t) xs ≡ going r → seen_by d t c (xs ++ bytes_of c) ≡ seen_from d t r c
  unfolding read_bytes read_file
  seen_from_lem xs r (piece bs room) e = read_append d (Some t) (going nothing_read) xs bs ∙ ap (λ p. read_from d (Some t) p bs) e
  seen_from_lem xs r (finish room) e = rw append-nil (ap (read_end d (Some t)) e)

  seen_grows : (r : Read) (c : Call) → Grows r.done (records_of (seen_from d t r c))
  seen_grows r (piece bs room) = read_grows d (Some t) (going r) bs
  seen_grows r (finish room) = end_grows d (Some t) (going r)

  machine_answers : (past : List Entry) (w : ConverterStage) (c : Call) → LiesAt d t past w → answer_to d t past c ≡ answer_at d t w c
  unfolding answer_at choose◌then◌else◌
  machine_answers past (taking r) c (stood_taking k h b w) =
      split_on (too_small c) (λ s. rw s (answer_small d t past c k h s)) λ s.
      rw s
      (answer_taken d t past c k h s ∙ ap (λ x. taken t x (seen_by d t c (consumed_in past ++ bytes_of c))) w
      ∙ ap (taken t (table_text t (rows r.done))) (seen_from_lem (consumed_in past) r c b))
  machine_answers past (faulted e) c (stood_faulted f r z k s w) = answer_failed d t past c e k
  machine_answers past ended c (stood_ended r k h b w) = answer_ended d t past c k h

  abbrev made : Call → Written → List Entry
  made c a = record { call = c; answer = a } ∷ []

  -- what was written, and then the rest of the text
  joined : {xs : Bytes} (p q : Progress) → xs ≡ text_of p → Grows (records_of p) (records_of q) → xs ++ drop (length xs) (text_of q) ≡ text_of q
  joined {xs} p q h g = rw h (rest_of (table_grows t g))

  -- a call that writes nothing
  silent : (past : List Entry) (c : Call) (e : Report) → written_in (past ++ made c (unwritten e)) ≡ written_in past
  unfolding written_in
  silent past c e = written_append (made c (unwritten e)) past ∙ append-nil (written_in past)

  -- a call that is taken, with what it has read
  module _ (past : List Entry) (r : Read) (k : fault_in past ≡ None) (h : ended_in past ≡ false)
      (b : read_bytes d (Some t) (consumed_in past) ≡ going r) (w : written_in past ≡ table_text t (rows r.done)) where
    -- a call that was too small
    stays_taking : (c : Call) → LiesAt d t (past ++ made c (unwritten (refusal 10))) (taking r)
    unfolding fault_in ended_in consumed_in choose◌then◌else◌
    stays_taking (piece bs room) =
        let x : List Entry = made (piece bs room) (unwritten (refusal 10)) in
        let same : consumed_in (past ++ x) ≡ consumed_in past = consumed_none x past k ∙ append-nil (consumed_in past) in
        stood_taking {r = r} (fault_none x past k) (ended_append x past ∙ rw h) (rw same b) (silent past (piece bs room) (refusal 10) ∙ w)
    stays_taking (finish room) =
        let x : List Entry = made (finish room) (unwritten (refusal 10)) in
        let same : consumed_in (past ++ x) ≡ consumed_in past = consumed_none x past k ∙ append-nil (consumed_in past) in
        stood_taking {r = r} (fault_none x past k) (ended_append x past ∙ rw h) (rw same b) (silent past (finish room) (refusal 10) ∙ w)

    -- all that is written then
    written : (c : Call) (q : Progress) → Grows r.done (records_of q) → written_in (past ++ made c (taken t (table_text t (rows r.done)) q)) ≡ text_of q
    unfolding written_in
    written c q g =
        let new : Bytes = drop (length (table_text t (rows r.done))) (text_of q) in
        written_append (made c (taken t (table_text t (rows r.done)) q)) past
        ∙ ap (λ l. written_in past ++ l) (append-nil new)
        ∙ ap (λ l. l ++ new) w
        ∙ joined (going r) q refl g

    -- what the calls have shown once a fault was found
    meets :
        (c : Call) (f : Fault) (r' : Read) → seen_by d t c (consumed_in past ++ bytes_of c) ≡ stopped f r' → Grows r.done r'.done →
        LiesAt d t (past ++ made c (taken t (table_text t (rows r.done)) (stopped f r'))) (faulted (fault_report f r'))
    unfolding fault_in consumed_in closed_in choose◌then◌else◌
    meets c f r' e g =
        let x : List Entry = made c (taken t (table_text t (rows r.done)) (stopped f r')) in
        let n : within 1 9 (number_of f) ≡ true = fault_number f in
        let met : fault_in x ≡ Some (fault_report f r') = rw n in
        let last : consumed_in x ≡ bytes_of c = rw n in
        let all : consumed_in (past ++ x) ≡ consumed_in past ++ bytes_of c = consumed_none x past k ∙ ap (λ l. consumed_in past ++ l) last in
        let end : closed_in x ≡ is_finish c = rw n in
        let shut : closed_in (past ++ x) ≡ is_finish c = closed_none x past k ∙ rw (h, end) in
        let seen : seen_in d t (past ++ x) ≡ stopped f r' = seen_now c (past ++ x) shut all ∙ e in
        stood_faulted f r' refl (fault_none x past k ∙ met) seen (written c (stopped f r') g)
      where
        seen_now :
            (c : Call) (xs : List Entry) → closed_in xs ≡ is_finish c → consumed_in xs ≡ consumed_in past ++ bytes_of c →
            seen_in d t xs ≡ seen_by d t c (consumed_in past ++ bytes_of c)
        seen_now (piece bs room) xs e f = rw (e, f)
        seen_now (finish room) xs e f = rw (e, f)

    takes :
        (c : Call) (q : Progress) → seen_from d t r c ≡ q → Grows r.done (records_of q) →
        LiesAt d t (past ++ made c (taken t (table_text t (rows r.done)) q)) (stage_then (is_finish c) q)
    unfolding fault_in ended_in consumed_in choose◌then◌else◌
    takes (piece bs room) (going r') e g =
        let x : List Entry = made (piece bs room) (taken t (table_text t (rows r.done)) (going r')) in
        let same : consumed_in (past ++ x) ≡ consumed_in past ++ bs = consumed_none x past k ∙ ap (λ l. consumed_in past ++ l) (append-nil bs) in
        let to : read_bytes d (Some t) (consumed_in past ++ bs) ≡ going r' = seen_from_lem (consumed_in past) r (piece bs room) b ∙ e in
        stood_taking {r = r'} (fault_none x past k) (ended_append x past ∙ rw h) (rw same to) (written (piece bs room) (going r') g)
    takes (finish room) (going r') e g =
        let x : List Entry = made (finish room) (taken t (table_text t (rows r.done)) (going r')) in
        let same : consumed_in (past ++ x) ≡ consumed_in past ++ [] = consumed_none x past k in
        let to : read_file d (Some t) (consumed_in past ++ []) ≡ going r' = seen_from_lem (consumed_in past) r (finish room) b ∙ e in
        stood_ended r' (fault_none x past k) (ended_append x past ∙ rw h) (rw same to) (written (finish room) (going r') g)
    takes c (stopped f r') e g = meets c f r' (seen_from_lem (consumed_in past) r c b ∙ e) g

  -- a call after a fault
  stays_faulted :
      (past : List Entry) (c : Call) (e : Report) (f : Fault) (r : Read) → e ≡ fault_report f r → fault_in past ≡ Some e → seen_in d t past ≡ stopped f r →
      written_in past ≡ table_text t (rows r.done) → LiesAt d t (past ++ made c (unwritten e)) (faulted e)
  stays_faulted past c e f r z k s w =
      let x : List Entry = made c (unwritten e) in
      stood_faulted f r z (fault_some x e past k) (rw (closed_some x e past k, consumed_some x e past k) s) (silent past c e ∙ w)

  -- a call after the end
  stays_ended :
      (past : List Entry) (c : Call) (r : Read) → fault_in past ≡ None → ended_in past ≡ true → read_file d (Some t) (consumed_in past) ≡ going r →
      written_in past ≡ table_text t (rows r.done) → LiesAt d t (past ++ made c (unwritten (refusal 11))) ended
  unfolding fault_in consumed_in choose◌then◌else◌
  stays_ended past c r k h b w =
      let x : List Entry = made c (unwritten (refusal 11)) in
      let same : consumed_in (past ++ x) ≡ consumed_in past = consumed_none x past k ∙ append-nil (consumed_in past) in
      stood_ended r (fault_none x past k) (ended_append x past ∙ rw h) (rw same b) (silent past c (refusal 11) ∙ w)

  machine_moves : (past : List Entry) (w : ConverterStage) (c : Call) → LiesAt d t past w → LiesAt d t (past ++ made c (answer_at d t w c)) (stage_after d t w c)
  unfolding answer_at stage_after choose◌then◌else◌
  machine_moves past (taking r) c (stood_taking k h b w) =
      split_on (too_small c) (λ s. rw s (stays_taking past r k h b w c)) λ s.
      rw s (takes past r k h b w c (seen_from d t r c) refl (seen_grows r c))
  machine_moves past (faulted e) c (stood_faulted f r z k s w) = stays_faulted past c e f r z k s w
  machine_moves past ended c (stood_ended r k h b w) = stays_ended past c r k h b w

  machine_new : LiesAt d t [] (taking nothing_read)
  unfolding fault_in ended_in consumed_in written_in read_bytes read_from nothing_read rows table_text
  machine_new = stood_taking refl refl refl refl

  machine_leaves : (w : ConverterStage) (c : Call) → checked_at w c ≡ true → stage_after d t w c ≡ w
  unfolding stage_after choose◌then◌else◌
  machine_leaves (taking r) c s = rw s
  machine_leaves (faulted e) c s = refl
  machine_leaves ended c s = refl

  machine_checks :
      (m n : ℕ) (u : Dialect) → dialect_of m ≡ Some d → dialect_of n ≡ Some u → (past : List Entry) (w : ConverterStage) (c : Call) →
      LiesAt d t past w → checked m n past c ≡ checked_at w c
  unfolding checked
  machine_checks m n u p q past (taking r) c (stood_taking k h b w) = rw (p, checked, q, k, h)
  machine_checks m n u p q past (faulted e) c (stood_faulted f r z k s w) = rw (p, checked, q, k)
  machine_checks m n u p q past ended c (stood_ended r k h b w) = rw (p, checked, q, k, h)

pub machine : Machine
machine m n d t p q =
    record {
      new = machine_new d (into t);
      answers = λ past w c s. answer_known m n d t past c p q ∙ machine_answers d (into t) past w c s;
      moves = machine_moves d (into t);
      checks = machine_checks d (into t) m n t p q;
      leaves = machine_leaves d (into t);
    }

-- ---- every list of calls

module _ (m n : ℕ) (d t : Dialect) (p : dialect_of m ≡ Some d) (q : dialect_of n ≡ Some t) where
  -- the stage after a list of calls
  stood_from :
      (past : List Entry) (cs : List Call) (w : ConverterStage) → LiesAt d (into t) past w →
      (w' : ConverterStage) × LiesAt d (into t) (history_from m n past cs) w'
  unfolding history_from
  stood_from past [] w s = (w, s)
  stood_from past (c ∷ cs) w s =
      let a : answer_now m n past c ≡ answer_at d (into t) w c = answer_known m n d t past c p q ∙ machine_answers d (into t) past w c s in
      let s' : LiesAt d (into t) (past ++ made d (into t) c (answer_now m n past c)) (stage_after d (into t) w c) = rw a (machine_moves d (into t) past w c s) in
      stood_from (past ++ made d (into t) c (answer_now m n past c)) cs (stage_after d (into t) w c) s'

  pub history_stood : (cs : List Call) → (w : ConverterStage) × LiesAt d (into t) (history m n cs) w
  history_stood cs = stood_from [] cs (taking nothing_read) (machine_new d (into t))

pub joined_stood :
    (d : Dialect) (t : Target) (past : List Entry) (w : ConverterStage) → LiesAt d t past w →
    written_in past ≡ table_text t (rows (records_of (seen_in d t past)))
unfolding choose◌then◌else◌
joined_stood d t past (taking r) (stood_taking k h b w) = rw (closed_ended past k, h, b) w
joined_stood d t past (faulted e) (stood_faulted f r z k s w) = rw s w
joined_stood d t past ended (stood_ended r k h b w) = rw (closed_ended past k, h, b) w

pub joined_outputs_lem : JoinedOutputs
joined_outputs_lem m n d t cs p q = let s = history_stood m n d t p q cs in joined_stood d (into t) (history m n cs) s.0 s.1

-- ---- a number that is no dialect

pub unknown : Unknown
unfolding checked
unknown =
    record {
      source = λ m n p. record { answers = λ past c. answer_source m n past c p; checks = λ past c. rw (p, checked) };
      target = λ m n q. target m n q (dialect_of m) refl;
    }
  where
    target : (m n : ℕ) → dialect_of n ≡ None → (x : Option Dialect) → dialect_of m ≡ x → UnknownLaws m n
    target m n q None p = record { answers = λ past c. answer_source m n past c p; checks = λ past c. rw (p, checked) }
    target m n q (Some d) p = record { answers = λ past c. answer_target m n d past c p q; checks = λ past c. rw (p, checked, q) }

-- ---- what a call writes

pub new_text_lem : (t : Target) → NewTextLaws t
unfolding new_text
new_text_lem t =
    record {
      nothing = λ done. drop-length (table_text t (rows done));
      one_more_lem = λ done added x. more done added x (table_grows t (record { added = added; sum = refl }));
    }
  where
    more :
        (done added : List Rec) (x : Rec) → Grows (table_text t (rows done)) (table_text t (rows (done ++ added))) →
        drop (length (table_text t (rows done))) (table_text t (rows (done ++ added ++ (x ∷ []))))
        ≡ drop (length (table_text t (rows done))) (table_text t (rows (done ++ added))) ++
        (record_text t (is_empty (done ++ added)) x.cells ++ ending t.dialect)
    more done added x g =
        let a : Bytes = table_text t (rows done) in
        let new : Bytes = record_text t (is_empty (done ++ added)) x.cells ++ ending t.dialect in
        ap (drop (length a)) (table_snoc t (done ++ added) x)
        ∙ ap (λ l. drop (length a) (l ++ new)) g.sum
        ∙ ap (drop (length a)) (append_assoc a g.added new)
        ∙ drop-append_seam a (g.added ++ new)
        ∙ ap (λ l. l ++ new) (sym (drop-append_seam a g.added) ∙ ap (drop (length a)) (sym g.sum))
