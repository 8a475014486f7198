-- The contract of a call, from what it does at the state's stage. A check refuses, and nothing changes; or the call is taken, and then
-- the state takes bytes.
use Prim.Native.Nat.{ℕ, ◌≤◌}
use native.Mathlib.Omega.{arith}
use mathlib.Core.Path.{◌≡◌, refl, sym, ap, subst, ◌∙◌}
use mathlib.Core.Bool.{true, false}
use Rattle.std.specs.Prelude.{Option, None, Some}
use mathlib.Core.List.{List, [], ◌∷◌, ◌++◌, append-nil}
use lib.ListN.{length}
use Rattle.model.specs.declared.Report.{Report}
use Rattle.model.specs.declared.Dialect.{Dialect}
use Rattle.model.specs.declared.Target.{Target}
use Rattle.model.specs.rules.Base.{choose◌then◌else◌, Bytes}
use Rattle.model.specs.rules.Dialect.{dialect_of, into}
use Rattle.model.specs.rules.Text.{table_text}
use Rattle.model.specs.rules.Report.{refusal, MAXRECORD, MAXCOLUMNS}
use Rattle.model.specs.rules.Records.{Rec, rows, Read, Progress, going, stopped}
use Rattle.model.specs.rules.Api.{Written, unwritten}
use Rattle.model.specs.rules.Ledger as ledger
use Rattle.model.specs.rules.Ledger.{Call, piece, finish, Entry, bytes_of, room_of, is_finish, consumed_in, too_small, taken, answer_now, checked}
use Rattle.model.specs.laws.Machine.{ConverterStage, taking, faulted, ended, seen_from, answer_at, stage_then, stage_after, checked_at, LiesAt, stood_taking}
use Rattle.model.specs.laws.Machine.{stood_faulted, stood_ended, UnknownLaws, carries_known, carries_source, carries_target}
use Rattle.model.specs.laws.Scans.{Buffered}
use Rattle.model.proofs.piece_laws.Histories.{fault_number, consumed_none, consumed_some}
use Rattle.model.proofs.piece_laws.MachineLaws.{machine, unknown}
use Rattle.model.proofs.Tests.{split_on, impossible}
use Rattle.codes.specs.Named.{text_answer}
use Rattle.codes.specs.declared.TextAnswer.{TextAnswer}
use Rattle.piece_state.specs.Checks.{CallCheck, check_now, StageEncoded, CallCheckSound, means_refused, means_taken}
use Rattle.std.specs.Prelude.{Ok, Err}
use Rattle.piece_state.proofs.CallChecks.{unknown_source, unknown_target, checks_mean}
use Rattle.piece_step.specs.declared.CallResult as call-taken
use Rattle.piece_step.specs.Invariant.{read_at}
use Rattle.piece_step.specs.Steps.{InBounds, current_in}
use Rattle.piece_step.specs.Calls.{Named, Begun, Finished}
use Rattle.piece_run.specs.PieceRun.{PieceRunSound}
use Rattle.piece_converter.specs.States.{place_of}
use Rattle.piece_converter.specs.Representation.{StateShows, Takes, StageOf, stage_taking, stage_faulted, stage_ended, stage_no_source, stage_no_target}
use Rattle.piece_converter.specs.Representation.{Models}
use Rattle.piece_converter.specs.Contract.{Represents, CallContract}
use Rattle.piece_converter.specs.declared.Converter.{Converter}
use Rattle.piece_converter.proofs.Representation.{Says, state_then, call_answer, Left, begun_piece, begun_end, piece_says, piece_left, end_says, end_left}

-- ---- the bytes consumed

-- after a call at this stage
abbrev consumed_then : ConverterStage → Call → Bytes → Bytes
consumed_then w c bs = choose checked_at w c then bs else bs ++ bytes_of c

abbrev entry : Call → Written → List Entry
entry c a = record { call = c; answer = a } ∷ []

-- a call with a number that is no dialect's consumes nothing
consumed_unknown : (past : List Entry) (c : Call) → consumed_in (past ++ entry c (unwritten (refusal 11))) ≡ consumed_in past
unfolding consumed_in choose◌then◌else◌
consumed_unknown past c = go (ledger.fault_in past) refl
  where
    go : (x : Option Report) → ledger.fault_in past ≡ x → consumed_in (past ++ entry c (unwritten (refusal 11))) ≡ consumed_in past
    go (Some e) k = consumed_some (entry c (unwritten (refusal 11))) e past k
    go None k = consumed_none (entry c (unwritten (refusal 11))) past k ∙ append-nil (consumed_in past)

-- a call that is taken consumes its bytes, also where it meets a fault
consumed_last : (t : Target) (text : Bytes) (c : Call) (q : Progress) → consumed_in (entry c (taken t text q)) ≡ bytes_of c
unfolding consumed_in choose◌then◌else◌
consumed_last t text c (going r) = append-nil (bytes_of c)
consumed_last t text c (stopped f r) = rw (fault_number f)

consumed_then_lem :
    (d : Dialect) (t : Target) (past : List Entry) (w : ConverterStage) (c : Call) → LiesAt d t past w →
    consumed_in (past ++ entry c (answer_at d t w c)) ≡ consumed_then w c (consumed_in past)
unfolding answer_at consumed_in choose◌then◌else◌
consumed_then_lem d t past (taking r) c (stood_taking k e b x) =
    split_on (too_small c) (λ s. rw s (consumed_none (entry c (unwritten (refusal 10))) past k ∙ append-nil (consumed_in past))) λ s.
    rw s
    (consumed_none (entry c (taken t (table_text t (rows r.done)) (seen_from d t r c))) past k
    ∙ ap (λ (l : Bytes). consumed_in past ++ l) (consumed_last t (table_text t (rows r.done)) c (seen_from d t r c)))
consumed_then_lem d t past (faulted e) c (stood_faulted f r z k s x) = consumed_some (entry c (unwritten e)) e past k
consumed_then_lem d t past ended c (stood_ended r k e b x) = consumed_none (entry c (unwritten (refusal 11))) past k ∙ append-nil (consumed_in past)

-- ---- one call is enough

-- what a call does, by the state's stage
record Stepped (s : Converter) (c : Call) (out : List ℕ) (told : TextAnswer) (next : Converter) (out' : List ℕ) : Type 0 where
  known :
      (m n : ℕ) (d t : Dialect) (w : ConverterStage) (consumed : Bytes) → dialect_of m ≡ Some d → dialect_of n ≡ Some t → Models consumed m n w s →
      Says told out out' (answer_at d (into t) w c) × Models (consumed_then w c consumed) m n (stage_after d (into t) w c) next × (checked_at w c ≡ true → next ≡ s)
  source : (m n : ℕ) (consumed : Bytes) → dialect_of m ≡ None → Models consumed m n ended s → Says told out out' (unwritten (refusal 11)) × (next ≡ s)
  target : (m n : ℕ) (consumed : Bytes) → dialect_of n ≡ None → Models consumed m n ended s → Says told out out' (unwritten (refusal 11)) × (next ≡ s)

-- the check of a call, by the numbers of a state
abbrev pub check_of : Converter → Call → CallCheck
check_of s c = check_now s.source s.target s.fault s.ended (length (bytes_of c)) (room_of c)

-- what holds for any state
record Anyhow (s : Converter) (c : Call) (out : List ℕ) (told : TextAnswer) (next : Converter) (out' : List ℕ) : Type 0 where
  within : told.length ≤ length out
  as_long : length out' ≡ length out
  dialects : (next.source ≡ s.source) × (next.target ≡ s.target)
  refuses : (e : Report) → check_of s c ≡ Err e → (told ≡ text_answer (unwritten e)) × (next ≡ s) × (out' ≡ out)

module _ (s : Converter) (c : Call) (out : List ℕ) (told : TextAnswer) (next : Converter) (out' : List ℕ) (g : Stepped s c out told next out') where
  -- the ledger's answer, and the next state has answered it
  record Now (m n : ℕ) (past : List Entry) : Type 0 where
    says : Says told out out' (answer_now m n past c)
    carries : Represents m n (past ++ entry c (answer_now m n past c)) next
    same : checked m n past c ≡ true → next ≡ s

  -- with a number that is no dialect's nothing changes
  idle :
      (m n : ℕ) (past : List Entry) → UnknownLaws m n → Says told out out' (unwritten (refusal 11)) → next ≡ s →
      (Models (consumed_in (past ++ entry c (unwritten (refusal 11)))) m n ended s → Represents m n (past ++ entry c (unwritten (refusal 11))) s) →
      Models (consumed_in past) m n ended s → Now m n past
  idle m n past u says z carry model =
      let a : answer_now m n past c ≡ unwritten (refusal 11) = u.answers past c in
      let model' : Models (consumed_in (past ++ entry c (unwritten (refusal 11)))) m n ended s =
      subst (λ (x : Bytes). Models x m n ended s) (sym (consumed_unknown past c)) model in
      record {
        says = subst (λ (x : Written). Says told out out' x) (sym a) says;
        carries =
            subst (λ (x : Written). Represents m n (past ++ entry c x) next) (sym a)
            (subst (λ (x : Converter). Represents m n (past ++ entry c (unwritten (refusal 11))) x) (sym z) (carry model'));
        same = λ _. z;
      }

  now : (m n : ℕ) (past : List Entry) → Represents m n past s → Now m n past
  now m n past (carries_known d t w p q stood model) =
      let l = machine m n d t p q in
      let x = g.known m n d t w (consumed_in past) p q model in
      let a : answer_now m n past c ≡ answer_at d (into t) w c = l.answers past w c stood in
      let model' : Models (consumed_in (past ++ entry c (answer_at d (into t) w c))) m n (stage_after d (into t) w c) next =
      subst (λ (y : Bytes). Models y m n (stage_after d (into t) w c) next) (sym (consumed_then_lem d (into t) past w c stood)) x.1 in
      record {
        says = subst (λ (y : Written). Says told out out' y) (sym a) x.0;
        carries =
            subst (λ (y : Written). Represents m n (past ++ entry c y) next) (sym a)
            (carries_known d t (stage_after d (into t) w c) p q (l.moves past w c stood) model');
        same = λ k. x.2 (sym (l.checks past w c stood) ∙ k);
      }
  now m n past (carries_source p model) =
      let x = g.source m n (consumed_in past) p model in idle m n past (unknown.source m n p) x.0 x.1 (λ h. carries_source p h) model
  now m n past (carries_target q model) =
      let x = g.target m n (consumed_in past) q model in idle m n past (unknown.target m n q) x.0 x.1 (λ h. carries_target q h) model

  called : Anyhow s c out told next out' → CallContract s c out told next out'
  called any =
      record {
        answer = λ m n past k. (now m n past k).says.answer;
        leaves = λ m n past k. (now m n past k).says.leaves;
        carries = λ m n past k. (now m n past k).carries;
        unchanged = λ m n past k. (now m n past k).same;
        within = any.within;
        as_long = any.as_long;
        dialects = any.dialects;
        checks = any.refuses;
      }

-- ---- what a check means

none_known : {A : Type 0} (o : Option Dialect) (d : Dialect) → o ≡ None → o ≡ Some d → A
none_known o d p q = let z : ◌≡◌ {A = ℕ} 0 1 = cc in absurd (omega arith)

-- the numbers of a state encode its stage
stage_reports :
    {m n : ℕ} {consumed : Bytes} {w : ConverterStage} {s : Converter} (d t : Dialect) → dialect_of m ≡ Some d → dialect_of n ≡ Some t →
    StageOf m n consumed w s → StageEncoded w s.fault s.ended
stage_reports d t p q (stage_taking d' t' done k p' q' reads tells takes) = tells
stage_reports d t p q (stage_faulted tells) = tells
stage_reports d t p q (stage_ended tells) = tells
stage_reports {m} d t p q (stage_no_source none-m) = none_known (dialect_of m) d none-m p
stage_reports {n = n} d t p q (stage_no_target none-n) = none_known (dialect_of n) t none-n q

means :
    (s : Converter) (c : Call) (m n : ℕ) (d t : Dialect) (w : ConverterStage) (consumed : Bytes) → dialect_of m ≡ Some d → dialect_of n ≡ Some t →
    Models consumed m n w s →
    CallCheckSound d t w c (check_of s c)
means s c m n d t w consumed p q h =
    subst
    (λ (x : ℕ). CallCheckSound d t w c (check_now x s.target s.fault s.ended (length (bytes_of c)) (room_of c)))
    (sym h.source)
    (subst
    (λ (y : ℕ). CallCheckSound d t w c (check_now m y s.fault s.ended (length (bytes_of c)) (room_of c)))
    (sym h.target)
    (checks_mean m n d t w s.fault s.ended c p q (stage_reports d t p q h.stage)))

source_unknown :
    (s : Converter) (c : Call) (m n : ℕ) (w : ConverterStage) (consumed : Bytes) → dialect_of m ≡ None → Models consumed m n w s →
    check_of s c ≡ Err (refusal 11)
source_unknown s c m n w consumed p h =
    unknown_source s.source s.target s.fault s.ended (length (bytes_of c)) (room_of c) (ap dialect_of h.source ∙ p)

target_unknown :
    (s : Converter) (c : Call) (m n : ℕ) (w : ConverterStage) (consumed : Bytes) → dialect_of n ≡ None → Models consumed m n w s →
    check_of s c ≡ Err (refusal 11)
target_unknown s c m n w consumed q h =
    unknown_target s.source s.target s.fault s.ended (length (bytes_of c)) (room_of c) (ap dialect_of h.target ∙ q)

-- ---- a call that a check refuses

same_report : (x : CallCheck) (e f : Report) → x ≡ Err e → x ≡ Err f → e ≡ f
same_report x e f p q = cc

-- the machine's answer, which leaves its stage as it is
record Refuses (d t : Dialect) (w : ConverterStage) (c : Call) (e : Report) : Type 0 where
  answers : answer_at d (into t) w c ≡ unwritten e
  by_check : checked_at w c ≡ true
  stays : stage_after d (into t) w c ≡ w

refuses : {d t : Dialect} {w : ConverterStage} {c : Call} {x : CallCheck} (e : Report) → CallCheckSound d t w c x → x ≡ Err e → Refuses d t w c e
refuses e (means_refused {e = f} a k z) h =
    let same : f ≡ e = same_report (Err f) f e refl h in record { answers = a ∙ ap unwritten same; by_check = k; stays = z }
refuses {d} {t} e (means_taken r z small) h = let z : ◌≡◌ {A = ℕ} 0 1 = cc in absurd (omega arith)

module _ (s : Converter) (c : Call) (out : List ℕ) (e : Report) (h : check_of s c ≡ Err e) where
  says_refused : (a : Written) → a ≡ unwritten e → Says (text_answer (unwritten e)) out out a
  says_refused a z = subst (λ (x : Written). Says (text_answer (unwritten e)) out out x) (sym z) (record { answer = refl; leaves = refl })

  says_unknown : check_of s c ≡ Err (refusal 11) → Says (text_answer (unwritten e)) out out (unwritten (refusal 11))
  says_unknown z = says_refused (unwritten (refusal 11)) (ap unwritten (same_report (check_of s c) (refusal 11) e z h))

  stays_models :
      (m n : ℕ) (d t : Dialect) (w : ConverterStage) (consumed : Bytes) → Refuses d t w c e → Models consumed m n w s →
      Models (consumed_then w c consumed) m n (stage_after d (into t) w c) s
  unfolding choose◌then◌else◌
  stays_models m n d t w consumed x k =
      let y : Models consumed m n (stage_after d (into t) w c) s = subst (λ (y : ConverterStage). Models consumed m n y s) (sym x.stays) k in
      rw x.by_check y

  refused_steps : Stepped s c out (text_answer (unwritten e)) s out
  refused_steps =
      record {
        known =
            λ m n d t w consumed p q k. let x : Refuses d t w c e = refuses e (means s c m n d t w consumed p q k) h in
            (says_refused (answer_at d (into t) w c) x.answers, stays_models m n d t w consumed x k, λ _. refl);
        source = λ m n consumed p k. (says_unknown (source_unknown s c m n ended consumed p k), refl);
        target = λ m n consumed q k. (says_unknown (target_unknown s c m n ended consumed q k), refl);
      }

  pub refused_called : CallContract s c out (text_answer (unwritten e)) s out
  refused_called =
      called s c out (text_answer (unwritten e)) s out refused_steps
      (record {
        within = omega arith;
        as_long = refl;
        dialects = (refl, refl);
        refuses = λ f k. (ap (λ (x : Report). text_answer (unwritten x)) (same_report (check_of s c) e f h k), refl, refl);
      })

-- ---- a call that is taken

-- a call between these dialects that is taken at this stage
record TakenAt (d t d' t' : Dialect) (c : Call) (w : ConverterStage) : Type 0 where
  from : d ≡ d'
  to : t ≡ t'
  read : Read
  stands : w ≡ taking read
  sized : too_small c ≡ false

same_pair : {x y : Dialect × Dialect} → ◌≡◌ {A = CallCheck} (Ok x) (Ok y) → x ≡ y
same_pair e = cc

taken_at :
    {d t : Dialect} {w : ConverterStage} {c : Call} {x : CallCheck} (d' t' : Dialect) → CallCheckSound d t w c x → x ≡ Ok (d', t') →
    TakenAt d t d' t' c w
taken_at d' t' (means_refused a k z) h = let z : ◌≡◌ {A = ℕ} 0 1 = cc in absurd (omega arith)
taken_at d' t' (means_taken r z small) h = record { from = ap (λ (x : Dialect × Dialect). x.0) (same_pair h); to = ap (λ (x : Dialect × Dialect). x.1) (same_pair h); read = r; stands = z; sized = small }

-- what the state then represents
record Holds (d t : Dialect) (consumed : Bytes) (s : Converter) (w : ConverterStage) : Type 0 where
  done : List Rec
  k : Buffered
  stands : w ≡ taking (read_at d (place_of s) done k)
  takes : Takes d t consumed s done k

holds :
    {m n : ℕ} {consumed : Bytes} {w : ConverterStage} {s : Converter} (d t : Dialect) (r : Read) → dialect_of m ≡ Some d → dialect_of n ≡ Some t →
    w ≡ taking r → StageOf m n consumed w s → Holds d t consumed s w
holds {m} {n} {consumed} {w} {s} d t r p q z (stage_taking d' t' done k p' q' reads tells takes) =
    let from : d' ≡ d = cc in
    let to : t' ≡ t = cc in
    subst (λ (x : Dialect). Holds x t consumed s w) from
    (subst (λ (y : Dialect). Holds d' y consumed s w) to (record { done = done; k = k; stands = ap taking reads; takes = takes }))
holds d t r p q z (stage_faulted tells) = let z : ◌≡◌ {A = ℕ} 0 1 = cc in absurd (omega arith)
holds d t r p q z (stage_ended tells) = let z : ◌≡◌ {A = ℕ} 0 1 = cc in absurd (omega arith)
holds {m} d t r p q z (stage_no_source none-m) = none_known (dialect_of m) d none-m p
holds {n = n} d t r p q z (stage_no_target none-n) = none_known (dialect_of n) t none-n q

module _ (s : Converter) (c : Call) (d t : Dialect) (h : check_of s c ≡ Ok (d, t)) (out : List ℕ) (told : TextAnswer) (next : Converter)
    (out' : List ℕ) where
  abbrev stood : (done : List Rec) → Buffered → Read
  stood done k = read_at d (place_of s) done k

  abbrev Comes : (m n : ℕ) (d t : Dialect) (consumed : Bytes) (w : ConverterStage) → Type 0
  Comes m n d t consumed w =
      Says told out out' (answer_at d (into t) w c) × Models (consumed_then w c consumed) m n (stage_after d (into t) w c) next × (checked_at w c ≡ true → next ≡ s)

  -- what it does, where the state takes bytes
  abbrev Takings : Type 0
  Takings =
      (m n : ℕ) (consumed : Bytes) (done : List Rec) (k : Buffered) → dialect_of m ≡ Some d → dialect_of n ≡ Some t → Takes d t consumed s done k →
      too_small c ≡ false →
      Says told out out' (taken (into t) (table_text (into t) (rows done)) (seen_from d (into t) (stood done k) c))
      × Left m n d t (consumed ++ bytes_of c) (stage_then (is_finish c) (seen_from d (into t) (stood done k) c)) next

  module _ (same : (next.source ≡ s.source) × (next.target ≡ s.target)) (within : told.length ≤ length out)
      (as_long : length out' ≡ length out) (step : Takings) where
    models_left :
        (m n : ℕ) (bs : Bytes) (w : ConverterStage) → dialect_of m ≡ Some d → dialect_of n ≡ Some t → s.source ≡ m → s.target ≡ n →
        Left m n d t bs w next → Models bs m n w next
    models_left m n bs w p q e f x =
        record {
          source = same.0 ∙ e;
          target = same.1 ∙ f;
          stage = x.stage;
          shows = λ d' t' p' q'.
              let from : d ≡ d' = cc in
              let to : t ≡ t' = cc in
              subst (λ (y : Dialect). StateShows y t' bs next) from (subst (λ (y : Dialect). StateShows d y bs next) to x.shows);
          offset = x.offset;
        }

    comes :
        (m n : ℕ) (consumed : Bytes) (done : List Rec) (k : Buffered) → dialect_of m ≡ Some d → dialect_of n ≡ Some t → s.source ≡ m →
        s.target ≡ n → Takes d t consumed s done k → too_small c ≡ false → Comes m n d t consumed (taking (stood done k))
    unfolding answer_at stage_after choose◌then◌else◌
    comes m n consumed done k p q e f takes small =
        let x = step m n consumed done k p q takes small in
        let model : Models (consumed ++ bytes_of c) m n (stage_then (is_finish c) (seen_from d (into t) (stood done k) c)) next =
        models_left m n (consumed ++ bytes_of c) (stage_then (is_finish c) (seen_from d (into t) (stood done k) c)) p q e f x.1 in
        (rw small x.0, rw small model, λ z. impossible (sym small ∙ z))

    as_named :
        (m n : ℕ) (d' t' : Dialect) (consumed : Bytes) (w v : ConverterStage) → d' ≡ d → t' ≡ t → w ≡ v → Comes m n d t consumed v → Comes m n d' t' consumed w
    as_named m n d' t' consumed w v from to stands h =
        let there : Comes m n d t consumed w = subst (λ (x : ConverterStage). Comes m n d t consumed x) (sym stands) h in
        subst (λ (a : Dialect). Comes m n a t' consumed w) (sym from) (subst (λ (b : Dialect). Comes m n d b consumed w) (sym to) there)

    comes_known :
        (m n : ℕ) (d' t' : Dialect) (w : ConverterStage) (consumed : Bytes) → dialect_of m ≡ Some d' → dialect_of n ≡ Some t' →
        Models consumed m n w s → Comes m n d' t' consumed w
    comes_known m n d' t' w consumed p q k =
        let x : TakenAt d' t' d t c w = taken_at d t (means s c m n d' t' w consumed p q k) h in
        let y : Holds d t consumed s w = holds d t x.read (p ∙ ap Some x.from) (q ∙ ap Some x.to) x.stands k.stage in
        let here : Comes m n d t consumed (taking (stood y.done y.k)) =
        comes m n consumed y.done y.k (p ∙ ap Some x.from) (q ∙ ap Some x.to) k.source k.target y.takes x.sized in
        as_named m n d' t' consumed w (taking (stood y.done y.k)) x.from x.to y.stands here

    -- no check refuses it
    not_refused : {A : Type 0} (e : Report) → check_of s c ≡ Err e → A
    not_refused e z = let z : ◌≡◌ {A = ℕ} 0 1 = cc in absurd (omega arith)

    taken_called : CallContract s c out told next out'
    taken_called =
        let steps : Stepped s c out told next out' = record {
          known = comes_known;
          source = λ m n consumed p k. not_refused (refusal 11) (source_unknown s c m n ended consumed p k);
          target = λ m n consumed q k. not_refused (refusal 11) (target_unknown s c m n ended consumed q k);
        } in
        called s c out told next out' steps (record { within = within; as_long = as_long; dialects = same; refuses = λ e z. not_refused e z })

module _ (s : Converter) (d t : Dialect) (out : List ℕ) where
  -- the state is none that calls make
  pub lost_called :
      (c : Call) (told : TextAnswer) → check_of s c ≡ Ok (d, t) → told.length ≤ length out →
      (InBounds (place_of s) (current_in (place_of s) s.name_ends s.ends) → ⊥) → CallContract s c out told s out
  lost_called c told h within out_of_lem =
      taken_called s c d t h out told s out (refl, refl) within refl λ m n consumed done k p q takes small. absurd (out_of_lem takes.bounds)

  module _ (r : call-taken.CallResult) (ends' name_ends' bytes' names' out' : List ℕ) (within : r.length ≤ length out)
      (as_long : length out' ≡ length out) where
    pub piece_called :
        (bs : Bytes) → check_of s (piece bs (length out)) ≡ Ok (d, t) →
        ((before : Bytes) (done : List Rec) (k : Buffered) →
        Begun d (into t) before bs (place_of s) s.names s.name_ends s.bytes s.ends out done k →
        PieceRunSound d (into t) before bs (place_of s) done k out names' name_ends' bytes' ends' out' r) →
        length names' ≡ MAXRECORD → length name_ends' ≡ MAXCOLUMNS → length bytes' ≡ MAXRECORD → length ends' ≡ MAXCOLUMNS →
        CallContract s (piece bs (length out)) out (call_answer r) (state_then s r 0 ends' name_ends' bytes' names') out'
    piece_called bs h took long_names long_name_ends long_bytes long_ends =
        taken_called s (piece bs (length out)) d t h out (call_answer r) (state_then s r 0 ends' name_ends' bytes' names') out'
        (refl, refl) within as_long λ m n consumed done k p q takes small.
        let x : PieceRunSound d (into t) consumed bs (place_of s) done k out names' name_ends' bytes' ends' out' r =
        took consumed done k (begun_piece d t consumed s done k takes bs out small) in (
          piece_says d t consumed s done k takes m n p q bs out r ends' name_ends' bytes' names' out' x,
          piece_left d t consumed s done k takes m n p q bs out r ends' name_ends' bytes' names' out' x long_names long_name_ends long_bytes long_ends,
        )

    pub end_called :
        check_of s (finish (length out)) ≡ Ok (d, t) →
        ((before : Bytes) (done : List Rec) (k : Buffered) →
        Begun d (into t) before [] (place_of s) s.names s.name_ends s.bytes s.ends out done k →
        Finished d (into t) (place_of s) done k out out' r × Named before names' name_ends' done) →
        CallContract s (finish (length out)) out (call_answer r) (state_then s r 1 ends' name_ends' bytes' names') out'
    end_called h finished =
        taken_called s (finish (length out)) d t h out (call_answer r) (state_then s r 1 ends' name_ends' bytes' names') out'
        (refl, refl) within as_long λ m n consumed done k p q takes small.
        let x = finished consumed done k (begun_end d t consumed s done k takes out small) in (
          end_says d t consumed s done k takes m n p q out r ends' name_ends' bytes' names' out' x.0,
          end_left d t consumed s done k takes m n p q out r ends' name_ends' bytes' names' out' x.0 x.1,
        )
