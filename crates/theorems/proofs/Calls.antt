-- Demand 3, from the contract of the piece and end calls. By induction over a list of calls, the state has answered the ledger's
-- entries, and each call returned and left what the ledger answers. So the laws of the ledger's entries hold of the calls.
use Prim.Native.Nat.{ℕ, ◌+◌, ◌-◌, ◌≤◌}
use native.Mathlib.Omega.{arith}
use mathlib.Core.Path.{◌≡◌, refl, sym, ap, ap₂, ◌∙◌}
use mathlib.Core.Bool.{true, false}
use Rattle.std.specs.Prelude.{None, Some}
use mathlib.Core.List.{List, [], ◌∷◌, ◌++◌, map, map-append, zip_with}
use lib.ListN.{length, take, drop, length-append, length-drop}
use lib.Seq.{take-append_seam}
use Rattle.model.specs.declared.Dialect.{Dialect}
use Rattle.model.specs.rules.Base.{Bytes, concat}
use Rattle.model.specs.rules.Dialect.{dialect_of, into}
use Rattle.model.specs.rules.Text.{table_text}
use Rattle.model.specs.rules.Report.{accepted, MAXFILE}
use Rattle.model.specs.rules.Records.{rows, records_of}
use Rattle.model.specs.rules.Api.{Written, converter}
use Rattle.model.specs.laws.Laws.{All, all_none, all_cons}
use Rattle.model.specs.rules.Ledger.{Call, piece, finish, Entry, room_of, is_file_fault, fault_in, ended_in, written_in, too_small, answer_now, checked}
use Rattle.model.specs.rules.Ledger.{history_from, history, ledger, call_leaves}
use Rattle.model.specs.laws.Demands.{seen_in}
use Rattle.model.proofs.cell_laws.CellRuns.{all_snoc}
use Rattle.model.proofs.piece_laws.CallsMade.{after, history_snoc}
use Rattle.model.proofs.piece_laws.Histories.{fault_some}
use Rattle.model.proofs.piece_laws.MachineLaws.{joined_outputs_lem}
use Rattle.model.proofs.piece_laws.Pieces.{answer_fits, end_is_whole}
use Rattle.codes.specs.Named.{text_answer}
use Rattle.codes.specs.declared.TextAnswer.{TextAnswer}
use Rattle.piece_converter.specs.Representation.{StateShows}
use Rattle.piece_converter.specs.Contract.{new_converter, Represents, CallContract}
use Rattle.piece_converter.specs.declared.Converter.{Converter}
use Rattle.piece_converter.proofs.Representation.{shown_after, offset_after}
use Rattle.theorems.specs.Demands.{MadeCall, LedTo, fresh, one_more_lem, calls_of, entries_of, consumed_by, joined_outputs}
use Rattle.theorems.proofs.LedgerLaws.{silent, only_sizes, reports_first, ended_whole, met_whole, OfEveryFile, piece_fault}

all_map : {A : Type 0} {P Q : A → Type 0} {xs : List A} → ((y : A) → P y → Q y) → All P xs → All Q xs
all_map f all_none = all_none
all_map f (all_cons {x} p ps) = all_cons (f x p) (all_map f ps)

-- ---- a call and the ledger's answer to it

-- it returned and left what the ledger answers
record Answered (x : MadeCall) (w : Written) : Type 0 where
  told : x.told ≡ text_answer w
  left : x.after ≡ call_leaves w x.before

-- so did each of a list
data EachAnswered : List MadeCall → List Entry → Type 0 where
  no_call : EachAnswered [] []
  one_call : {x : MadeCall} {y : Entry} {xs : List MadeCall} {ys : List Entry} → Answered x y.answer → EachAnswered xs ys → EachAnswered (x ∷ xs) (y ∷ ys)

each_snoc :
    {x : MadeCall} (y : Entry) {xs : List MadeCall} {ys : List Entry} → EachAnswered xs ys → Answered x y.answer →
    EachAnswered (xs ++ (x ∷ [])) (ys ++ (y ∷ []))
each_snoc y no_call a = one_call a no_call
each_snoc y (one_call b each) a = one_call b (each_snoc y each a)

abbrev answers : List Entry → List Written
answers ys = map (λ (y : Entry). y.answer) ys

each_found : {xs : List MadeCall} {ys : List Entry} → EachAnswered xs ys → map (λ (x : MadeCall). x.told) xs ≡ map text_answer (answers ys)
each_found no_call = refl
each_found (one_call a each) = ap₂ (λ (u : TextAnswer) (us : List TextAnswer). u ∷ us) a.told (each_found each)

each_left :
    {xs : List MadeCall} {ys : List Entry} → EachAnswered xs ys →
    map (λ (x : MadeCall). x.after) xs ≡ zip_with call_leaves (answers ys) (map (λ (x : MadeCall). x.before) xs)
unfolding zip_with
each_left no_call = refl
each_left (one_call a each) = ap₂ (λ (u : List ℕ) (us : List (List ℕ)). u ∷ us) a.left (each_left each)

-- the bytes that it says it wrote are the ledger's text
wrote : (x : MadeCall) (w : Written) → Answered x w → take x.told.length x.after ≡ w.text
wrote x w a =
    ap₂ (λ (u : TextAnswer) (o : List ℕ). take u.length o) a.told a.left ∙ take-append_seam w.text (drop (length w.text) x.before)

each_wrote : {xs : List MadeCall} {ys : List Entry} → EachAnswered xs ys → joined_outputs xs ≡ written_in ys
unfolding written_in concat
each_wrote no_call = refl
each_wrote (one_call {x} {y} a each) = ap₂ (λ (u us : Bytes). u ++ us) (wrote x y.answer a) (each_wrote each)

-- ---- every list of calls

-- after these calls: the state has answered the ledger's entries, and each call returned and left what they say
record Lies (m n : ℕ) (made : List MadeCall) (s : Converter) : Type 0 where
  carries : Represents m n (entries_of m n made) s
  each : EachAnswered made (entries_of m n made)

-- the entries with one call more
entries_snoc : (m n : ℕ) (made : List MadeCall) (x : MadeCall) → entries_of m n (made ++ (x ∷ [])) ≡ after m n (entries_of m n made) x.call
entries_snoc m n made x =
    ap (λ (cs : List Call). history m n cs) (map-append (λ (y : MadeCall). y.call) made (x ∷ []))
    ∙ history_snoc m n [] (calls_of made) x.call

-- the ledger answers it, by its contract
answered :
    (m n : ℕ) (past : List Entry) {s next : Converter} (x : MadeCall) → Represents m n past s →
    CallContract s x.call x.before x.told next x.after → Answered x (answer_now m n past x.call)
answered m n past x k c = record { told = c.answer m n past k; left = c.leaves m n past k }

-- a new converter has answered no call
module _ (new_carries : (m n : ℕ) → Represents m n [] (new_converter m n)) where
  stands : {m n : ℕ} {made : List MadeCall} {s : Converter} → LedTo m n made s → Lies m n made s
  unfolding history_from
  stands {m = m} {n = n} fresh = record { carries = new_carries m n; each = no_call }
  stands {m = m} {n = n} (one_more_lem {made} {s} {next} {x} led room c) =
      let b = stands led in
      let past : List Entry = entries_of m n made in
      let e : entries_of m n (made ++ (x ∷ [])) ≡ after m n past x.call = entries_snoc m n made x in
      let k : Represents m n (after m n past x.call) next = c.carries m n past b.carries in
      let a : EachAnswered (made ++ (x ∷ [])) (after m n past x.call)
      = each_snoc (record { call = x.call; answer = answer_now m n past x.call }) b.each (answered m n past x b.carries c) in
      record { carries = rw e k; each = rw e a }

  module _ (m n : ℕ) where
    pub every_list :
        (made : List MadeCall) (s : Converter) → LedTo m n made s →
        (map (λ (x : MadeCall). x.told) made ≡ map text_answer (ledger m n (calls_of made)))
        × (map (λ (x : MadeCall). x.after) made ≡ zip_with call_leaves (ledger m n (calls_of made)) (map (λ (x : MadeCall). x.before) made))
    unfolding ledger
    every_list made s led = let b = stands led in (each_found b.each, each_left b.each)

    pub refused :
        (made : List MadeCall) (s next : Converter) (c : Call) (out out' : List ℕ) (told : TextAnswer) → LedTo m n made s →
        CallContract s c out told next out' → checked m n (entries_of m n made) c ≡ true → (next ≡ s) × (out' ≡ out)
    refused made s next c out out' told led x h =
        let past : List Entry = entries_of m n made in
        let k : Represents m n past s = (stands led).carries in
        let nothing : call_leaves (answer_now m n past c) out ≡ out = ap (λ (bs : Bytes). bs ++ drop (length bs) out) (silent m n past c h) in
        (x.unchanged m n past k h, x.leaves m n past k ∙ nothing)

    outputs : (made : List MadeCall) (s : Converter) → LedTo m n made s → joined_outputs made ≡ written_in (entries_of m n made)
    outputs made s led = each_wrote (stands led).each

    -- what holds of a call by the ledger's answer to it, whatever came before, holds of each
    all_made :
        (P : MadeCall → Type 0) →
        ((cs : List Call) (x : MadeCall) → room_of x.call ≡ length x.before →
        Answered x (answer_now m n (history m n cs) x.call) → P x) → {made : List MadeCall} {s : Converter} → LedTo m n made s →
        All P made
    all_made P each fresh = all_none
    all_made P each (one_more_lem {made} {s} {next} {x} led room c) =
        all_snoc (all_made P each led) (each (calls_of made) x room (answered m n (entries_of m n made) x (stands led).carries c))

    pub room :
        (made : List MadeCall) (s : Converter) → LedTo m n made s →
        All (λ (x : MadeCall). (x.told.length ≤ length x.before) × (length x.after ≡ length x.before)) made
    room made s led = all_made (λ (x : MadeCall). (x.told.length ≤ length x.before) × (length x.after ≡ length x.before)) one led
      where
        one :
            (cs : List Call) (x : MadeCall) → room_of x.call ≡ length x.before →
            Answered x (answer_now m n (history m n cs) x.call) →
            (x.told.length ≤ length x.before) × (length x.after ≡ length x.before)
        one cs x e a =
            let text : Bytes = (answer_now m n (history m n cs) x.call).text in
            let fits : length text ≤ room_of x.call = answer_fits m n cs x.call in
            let told : x.told.length ≡ length text = ap (λ (u : TextAnswer). u.length) a.told in
            let sum : length x.after ≡ length text + length (drop (length text) x.before)
            = ap length a.left ∙ length-append text (drop (length text) x.before) in
            let rest : length (drop (length text) x.before) ≡ length x.before - length text = length-drop (length text) x.before in
            (omega arith, omega arith)

    pub ten : (made : List MadeCall) (s : Converter) → LedTo m n made s → All (λ (x : MadeCall). x.told.report.number ≡ 10 → too_small x.call ≡ true) made
    ten made s led =
        all_made (λ (x : MadeCall). x.told.report.number ≡ 10 → too_small x.call ≡ true)
        (λ cs x e a h. only_sizes m n (history m n cs) x.call (sym (ap (λ (u : TextAnswer). u.report.number) a.told) ∙ h)) led

    pub joined :
        (d t : Dialect) (made : List MadeCall) (s : Converter) → dialect_of m ≡ Some d → dialect_of n ≡ Some t → LedTo m n made s →
        joined_outputs made ≡ table_text (into t) (rows (records_of (seen_in d (into t) (entries_of m n made))))
    joined d t made s p q led = outputs made s led ∙ joined_outputs_lem m n d t (calls_of made) p q

    pub whole_text :
        (made : List MadeCall) (s : Converter) → LedTo m n made s → ended_in (entries_of m n made) ≡ true →
        converter m n (consumed_by m n made) MAXFILE ≡ record { report = accepted; text = joined_outputs made }
    whole_text made s led h = rw (outputs made s led) (ended_whole m n (calls_of made) h)

    pub end_call :
        (made : List MadeCall) (s next : Converter) (out out' : List ℕ) (told : TextAnswer) → LedTo m n made s →
        CallContract s (finish (length out)) out told next out' → checked m n (entries_of m n made) (finish (length out)) ≡ false →
        told.report ≡ (converter m n (consumed_by m n made) MAXFILE).report
    end_call made s next out out' told led x h =
        ap (λ (u : TextAnswer). u.report) (x.answer m n (entries_of m n made) (stands led).carries) ∙ end_is_whole m n (calls_of made) (length out) h

    -- the file fault that any of them reports is the one found first
    first_fault :
        {made : List MadeCall} {s : Converter} → LedTo m n made s →
        All (λ (x : MadeCall). is_file_fault x.told.report ≡ true → fault_in (entries_of m n made) ≡ Some x.told.report) made
    first_fault fresh = all_none
    first_fault (one_more_lem {made} {s} {next} {x} led room c) =
        let past : List Entry = entries_of m n made in
        let e : entries_of m n (made ++ (x ∷ [])) ≡ after m n past x.call = entries_snoc m n made x in
        let told : x.told.report ≡ (answer_now m n past x.call).report
        = ap (λ (u : TextAnswer). u.report) (answered m n past x (stands led).carries c).told in
        all_snoc
        (all_map
        (λ y k h.
        rw e (fault_some (record { call = x.call; answer = answer_now m n past x.call } ∷ []) y.told.report past (k h)))
        (first_fault led))
        (λ h. rw (e, told) (reports_first m n past x.call (rw told at h)))

    pub fault_is_whole :
        (made : List MadeCall) (s : Converter) → LedTo m n made s →
        All (λ (x : MadeCall). is_file_fault x.told.report ≡ true → x.told.report ≡ (converter m n (consumed_by m n made) MAXFILE).report) made
    fault_is_whole made s led = all_map (λ y k h. met_whole m n (calls_of made) y.told.report (k h)) (first_fault led)

    pub fault_of_every_file :
        (d t : Dialect) (made : List MadeCall) (s next : Converter) (bs out out' : List ℕ) (told : TextAnswer) → dialect_of m ≡ Some d →
        dialect_of n ≡ Some t → LedTo m n made s → fault_in (entries_of m n made) ≡ None → CallContract s (piece bs (length out)) out told next out' →
        is_file_fault told.report ≡ true → OfEveryFile m n d (into t) (consumed_by m n made ++ bs) told.report
    fault_of_every_file d t made s next bs out out' told p q led k x h =
        let e : told.report ≡ (answer_now m n (entries_of m n made) (piece bs (length out))).report
        = ap (λ (u : TextAnswer). u.report) (x.answer m n (entries_of m n made) (stands led).carries) in
        rw e (piece_fault m n d t p q (entries_of m n made) bs (length out) k (rw e at h))

    pub shown :
        (d t : Dialect) (made : List MadeCall) (s : Converter) → dialect_of m ≡ Some d → dialect_of n ≡ Some t → LedTo m n made s →
        StateShows d t (consumed_by m n made) s
    shown d t made s p q led = shown_after (stands led).carries d t p q

    pub counted : (made : List MadeCall) (s : Converter) → LedTo m n made s → fault_in (entries_of m n made) ≡ None → s.offset ≡ length (consumed_by m n made)
    counted made s led none-met = offset_after (stands led).carries none-met
