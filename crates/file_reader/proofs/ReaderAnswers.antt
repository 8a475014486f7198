-- The reader's answer, by its header and its passes.
use Prim.Native.Nat.{ℕ, ◌+◌, ◌-◌, ◌≤◌, ◌<◌}
use native.Mathlib.Omega.{arith}
use mathlib.Core.Path.{◌≡◌, refl, sym, ap, subst, ◌∙◌}
use mathlib.Core.Bool.{true, false}
use Rattle.std.specs.Prelude.{Option, None, Some, Result, Ok, Err, min}
use mathlib.Core.List.{List, [], ◌∷◌, ◌++◌, map, map-append, append-nil, append_assoc}
use lib.ListN.{length, take, drop, length-append, length-map, length-drop, drop_of_length-le}
use lib.Seq.{take-append_seam, drop-append_seam, drop-drop}
use lib.Dec.{ltb}
use borrow.Author.Tests.{lt-ltb, le-ltb}
use borrow.Author.Rules.{part_to_end}
use borrow.Rule.Slice.PartMut.{same_len_mid}
use Rattle.model.specs.declared.Dialect.{Dialect}
use Rattle.model.specs.declared.FileState.{FileState}
use Rattle.model.specs.declared.FileState.TheVariants.{Top}
use Rattle.model.specs.declared.Report.{Report}
use Rattle.model.specs.rules.Base.{choose◌then◌else◌, Bytes, concat, over}
use Rattle.model.specs.rules.Dialect.{dialect_of}
use Rattle.model.specs.rules.Text.{Value}
use Rattle.model.specs.rules.Report.{accepted, refusal, MAXFILE}
use Rattle.model.specs.rules.Records.{Rec, rows, Read, Progress, going, read_file}
use Rattle.model.specs.rules.Api as api
use Rattle.model.specs.rules.Api.{starts_of, ends_of, kinds_of}
use Rattle.record_scanner.specs.Stored.{stored_from}
use Rattle.codes.proofs.Least.{least_first, least_second}
use Rattle.file_reader.specs.declared.Answer.{Answer}
use Rattle.file_reader.specs.declared.pass.Counts.{Counts}
use Rattle.file_reader.specs.Answers.{call_answer, reader_answer, answer_in}
use Rattle.file_reader.specs.Passes as passes
use Rattle.file_reader.specs.Passes.{PassOutcome, PassSound}
use Rattle.file_reader.specs.Headers.{first_of, HeaderRead}
use Rattle.record_scanner.proofs.FilledLists.{stored_from_none, stored_from_over}
use Rattle.file_cursor.specs.declared.Cursor.{Cursor}
use Rattle.file_cursor.specs.FileOutcome.{rest_of}
use Rattle.file_cursor.specs.NextRecord.{at_start, After, NextRecordSound}
use Rattle.file_cursor.proofs.Traversal.{nothing_yet, whole_rest, came, at_end, at_fault}

-- the answer, and the lists after it
pub record Answered (a : api.Answer) (r : Answer) (s₀ e₀ k₀ s e k : List ℕ) : Type 0 where
  pub answer : r ≡ reader_answer a
  pub at_starts : s ≡ over (starts_of a.cells) s₀
  pub at_ends : e ≡ over (ends_of a.cells) e₀
  pub at_kinds : k ≡ over (kinds_of a.cells) k₀

-- a refusal that leaves the lists
pub refusing :
    (a : api.Answer) (t : Report) (r : Answer) (s₀ e₀ k₀ s e k : List ℕ) → a ≡ api.no_answer t → r ≡ reader_answer (api.no_answer t) → s ≡ s₀ →
    e ≡ e₀ → k ≡ k₀ → Answered a r s₀ e₀ k₀ s e k
refusing a t r s₀ e₀ k₀ s e k q z x y w =
    subst (λ (b : api.Answer). Answered b r s₀ e₀ k₀ s e k) (sym q) (record { answer = z; at_starts = x; at_ends = y; at_kinds = w })

-- ---- the definition's answer

records_answer :
    (h : Rec) (ds : List Rec) (r : Read) (room : ℕ) → r.done ≡ h ∷ ds →
    api.read_answer (going r) room ≡ api.answered (h ∷ ds) (concat (rows (h ∷ ds))) room
records_answer h ds r room e = ap (λ (l : List Rec). api.answered l (concat (rows l)) room) e

-- more cells than room
pub crowded :
    (d : Dialect) (file : Bytes) (room n : ℕ) (h : Rec) (ds : List Rec) (r : Read) → read_file d None file ≡ going r → r.done ≡ h ∷ ds →
    length (concat (rows (h ∷ ds))) ≡ n → room < n → answer_in d file room ≡ api.no_answer (refusal 10)
unfolding choose◌then◌else◌
crowded d file room n h ds r p q c l =
    let t : ltb room (length (concat (rows (h ∷ ds)))) ≡ true = lt-ltb room (length (concat (rows (h ∷ ds)))) (omega arith) in
    ap (λ (g : Progress). api.read_answer g room) p ∙ records_answer h ds r room q ∙ rw t

-- room for all cells
pub roomy :
    (d : Dialect) (file : Bytes) (room n : ℕ) (h : Rec) (ds : List Rec) (r : Read) → read_file d None file ≡ going r → r.done ≡ h ∷ ds →
    length (concat (rows (h ∷ ds))) ≡ n → n ≤ room →
    answer_in d file room ≡ record { report = accepted; columns = length h.cells; records = length ds; cells = concat (rows (h ∷ ds)) }
unfolding choose◌then◌else◌
roomy d file room n h ds r p q c l =
    let t : ltb room (length (concat (rows (h ∷ ds)))) ≡ false = le-ltb room (length (concat (rows (h ∷ ds)))) (omega arith) in
    ap (λ (g : Progress). api.read_answer g room) p ∙ records_answer h ds r room q ∙ rw t

rows_more : (h : Rec) (ds : List Rec) → concat (rows (h ∷ ds)) ≡ h.cells ++ concat (rows ds)
unfolding rows concat
rows_more h ds = refl

-- ---- lists that were filled

written_over :
    (φ : Value → ℕ) (room : ℕ) (vs : List Value) (old out : List ℕ) → length vs ≤ room → room ≤ length old →
    out ≡ stored_from room 0 (map φ vs) old → out ≡ over (map φ vs) old
written_over φ room vs old out h l e = let m : length (map φ vs) ≡ length vs = length-map vs φ in e ∙ stored_from_over room (map φ vs) old (omega arith) l

over_more : (xs ys old : List ℕ) → xs ++ over ys (drop (length xs) old) ≡ over (xs ++ ys) old
over_more xs ys old =
    let e : drop (length ys) (drop (length xs) old) ≡ drop (length (xs ++ ys)) old
    = drop-drop (length ys) (length xs) old ∙ ap (λ (n : ℕ). drop n old) (sym (length-append xs ys)) in
    ap (λ (l : List ℕ). xs ++ (ys ++ l)) e ∙ sym (append_assoc xs ys (drop (length (xs ++ ys)) old))

-- the part of a list from its n-th place on, and the list with ys in that part's place
abbrev pub PartFrom : (n : ℕ) → List ℕ → List ℕ
PartFrom n xs = take (length xs - n) (drop n xs)

abbrev pub WithPart : (n : ℕ) → (xs ys : List ℕ) → List ℕ
WithPart n xs ys = take n xs ++ (ys ++ drop (length xs - n) (drop n xs))

pub part_room : (room n : ℕ) (xs : List ℕ) → room ≤ length xs → room - n ≤ length (PartFrom n xs)
part_room room n xs h =
    let p : length (PartFrom n xs) ≡ length xs - n = ap length (part_to_end xs n) ∙ length-drop n xs in
    omega arith

pub part_long : (n : ℕ) (xs ys : List ℕ) → length ys ≡ length (PartFrom n xs) → length (WithPart n xs ys) ≡ length xs
part_long n xs ys e = same_len_mid n (length xs - n) xs ys e

-- these cells, and then more into the part that follows them
written_both :
    (φ : Value → ℕ) (room n : ℕ) (vs ws : List Value) (old mid out : List ℕ) → length vs ≡ n → n + length ws ≤ room → room ≤ length old →
    mid ≡ stored_from room 0 (map φ vs) old → out ≡ stored_from (room - n) 0 (map φ ws) (PartFrom n mid) →
    WithPart n mid out ≡ over (map φ (vs ++ ws)) old
written_both φ room n vs ws old mid out c h l e f =
    let xs : List ℕ = map φ vs in
    let ys : List ℕ = map φ ws in
    let m : length xs ≡ n = length-map vs φ ∙ c in
    let a : mid ≡ over xs old = written_over φ room vs old mid (omega arith) l e in
    let t : take n mid ≡ xs = ap (take n) a ∙ ap (λ (i : ℕ). take i (over xs old)) (sym m) ∙ take-append_seam xs (drop (length xs) old) in
    let d : drop n mid ≡ drop (length xs) old = ap (drop n) a ∙ ap (λ (i : ℕ). drop i (over xs old)) (sym m) ∙ drop-append_seam xs (drop (length xs) old) in
    let b : length (drop (length xs) old) ≡ length old - length xs = length-drop (length xs) old in
    let o : out ≡ over ys (drop (length xs) old)
    = written_over φ (room - n) ws (drop (length xs) old) out (omega arith) (omega arith)
    (f ∙ ap (stored_from (room - n) 0 ys) (part_to_end mid n ∙ d)) in
    let p : length (drop n mid) ≡ length mid - n = length-drop n mid in
    let q : length (drop n mid) ≤ length mid - n = omega arith in
    let z : drop (length mid - n) (drop n mid) ≡ [] = drop_of_length-le (drop n mid) q in
    ap (λ (l : List ℕ). take n mid ++ (out ++ l)) z
    ∙ ap (λ (l : List ℕ). take n mid ++ l) (append-nil out ∙ o)
    ∙ ap (λ (l : List ℕ). l ++ over ys (drop (length xs) old)) t
    ∙ over_more xs ys old
    ∙ ap (λ (l : List ℕ). over l old) (sym (map-append φ vs ws))

-- ---- what the passes say

record RefusedBy (g : Progress) (t : Report) : Type 0 where
  answer : (room : ℕ) → api.read_answer g room ≡ api.no_answer t

refused_by : {h : Rec} {vs : List Value} {g : Progress} {t : Report} → PassOutcome h vs g (Err t) → RefusedBy g t
refused_by (passes.refused x r) = record { answer = λ room. refl }

record AcceptedBy (h : Rec) (vs : List Value) (g : Progress) (n c : ℕ) : Type 0 where
  r : Read
  ds : List Rec
  same : g ≡ going r
  done : r.done ≡ h ∷ ds
  cells : concat (rows ds) ≡ vs
  count : length ds ≡ n
  sized : length vs ≡ c

accepted_by : {h : Rec} {vs : List Value} {g : Progress} {n c : ℕ} → PassOutcome h vs g (Ok (record { records = n; cells = c })) → AcceptedBy h vs g n c
accepted_by (passes.accepted r ds q e) = record { r = r; ds = ds; same = refl; done = q; cells = e; count = refl; sized = refl }

-- a second pass finds the same cells
same_cells :
    (h : Rec) (vs : List Value) (g : Progress) (p : Result Counts Report) (r : Read) (ds : List Rec) → PassOutcome h vs g p → g ≡ going r →
    r.done ≡ h ∷ ds → concat (rows ds) ≡ vs
same_cells h vs g p r ds (passes.accepted t es q e) same done =
    let a : t ≡ r = cc in
    let b : h ∷ es ≡ h ∷ ds = sym q ∙ ap (λ (x : Read). x.done) a ∙ done in
    let c : es ≡ ds = cc in
    ap (λ (l : List Rec). concat (rows l)) (sym c) ∙ e
same_cells h vs g p r ds (passes.refused x t) same done = let z : ◌≡◌ {A = ℕ} 0 1 = cc in absurd (omega arith)

-- ---- the header, and what follows it

module _ {d : Dialect} {file : Bytes} {n : ℕ} {f : FileState} {next : ℕ} {s₀ e₀ k₀ s₁ e₁ k₁ : List ℕ} {p : Result Counts Report} where
  -- a pass with no room stores nothing
  pub unchanged : PassSound d file next f n 0 s₀ e₀ k₀ p s₁ e₁ k₁ → (s₁ ≡ s₀) × (e₁ ≡ e₀) × (k₁ ≡ k₀)
  unchanged y = (
    y.lists.at_starts ∙ stored_from_none 0 (starts_of y.vs) s₀,
    y.lists.at_ends ∙ stored_from_none 0 (ends_of y.vs) e₀,
    y.lists.at_kinds ∙ stored_from_none 0 (kinds_of y.vs) k₀,
  )

  pub few_cells : {room records c : ℕ} → PassSound d file next f n room s₀ e₀ k₀ p s₁ e₁ k₁ → p ≡ Ok (record { records = records; cells = c }) → c ≤ MAXFILE + 1
  few_cells y q = subst (λ (x : Result Counts Report). passes.Few x) q y.few

-- after a first pass that left the lists as they were
module _ (room : ℕ) {d : Dialect} {file : Bytes} {n : ℕ} {f : FileState} {next : ℕ} (head : HeaderRead d file n f next) {m : ℕ}
    {s₀ e₀ k₀ s₁ e₁ k₁ : List ℕ} {p : Result Counts Report} (y : PassSound d file next f n m s₀ e₀ k₀ p s₁ e₁ k₁)
    (kept : (s₁ ≡ s₀) × (e₁ ≡ e₀) × (k₁ ≡ k₀)) where
  outcome : PassOutcome head.h y.vs (rest_of d None file (head.h ∷ []) f next) p
  outcome = y.outcome head.h head.count

  pub data_refused : (t : Report) → p ≡ Err t → (r : Answer) → r ≡ reader_answer (api.no_answer t) → Answered (answer_in d file room) r s₀ e₀ k₀ s₁ e₁ k₁
  data_refused t q r re =
      let o : PassOutcome head.h y.vs (rest_of d None file (head.h ∷ []) f next) (Err t)
      = subst (λ (x : Result Counts Report). PassOutcome head.h y.vs (rest_of d None file (head.h ∷ []) f next) x) q outcome in
      refusing (answer_in d file room) t r s₀ e₀ k₀ s₁ e₁ k₁
      (ap (λ (g : Progress). api.read_answer g room) head.rest ∙ (refused_by o).answer room) re kept.0 kept.1 kept.2

  module _ {records c : ℕ} (q : p ≡ Ok (record { records = records; cells = c })) where
    by : AcceptedBy head.h y.vs (rest_of d None file (head.h ∷ []) f next) records c
    by = accepted_by (subst (λ (x : Result Counts Report). PassOutcome head.h y.vs (rest_of d None file (head.h ∷ []) f next) x) q outcome)

    all : read_file d None file ≡ going by.r
    all = head.rest ∙ by.same

    total : length (concat (rows (head.h ∷ by.ds))) ≡ n + c
    total =
        ap length (rows_more head.h by.ds) ∙ length-append head.h.cells (concat (rows by.ds))
        ∙ ap (λ (m : ℕ). m + length (concat (rows by.ds))) head.count
        ∙ ap (λ (m : ℕ). n + m) (ap length by.cells ∙ by.sized)

    pub data_crowded :
        room < n + c → (t : Report) → t ≡ refusal 10 → (r : Answer) → r ≡ reader_answer (api.no_answer t) →
        Answered (answer_in d file room) r s₀ e₀ k₀ s₁ e₁ k₁
    data_crowded l t te r re =
        refusing (answer_in d file room) (refusal 10) r s₀ e₀ k₀ s₁ e₁ k₁
        (crowded d file room (n + c) head.h by.ds by.r all by.done total l)
        (re ∙ ap (λ (z : Report). reader_answer (api.no_answer z)) te) kept.0 kept.1 kept.2

    -- the header fills its places, and a second pass those that follow
    module _ (fit : (room ≤ length s₀) × (room ≤ length e₀) × (room ≤ length k₀)) (l : n + c ≤ room) {s₂ e₂ k₂ : List ℕ}
        (ps : s₂ ≡ stored_from room 0 (starts_of (first_of d file).cells) s₁)
        (pe : e₂ ≡ stored_from room 0 (ends_of (first_of d file).cells) e₁) (pk : k₂ ≡ stored_from room 0 (kinds_of (first_of d file).cells) k₁)
        {p₂ : Result Counts Report} {s₃ e₃ k₃ : List ℕ}
        (z : PassSound d file next f n (room - n) (PartFrom n s₂) (PartFrom n e₂) (PartFrom n k₂) p₂ s₃ e₃ k₃) where
      again : concat (rows by.ds) ≡ z.vs
      again =
          same_cells head.h z.vs (rest_of d None file (head.h ∷ []) f next) p₂ by.r by.ds (z.outcome head.h head.count)
          by.same by.done

      filled :
          (φ : Value → ℕ) (old mid₁ mid₂ out : List ℕ) → mid₁ ≡ old → mid₂ ≡ stored_from room 0 (map φ (first_of d file).cells) mid₁ →
          out ≡ stored_from (room - n) 0 (map φ z.vs) (PartFrom n mid₂) → room ≤ length old →
          WithPart n mid₂ out ≡ over (map φ (concat (rows (head.h ∷ by.ds)))) old
      filled φ old mid₁ mid₂ out x u v w =
          let e1 : mid₂ ≡ stored_from room 0 (map φ head.h.cells) old
          = u ∙ ap (stored_from room 0 (map φ (first_of d file).cells)) x
          ∙ ap (λ (vs : List Value). stored_from room 0 (map φ vs) old) (sym head.first) in
          let e2 : out ≡ stored_from (room - n) 0 (map φ (concat (rows by.ds))) (PartFrom n mid₂)
          = v ∙ ap (λ (vs : List Value). stored_from (room - n) 0 (map φ vs) (PartFrom n mid₂)) (sym again) in
          let m : length (concat (rows by.ds)) ≡ c = ap length by.cells ∙ by.sized in
          written_both φ room n head.h.cells (concat (rows by.ds)) old mid₂ out head.count (omega arith) w e1 e2
          ∙ ap (λ (vs : List Value). over (map φ vs) old) (sym (rows_more head.h by.ds))

      pub data_roomy :
          (t : Report) → t ≡ refusal 0 →
          Answered (answer_in d file room) (record { report = t; columns = n; records = records; cells = n + c }) s₀ e₀ k₀
          (WithPart n s₂ s₃) (WithPart n e₂ e₃) (WithPart n k₂ k₃)
      data_roomy t te =
          subst
          (λ (x : api.Answer).
          Answered x (record { report = t; columns = n; records = records; cells = n + c }) s₀ e₀ k₀ (WithPart n s₂ s₃)
          (WithPart n e₂ e₃) (WithPart n k₂ k₃))
          (sym (roomy d file room (n + c) head.h by.ds by.r all by.done total l))
          (record {
            answer = rw (te, total, head.count, by.count);
            at_starts = filled _ s₀ s₁ s₂ s₃ kept.0 ps z.lists.at_starts fit.0;
            at_ends = filled _ e₀ e₁ e₂ e₃ kept.1 pe z.lists.at_ends fit.1;
            at_kinds = filled _ k₀ k₁ k₂ k₃ kept.2 pk z.lists.at_kinds fit.2;
          })

-- ---- a file of a dialect

-- the cursor's result from the start of the file
pub from_start :
    {d : Dialect} {file : Bytes} {s e k : List ℕ} {o : Result (Option Cursor) Report} {c : Cursor} → c ≡ at_start →
    ((rs : List Rec) → After None c rs → NextRecordSound d None file rs c.state c.offset s e k o) →
    NextRecordSound d None file [] Top 0 s e k o
from_start {d} {file} {s} {e} {k} {o} q f =
    let a : After None _ [] = subst (λ (c : Cursor). After None c []) (sym q) (nothing_yet None) in
    subst (λ (c : Cursor). NextRecordSound d None file [] c.state c.offset s e k o) q (f [] a)

module _ {d : Dialect} {file : Bytes} {s e k : List ℕ} {o : Result (Option Cursor) Report} (v : NextRecordSound d None file [] Top 0 s e k o) where
  pub begins : {x : Cursor} → o ≡ Ok (Some x) → HeaderRead d file x.columns x.state x.offset
  begins q =
      let n = came v q in
      record {
        h = n.rec;
        first = n.found;
        count = n.after.headed;
        rest = whole_rest d None file ∙ n.rest;
        few = n.few;
        inside = n.inside;
        under = n.under;
      }

  module _ (room : ℕ) (s₀ e₀ k₀ : List ℕ) (t : Report) (r : Answer) (re : r ≡ reader_answer (api.no_answer t)) where
    pub no_header : o ≡ Err t → Answered (answer_in d file room) r s₀ e₀ k₀ s₀ e₀ k₀
    no_header q =
        let a = at_fault v q in
        let p : answer_in d file room ≡ api.no_answer t
        = ap (λ (g : Progress). api.read_answer g room) (whole_rest d None file ∙ a.rest) ∙ ap api.no_answer (sym a.report) in
        refusing (answer_in d file room) t r s₀ e₀ k₀ s₀ e₀ k₀ p re refl refl refl

    -- an end without a record has no cells, by the definition
    pub no_records : o ≡ Ok None → t ≡ refusal 0 → Answered (answer_in d file room) r s₀ e₀ k₀ s₀ e₀ k₀
    no_records q te =
        let a = at_end v q in
        let p : answer_in d file room ≡ api.no_answer t
        = ap (λ (g : Progress). api.read_answer g room) (whole_rest d None file ∙ a.rest)
        ∙ ap (λ (l : List Rec). api.answered l (concat (rows l)) room) a.done ∙ ap api.no_answer (sym te) in
        refusing (answer_in d file room) t r s₀ e₀ k₀ s₀ e₀ k₀ p re refl refl refl

-- the room is that of the shortest list
pub shortest :
    (a b c room inner : ℕ) → inner ≡ min b c → room ≡ min a inner →
    (room ≡ min a (min b c)) × ((room ≤ a) × (room ≤ b) × (room ≤ c))
shortest a b c room inner e f =
    let g : room ≡ min a (min b c) = f ∙ ap (min a) e in
    let x : min a (min b c) ≤ a = least_first a (min b c) in
    let y : min a (min b c) ≤ min b c = least_second a (min b c) in
    let z : min b c ≤ b = least_first b c in
    let w : min b c ≤ c = least_second b c in
    (g, (omega arith, omega arith, omega arith))

-- ---- the call

abbrev Calls : (dialect : ℕ) (file s₀ e₀ k₀ : List ℕ) → Answer → (s e k : List ℕ) → Type 0
Calls n file s₀ e₀ k₀ r s e k =
    (r ≡ call_answer (api.read_call n file s₀ e₀ k₀))
    × ((s ≡ (api.read_call n file s₀ e₀ k₀).starts)
    × ((e ≡ (api.read_call n file s₀ e₀ k₀).ends) × (k ≡ (api.read_call n file s₀ e₀ k₀).kinds)))

abbrev Fills : (a : api.Answer) (s₀ e₀ k₀ : List ℕ) → Answer → (s e k : List ℕ) → Type 0
Fills a s₀ e₀ k₀ r s e k =
    (r ≡ reader_answer a) × ((s ≡ over (starts_of a.cells) s₀) × ((e ≡ over (ends_of a.cells) e₀) × (k ≡ over (kinds_of a.cells) k₀)))

abbrev Room : (s₀ e₀ k₀ : List ℕ) → ℕ
Room s₀ e₀ k₀ = min (length s₀) (min (length e₀) (length k₀))

by_answer :
    (n : ℕ) (file s₀ e₀ k₀ : List ℕ) (a : api.Answer) (r : Answer) (s e k : List ℕ) → api.reader n file (Room s₀ e₀ k₀) ≡ a →
    Fills a s₀ e₀ k₀ r s e k → Calls n file s₀ e₀ k₀ r s e k
unfolding api.read_call
by_answer n file s₀ e₀ k₀ a r s e k q t = subst (λ (b : api.Answer). Fills b s₀ e₀ k₀ r s e k) (sym q) t

pub known :
    (n : ℕ) (d : Dialect) → Some d ≡ dialect_of n → (file s₀ e₀ k₀ : List ℕ) (r : Answer) (s e k : List ℕ) →
    Fills (answer_in d file (Room s₀ e₀ k₀)) s₀ e₀ k₀ r s e k → Calls n file s₀ e₀ k₀ r s e k
unfolding api.reader
known n d q file s₀ e₀ k₀ r s e k t = by_answer n file s₀ e₀ k₀ (answer_in d file (Room s₀ e₀ k₀)) r s e k (rw (← q, api.reader)) t

pub unknown :
    (n : ℕ) → None ≡ dialect_of n → (file s₀ e₀ k₀ : List ℕ) (t : Report) (r : Answer) → t ≡ refusal 11 → r ≡ reader_answer (api.no_answer t) →
    Calls n file s₀ e₀ k₀ r s₀ e₀ k₀
unfolding api.reader
unknown n q file s₀ e₀ k₀ t r te re =
    by_answer n file s₀ e₀ k₀ (api.no_answer (refusal 11)) r s₀ e₀ k₀ (rw (← q, api.reader))
    (re ∙ ap (λ (z : Report). reader_answer (api.no_answer z)) te, (refl, (refl, refl)))
