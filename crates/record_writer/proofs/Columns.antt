-- The text of a record from place n on, and the target's check of its cells, unrolled at the cell at n.
use mathlib.Core.Path.{◌≡◌, refl, sym, ap, ◌∙◌}
use mathlib.Core.Bool.{Bool, true, false}
use mathlib.Core.List.{List, [], ◌∷◌, ◌++◌, append-nil}
use Prim.Native.Nat.{ℕ, zero, suc, ◌+◌, ◌-◌, ◌<◌, ◌≤◌}
use native.Mathlib.Numerals.{add-one}
use native.Mathlib.Omega.{arith}
use lib.ListN.{length, drop, length-drop}
use lib.Dec.{eqb}
use borrow.Author.Tests.{ne_eqb}
use Rattle.model.specs.declared.Dialect.{Dialect}
use Rattle.model.specs.declared.Dialect.TheVariants.{Csvj, Tdif, CsvPlus}
use Rattle.model.specs.declared.Fault.{Fault}
use Rattle.model.specs.declared.Fault.TheVariants.{LacksKind, LoneSurrogate}
use Rattle.model.specs.declared.Kind.{Kind}
use Rattle.model.specs.rules.Types.{CheckResult}
use Rattle.std.specs.Prelude.{Ok, Err}
use Rattle.model.specs.rules.Base.{Bytes, is_empty}
use Rattle.model.specs.rules.Dialect.{is_csvj, delimiter_of, into}
use Rattle.model.specs.rules.Text.{Value, is_text, cell_text, more_cells, all_cells, record_text}
use Rattle.model.specs.rules.Utf8.{holds_lone}
use Rattle.model.specs.rules.Records.{◌or_else◌, when, has_kind, uncarried_from}
use Rattle.model.proofs.Tests.{impossible}
use Rattle.model.proofs.file_laws.CheckResults.{else_assoc}
use Rattle.buffer.specs.Writes.{Room, WrittenAt}
use Rattle.buffer.proofs.WriteProgress.{Emitting, emitting, put_next, put_whole}
use Rattle.cell_decoder.specs.declared.source.Source.{Source}
use Rattle.cell_decoder.specs.Sources.{cells_in}
use Rattle.cell_decoder.proofs.CellsIn.{cells_length, cell_at, cells_from, cells_next, cells_end}
use Rattle.record_writer.specs.Joined.{before}
use Rattle.record_writer.specs.Columns.{before_cell, is_first, column_text, uncarried_cell}

-- ---- one cell

-- the delimiter before a cell, by its byte
pub before_by : (t : Dialect) (n : ℕ) → before (delimiter_of t) n ≡ before_cell t n
before_by t zero = refl
before_by t (suc n) = refl

pub later_first : (n : ℕ) (header : Bool) → (n ≡ 0 → ⊥) → is_first n header ≡ false
later_first zero header h = absurd (h refl)
later_first (suc n) header h = refl

-- a cell's text does not depend on its place
pub cell_anywhere : (t : Dialect) (only first : Bool) (v w : Value) → v.kind ≡ w.kind → v.content ≡ w.content
    → cell_text t only first v ≡ cell_text t only first w
unfolding cell_text
cell_anywhere Csvj only first v w k c = rw (k, c)
cell_anywhere Tdif only first v w k c = rw (k, c)
cell_anywhere (CsvPlus s) only first v w k c = rw c

module _ (t : Dialect) (n : ℕ) (k : Kind) (content : Bytes) where
  pub cell_lacks : has_kind t k ≡ false → uncarried_cell t n k content ≡ Err (LacksKind n)
  unfolding when ◌or_else◌
  cell_lacks h = rw h

  module _ (h : has_kind t k ≡ true) where
    pub cell_in_csvj : is_csvj t ≡ true → uncarried_cell t n k content ≡ Ok tt
    unfolding when ◌or_else◌
    cell_in_csvj j = rw (h, j)

    module _ (j : is_csvj t ≡ false) where
      pub cell_no_text : is_text k ≡ false → uncarried_cell t n k content ≡ Ok tt
      unfolding when ◌or_else◌
      cell_no_text e = rw (h, j, e)

      module _ (e : is_text k ≡ true) where
        pub cell_lone : holds_lone content ≡ true → uncarried_cell t n k content ≡ Err (LoneSurrogate n)
        unfolding when ◌or_else◌
        cell_lone l = rw (h, j, e, l)

        pub cell_sound : holds_lone content ≡ false → uncarried_cell t n k content ≡ Ok tt
        unfolding when ◌or_else◌
        cell_sound l = rw (h, j, e, l)

-- CSVJ can represent every cell
pub csvj_carries : (t : Dialect) (n : ℕ) (k : Kind) (content : Bytes) → is_csvj t ≡ true → uncarried_cell t n k content ≡ Ok tt
csvj_carries Csvj n k content j = cell_in_csvj Csvj n k content refl j
csvj_carries Tdif n k content j = impossible j
csvj_carries (CsvPlus s) n k content j = impossible j

-- ---- two verdicts

pub or_else_sound : (a : CheckResult) → a or_else Ok tt ≡ a
unfolding ◌or_else◌
or_else_sound (Ok _) = refl
or_else_sound (Err e) = refl

-- the check result so far is a fault, or the next decides
pub or_fault : {e : Fault} {v : CheckResult} (w : CheckResult) → v ≡ Err e → (v or_else w) ≡ Err e
unfolding ◌or_else◌
or_fault w h = rw h

pub or_sound : {v : CheckResult} (w : CheckResult) → v ≡ Ok tt → (v or_else w) ≡ w
unfolding ◌or_else◌
or_sound w h = rw h

-- ---- the cells from place n on

-- their text, where `header` says whether they are a header's
abbrev pub text_from : Dialect → (header : Bool) → ℕ → List Value → Bytes
text_from t header zero vs = all_cells t header vs
text_from t header (suc n) vs = more_cells t vs

-- a record has no other cell than the one at n
abbrev Alone : ℕ → Bool → List Value → Type 0
Alone zero only vs = only ≡ is_empty vs
Alone (suc n) only vs = only ≡ false

text_next : (t : Dialect) (header : Bool) (n : ℕ) (only : Bool) (v w : Value) (vs : List Value) → Alone n only vs → v.kind ≡ w.kind → v.content ≡ w.content
    → text_from t header n (v ∷ vs) ≡ column_text t n only header w ++ text_from t header (n + 1) vs
unfolding all_cells more_cells
text_next t header zero only v w vs a k c = rw (cell_anywhere t (is_empty vs) header v w k c, a)
text_next t header (suc n) only v w vs a k c = rw (cell_anywhere t false false v w k c, a, add-one (suc n))

none_left : (t : Dialect) (header : Bool) (n : ℕ) → text_from t header n [] ≡ []
unfolding all_cells more_cells
none_left t header zero = refl
none_left t header (suc n) = refl

empty_none : (vs : List Value) → eqb (suc (length vs)) 1 ≡ is_empty vs
empty_none [] = refl
empty_none (v ∷ vs) = ne_eqb (suc (suc (length vs))) 1 (λ e. omega arith)

-- the cell at n is the only one exactly when there is one of m
alone : (n m : ℕ) (only : Bool) (vs : List Value) → n < m → length vs ≡ m - (n + 1) → only ≡ eqb m 1 → Alone n only vs
alone zero m only vs h l o =
    let all : m ≡ suc (length vs) = omega arith in
    o ∙ ap (λ (k : ℕ). eqb k 1) all ∙ empty_none vs
alone (suc n) m only vs h l o = o ∙ ne_eqb m 1 (λ e. omega arith)

module _ (src : Source) (t : Dialect) (s : Bytes) (starts ends kinds : List ℕ) (header : Bool) where
  -- the text that is still to be written
  abbrev pub text_at : ℕ → Bytes
  text_at n = text_from t header n (cells_from src s starts ends kinds n)

  -- the target's check of them
  abbrev pub uncarried_at : ℕ → CheckResult
  uncarried_at n = uncarried_from t (n + 1) (cells_from src s starts ends kinds n)

  module _ (e : length starts ≡ length ends) (k : length starts ≡ length kinds) (n : ℕ) where
    pub text_end : length starts ≤ n → text_at n ≡ []
    text_end h = rw (cells_end src s starts ends kinds e k n h) (none_left t header n)

    pub uncarried_end : length starts ≤ n → uncarried_at n ≡ Ok tt
    unfolding uncarried_from
    uncarried_end h = rw (cells_end src s starts ends kinds e k n h)

    module _ (h : n < length starts) where
      rest_length : length (cells_from src s starts ends kinds (n + 1)) ≡ length starts - (n + 1)
      rest_length =
          cells_length src s (drop (n + 1) starts) (drop (n + 1) ends) (drop (n + 1) kinds)
          (omega (arith, length-drop (n + 1) starts, length-drop (n + 1) ends)) (omega (arith, length-drop (n + 1) starts, length-drop (n + 1) kinds))
          ∙ length-drop (n + 1) starts

      pub text_at_lem : (only : Bool) (w : Value) → only ≡ eqb (length starts) 1 → (cell_at src s starts ends kinds n).kind ≡ w.kind
          → (cell_at src s starts ends kinds n).content ≡ w.content → text_at n ≡ column_text t n only header w ++ text_at (n + 1)
      text_at_lem only w o a b =
          rw (cells_next src s starts ends kinds e k n h)
          (text_next t header n only _ w _ (alone n (length starts) only _ h rest_length o) a b)

      pub uncarried_next :
          uncarried_at n
          ≡ uncarried_cell t (n + 1) (cell_at src s starts ends kinds n).kind (cell_at src s starts ends kinds n).content or_else uncarried_at
          (n + 1)
      unfolding uncarried_from
      uncarried_next =
          let v : Value = cell_at src s starts ends kinds n in
          rw (cells_next src s starts ends kinds e k n h)
          (sym (else_assoc _ _ _)
          ∙ ap
          (λ (m : ℕ).
          uncarried_cell t (n + 1) v.kind v.content or_else uncarried_from t m (cells_from src s starts ends kinds (n + 1)))
          (sym (add-one (n + 1))))

      -- the check result so far, or else that of the cell at n
      pub says_next :
          (all carries v r : CheckResult) (kind : Kind) → kind ≡ (cell_at src s starts ends kinds n).kind →
          v ≡ uncarried_cell t (n + 1) kind (cell_at src s starts ends kinds n).content
          → r ≡ carries or_else v → all ≡ carries or_else uncarried_at n → all ≡ r or_else uncarried_at (n + 1)
      says_next all carries v r kind same here joined before =
          let content : Bytes = (cell_at src s starts ends kinds n).content in
          let told : v ≡ uncarried_cell t (n + 1) (cell_at src s starts ends kinds n).kind content
          = here ∙ ap (λ (k : Kind). uncarried_cell t (n + 1) k content) same in
          before ∙ ap (λ (x : CheckResult). carries or_else x) uncarried_next ∙ sym (else_assoc carries _ (uncarried_at (n + 1)))
          ∙ ap (λ (x : CheckResult). (carries or_else x) or_else uncarried_at (n + 1)) (sym told)
          ∙ ap (λ (x : CheckResult). x or_else uncarried_at (n + 1)) (sym joined)

-- the last part is written
pub written_last : {write : Bool} {old : Bytes} {at : ℕ} {whole out : Bytes} {o : ℕ} {v new : Bytes} {r : ℕ}
    → Emitting write old at whole out o v → WrittenAt write out o v new r → WrittenAt write old at whole new r
written_last {write} {old} {at} {whole} {out} {o} {v} p q =
    let all : Emitting write old at whole out o (v ++ []) = rw append-nil p in put_whole (put_next v all q)

-- the first n cells are written, and the check result for all is that for these or else for the rest
pub record WrittenUpTo (src : Source) (t : Dialect) (s : Bytes) (starts ends kinds : List ℕ) (header : Bool) (old : Bytes) (at : ℕ)
    (write : Bool) (out : Bytes) (n o : ℕ) (carries : CheckResult) : Type 0 where
  pub going : Emitting write old at (record_text (into t) header (cells_in src s starts ends kinds)) out o (text_at src t s starts ends kinds header n)
  pub says : uncarried_from t 1 (cells_in src s starts ends kinds) ≡ carries or_else uncarried_at src t s starts ends kinds header n
  pub within : n ≤ length starts

pub written_none : (src : Source) (t : Dialect) (s : Bytes) (starts ends kinds : List ℕ) (header : Bool) (old : Bytes) (at : ℕ) (write : Bool)
    → Room write at (record_text (into t) header (cells_in src s starts ends kinds)) old →
    WrittenUpTo src t s starts ends kinds header old at write old 0 at (Ok tt)
unfolding record_text ◌or_else◌
written_none src t s starts ends kinds header old at write h = record { going = emitting write h; says = refl; within = omega arith }
