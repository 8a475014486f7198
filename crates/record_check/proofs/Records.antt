-- The checks of a record by the outcomes of their tests; a check of all cells is unrolled at the cell at one place.
use mathlib.Core.Path.{◌≡◌, refl, sym, ap}
use mathlib.Core.Bool.{true, false, not}
use mathlib.Core.List.{List, [], ◌∷◌}
use Prim.Native.Nat.{ℕ, suc, ◌+◌, ◌<◌, ◌≤◌}
use native.Mathlib.Numerals.{add-one}
use native.Mathlib.Omega.{arith}
use lib.ListN.{length, drop, get_or, drop_of_length-le}
use borrow.Author.Tests.{eq-eqb, ne_eqb, lt-ltb, le-ltb}
use Rattle.model.specs.declared.Dialect.{Dialect}
use Rattle.model.specs.declared.Fault.{Fault}
use Rattle.model.specs.declared.Fault.TheVariants.{CellCount, RepeatedName, HeaderKind, TooManyColumns}
use Rattle.model.specs.rules.Types.{CheckResult}
use Rattle.std.specs.Prelude.{Ok, Err}
use Rattle.model.specs.rules.Base.{Bytes}
use Rattle.model.specs.rules.Text.{Value, is_text}
use Rattle.model.specs.rules.Records.{◌or_else◌, when, repeat_fault, header_kind_from, header_fault, data_fault}
use Rattle.buffer.proofs.WriteProgress.{drop_next}
use Rattle.cell_decoder.specs.declared.source.Source.{Source}
use Rattle.cell_decoder.specs.Sources.{kind_from, cells_in, Cells}
use Rattle.cell_decoder.proofs.CellsIn.{cells_length}
use Rattle.record_check.specs.Kinds.{not_text_from}

-- ---- data records

module _ (columns cells : ℕ) (vs : List Value) (e : length vs ≡ cells) where
  pub data_too_many : 64 < cells → Err TooManyColumns ≡ data_fault columns vs
  unfolding data_fault when ◌or_else◌
  data_too_many h = rw (e, lt-ltb 64 cells h)

  pub data_uneven : cells ≤ 64 → (cells ≡ columns → ⊥) → Err CellCount ≡ data_fault columns vs
  unfolding data_fault when ◌or_else◌
  data_uneven h n = rw (e, le-ltb 64 cells h, ne_eqb cells columns n)

  pub data_sound : cells ≤ 64 → cells ≡ columns → Ok tt ≡ data_fault columns vs
  unfolding data_fault when ◌or_else◌
  data_sound h n = rw (e, le-ltb 64 cells h, eq-eqb cells columns n)

-- ---- the kinds of a header, from place n on

module _ (kinds : List ℕ) where
  abbrev pub not_text_at : ℕ → CheckResult
  not_text_at n = not_text_from (n + 1) (drop n kinds)

  module _ (n : ℕ) where
    pub not_text_end : length kinds ≤ n → not_text_at n ≡ Ok tt
    unfolding not_text_from
    not_text_end h = rw (drop_of_length-le kinds h)

    module _ (h : n < length kinds) where
      pub not_text_here : is_text (kind_from (get_or kinds n 0)) ≡ false → not_text_at n ≡ Err (HeaderKind (n + 1))
      unfolding not_text_from when ◌or_else◌
      not_text_here e = rw (drop_next kinds n (n + 1) h refl, e)

      pub not_text_next : is_text (kind_from (get_or kinds n 0)) ≡ true → not_text_at n ≡ not_text_at (n + 1)
      unfolding not_text_from when ◌or_else◌
      not_text_next e = rw (drop_next kinds n (n + 1) h refl, e) (ap (λ (k : ℕ). not_text_from k (drop (n + 1) kinds)) (sym (add-one (n + 1))))

-- the check of the kinds' numbers is that of the cells
not_text_cells : (n : ℕ) (src : Source) (s : Bytes) (starts ends kinds : List ℕ) → length starts ≡ length ends → length starts ≡ length kinds
    → not_text_from n kinds ≡ header_kind_from n (cells_in src s starts ends kinds)
unfolding not_text_from header_kind_from cells_in
not_text_cells n src s [] ends [] e k = refl
not_text_cells n src s [] ends (x ∷ kinds) e k = absurd (omega arith)
not_text_cells n src s (i ∷ starts) [] kinds e k = absurd (omega arith)
not_text_cells n src s (i ∷ starts) (j ∷ ends) [] e k = absurd (omega arith)
not_text_cells n src s (i ∷ starts) (j ∷ ends) (x ∷ kinds) e k =
    ap (λ (v : CheckResult). when (not (is_text (kind_from x))) (HeaderKind n) or_else v)
    (not_text_cells (suc n) src s starts ends kinds (omega arith) (omega arith))

-- ---- headers

pub counted : {src : Source} {s : Bytes} {starts ends kinds : List ℕ} → Cells src s starts ends kinds
    → length (cells_in src s starts ends kinds) ≡ length starts
counted {src} {s} {starts} {ends} {kinds} c = cells_length src s starts ends kinds c.with_ends c.with_kinds

module _ (d : Dialect) {src : Source} {s : Bytes} {starts ends kinds : List ℕ} (c : Cells src s starts ends kinds) where
  pub header_too_many : 64 < length starts → Err TooManyColumns ≡ header_fault d (cells_in src s starts ends kinds)
  unfolding header_fault when ◌or_else◌
  header_too_many h = rw (counted c, lt-ltb 64 (length starts) h)

  module _ (few : length starts ≤ 64) where
    pub header_not_text : (e : Fault) → not_text_from 1 kinds ≡ Err e → Err e ≡ header_fault d (cells_in src s starts ends kinds)
    unfolding header_fault when ◌or_else◌
    header_not_text e h = rw (counted c, le-ltb 64 (length starts) few, ← not_text_cells 1 src s starts ends kinds c.with_ends c.with_kinds, h)

    pub header_names : not_text_from 1 kinds ≡ Ok tt
        → repeat_fault d RepeatedName (cells_in src s starts ends kinds) ≡ header_fault d (cells_in src s starts ends kinds)
    unfolding header_fault when ◌or_else◌
    header_names h = rw (counted c, le-ltb 64 (length starts) few, ← not_text_cells 1 src s starts ends kinds c.with_ends c.with_kinds, h)
