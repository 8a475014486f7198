-- The cells of lists by index; and the cells of a file, whose starts, ends and kinds were stored in lists.
use mathlib.Core.Path.{◌≡◌, refl, sym, ap, ◌∙◌}
use mathlib.Core.List.{List, [], ◌∷◌}
use Prim.Native.Nat.{ℕ, zero, suc, ◌+◌, ◌-◌, ◌<◌, ◌≤◌}
use native.Mathlib.Omega.{arith}
use lib.ListN.{length, drop, get_or, length-map, length-drop, drop_of_length-le}
use lib.Seq.{length-take-le}
use Rattle.model.specs.declared.Dialect.{Dialect}
use Rattle.model.specs.declared.Kind.{Kind}
use Rattle.model.specs.declared.Kind.TheVariants.{Text, Number, True, False, Null}
use Rattle.std.specs.Prelude.{Ok}
use Rattle.model.specs.rules.Base.{Bytes, choose◌then◌else◌}
use Rattle.model.specs.rules.Decode.{kind_number, kind_of, content_of, validate_cell}
use Rattle.model.specs.rules.Text.{Value}
use Rattle.model.specs.laws.Laws.{All, all_none, all_cons}
use Rattle.model.specs.rules.Report.{MAXRECORD}
use Rattle.model.specs.rules.Api.{slice, starts_of, ends_of, kinds_of, kind_named}
use Rattle.buffer.proofs.WriteProgress.{drop_next}
use Rattle.cell_decoder.specs.declared.source.Source.{Source}
use Rattle.cell_decoder.specs.declared.source.Source.TheVariants.{File}
use Rattle.cell_decoder.specs.Sources.{kind_from, cell_in, cells_in, in_file, CellSpan, Cells}
use Rattle.cell_decoder.proofs.Followed.{sound_followed}

-- as many cells as spans
pub cells_length : (src : Source) (s : Bytes) (starts ends kinds : List ℕ) → length starts ≡ length ends → length starts ≡ length kinds
    → length (cells_in src s starts ends kinds) ≡ length starts
unfolding cells_in
cells_length src s [] ends kinds e k = refl
cells_length src s (i ∷ starts) [] kinds e k = absurd (omega arith)
cells_length src s (i ∷ starts) (j ∷ ends) [] e k = absurd (omega arith)
cells_length src s (i ∷ starts) (j ∷ ends) (n ∷ kinds) e k = ap suc (cells_length src s starts ends kinds (omega arith) (omega arith))

module _ (src : Source) (s : Bytes) (starts ends kinds : List ℕ) where
  -- the cell at an index, and the cells from there on
  abbrev pub cell_at : ℕ → Value
  cell_at n = cell_in src s (get_or starts n 0) (get_or ends n 0) (get_or kinds n 0)

  abbrev pub cells_from : ℕ → List Value
  cells_from n = cells_in src s (drop n starts) (drop n ends) (drop n kinds)

  module _ (e : length starts ≡ length ends) (k : length starts ≡ length kinds) (n : ℕ) where
    pub cells_next : n < length starts → cells_from n ≡ cell_at n ∷ cells_from (n + 1)
    unfolding cells_in
    cells_next h =
        let i : n < length ends = omega arith in
        let j : n < length kinds = omega arith in
        rw (drop_next starts n (n + 1) h refl, drop_next ends n (n + 1) i refl, drop_next kinds n (n + 1) j refl)

    pub cells_end : length starts ≤ n → cells_from n ≡ []
    unfolding cells_in
    cells_end h = rw (drop_of_length-le starts h)

-- ---- the cells of a file

-- the number of a kind names it
number_kind : (k : Kind) → kind_from (kind_number k) ≡ k
unfolding kind_named choose◌then◌else◌
number_kind Text = refl
number_kind Number = refl
number_kind True = refl
number_kind False = refl
number_kind Null = refl

module _ (d : Dialect) (file : Bytes) where
  pub cell_of : (v : Value) → v.content ≡ content_of d (slice file v.from v.upto) → cell_in (File d) file v.from v.upto (kind_number v.kind) ≡ v
  cell_of v e = rw (number_kind v.kind, ← e)

  stretch_short : (i j : ℕ) → i ≤ j → j ≤ length file → j ≤ i + MAXRECORD → length (slice file i j) ≤ MAXRECORD
  stretch_short i j f w s =
      let left : length (drop i file) ≡ length file - i = length-drop i file in
      let size : length (slice file i j) ≡ j - i = length-take-le (j - i) (drop i file) (omega arith) in
      omega arith

  pub stretch_of : (v : Value) → v.kind ≡ kind_of d (slice file v.from v.upto) → v.from ≤ v.upto → v.upto ≤ length file → v.upto ≤ v.from + MAXRECORD
      → validate_cell d (slice file v.from v.upto) ≡ Ok tt → CellSpan (File d) file v.from v.upto (kind_number v.kind)
  stretch_of v kind forward within short sound =
      record {
        forward = forward;
        within = within;
        spelt =
            in_file (stretch_short v.from v.upto forward within short) (sound_followed d (slice file v.from v.upto) sound)
            (number_kind v.kind ∙ kind);
      }

  -- cells of which each has its kind and content, and lies in its span
  module _ (P : Value → Type 0) where
    pub cells_are : ((v : Value) → P v → cell_in (File d) file v.from v.upto (kind_number v.kind) ≡ v) → {vs : List Value} → All P vs
        → cells_in (File d) file (starts_of vs) (ends_of vs) (kinds_of vs) ≡ vs
    unfolding cells_in
    cells_are h all_none = refl
    cells_are h (all_cons {x} {xs} p a) =
        ap (λ (w : Value). w ∷ cells_in (File d) file (starts_of xs) (ends_of xs) (kinds_of xs)) (h x p) ∙ ap (λ (l : List Value). x ∷ l) (cells_are h a)

    each_lies : ((v : Value) → P v → CellSpan (File d) file v.from v.upto (kind_number v.kind)) → {vs : List Value} → All P vs
        → (k : ℕ) → k < length (starts_of vs)
        → CellSpan (File d) file (get_or (starts_of vs) k 0) (get_or (ends_of vs) k 0) (get_or (kinds_of vs) k 0)
    each_lies h all_none k l = absurd (omega arith)
    each_lies h (all_cons {x} p a) zero l = h x p
    each_lies h (all_cons p a) (suc k) l = each_lies h a k (omega arith)

    pub cells_lie : ((v : Value) → P v → CellSpan (File d) file v.from v.upto (kind_number v.kind)) → {vs : List Value} → All P vs
        → Cells (File d) file (starts_of vs) (ends_of vs) (kinds_of vs)
    cells_lie h {vs} a =
        record { with_ends = length-map vs _ ∙ sym (length-map vs _); with_kinds = length-map vs _ ∙ sym (length-map vs _); each = each_lies h a }
