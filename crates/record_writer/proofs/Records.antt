-- The text of a record of verbatim cells is their texts in order; and every target can represent it.
use mathlib.Core.Path.{◌≡◌, refl, sym, ap, ap₂, ◌∙◌}
use mathlib.Core.Bool.{Bool, true, false}
use mathlib.Core.List.{List, ◌++◌}
use Prim.Native.Nat.{ℕ, zero, suc, ◌+◌, ◌<◌, ◌≤◌}
use native.Mathlib.Omega.{arith}
use lib.Dec.{eqb}
use lib.ListN.{length, get_or}
use Rattle.model.specs.declared.Dialect.{Dialect}
use Rattle.model.specs.declared.Dialect.TheVariants.{Csvj, Tdif, CsvPlus}
use Rattle.model.specs.declared.Kind.{Kind}
use Rattle.model.specs.declared.Kind.TheVariants.{Text}
use Rattle.std.specs.Prelude.{Ok}
use Rattle.model.specs.rules.Base.{Bytes, COMMA, QUOTE}
use Rattle.model.specs.rules.Dialect.{quote_of, delimiter_of, into}
use Rattle.model.specs.rules.Report.{MAXRECORD}
use Rattle.model.specs.rules.Text.{cell_text, record_text}
use Rattle.model.specs.rules.Api.{slice}
use Rattle.model.specs.rules.Records.{◌or_else◌, uncarried_from}
use Rattle.model.proofs.Tests.{impossible}
use Rattle.cell_decoder.specs.declared.source.Source.TheVariants.{File}
use Rattle.cell_decoder.specs.Sources.{kind_from, cells_in, Encoded, in_file, Cells}
use Rattle.cell_fast.specs.Ends.{CleanCell, CleanIn}
use Rattle.cell_writer.specs.Cells.{value_of}
use Rattle.record_writer.specs.Columns.{is_first, before_cell, column_text}
use Rattle.record_writer.specs.Verbatim.{quotes_all}
use Rattle.record_writer.proofs.Columns.{text_at, uncarried_at, text_at_lem, text_end, uncarried_next, uncarried_end}
use Rattle.record_writer.specs.Joined.{before, joined_from, Spans}
use Rattle.record_writer.specs.CleanCellText.{quoted_cell, plus_cell}
use Rattle.record_writer.proofs.Content.{Known, known}
use Rattle.record_writer.proofs.Cells.{quoted_cell_lem, plus_cell_lem, clean_carried}
use Rattle.record_writer.proofs.Joined.{column_at, joined_at, joined_next, joined_end}

-- ---- one cell

-- a verbatim cell of a file
record Cell (d : Dialect) (kind : Kind) (raw : Bytes) : Type 0 where
  pub short : length raw ≤ MAXRECORD
  pub content : Known d raw
  pub is_text_lem : kind ≡ Text

cell_of : {d : Dialect} {kind : Kind} {raw : Bytes} → quote_of d ≡ QUOTE → Encoded (File d) kind raw → CleanCell d raw → Cell d kind raw
cell_of {d} h (in_file l f e) c = let k = known d h c f in record { short = l; content = k; is_text_lem = e ∙ k.is_text_lem }

no_header : (n : ℕ) → is_first n false ≡ false
no_header zero = refl
no_header (suc n) = refl

same_before : (t : Dialect) (n : ℕ) → before_cell t n ≡ before (delimiter_of t) n
same_before t zero = refl
same_before t (suc n) = refl

comma_of : (t : Dialect) → quotes_all t ≡ true → delimiter_of t ≡ COMMA
comma_of Csvj q = refl
comma_of Tdif q = refl
comma_of (CsvPlus s) q = impossible q

-- ---- a record

module _ (d t : Dialect) (s : Bytes) (starts ends kinds : List ℕ) (cells : Cells (File d) s starts ends kinds) (clean : CleanIn d s starts ends) where
  cell_at : (n : ℕ) → n < length starts → Cell d (kind_from (get_or kinds n 0)) (slice s (get_or starts n 0) (get_or ends n 0))
  cell_at n h = cell_of clean.quotes (cells.each n h).spelt (clean.each n h)

  pub stretches : Spans s starts ends
  stretches =
      record {
        with_ends = cells.with_ends;
        each = λ k h. record {
          forward = (cells.each k h).forward;
          inside = (cells.each k h).within;
          short = (cell_at k h).short;
          closed = (cell_at k h).content.closed;
        };
      }

  -- from place n on, where each cell has this text
  joined : (text : Bytes → Bytes)
      → ((n : ℕ) → n < length starts →
      cell_text t (eqb (length starts) 1) false
      (value_of (File d) (kind_from (get_or kinds n 0)) (slice s (get_or starts n 0) (get_or ends n 0)))
      ≡ text (slice s (get_or starts n 0) (get_or ends n 0)))
      → (k n : ℕ) → n + k ≡ length starts → text_at (File d) t s starts ends kinds false n ≡ joined_at (delimiter_of t) text s starts ends n
  joined text each zero n e =
      text_end (File d) t s starts ends kinds false cells.with_ends cells.with_kinds n (omega arith)
      ∙ sym (joined_end (delimiter_of t) text s starts ends cells.with_ends n (omega arith))
  joined text each (suc k) n e =
      let h : n < length starts = omega arith in
      let only : Bool = eqb (length starts) 1 in
      let v = value_of (File d) (kind_from (get_or kinds n 0)) (slice s (get_or starts n 0) (get_or ends n 0)) in
      let column : column_text t n only false v ≡ column_at (delimiter_of t) text s starts ends n = rw (no_header n) (ap₂ ◌++◌ (same_before t n) (each n h)) in
      text_at_lem (File d) t s starts ends kinds false cells.with_ends cells.with_kinds n h only v refl refl refl
      ∙ ap₂ ◌++◌ column (joined text each k (n + 1) (omega arith))
      ∙ sym (joined_next (delimiter_of t) text s starts ends cells.with_ends n h)

  pub record_quoted : quotes_all t ≡ true → record_text (into t) false (cells_in (File d) s starts ends kinds) ≡ joined_from COMMA quoted_cell s 0 starts ends
  unfolding record_text
  record_quoted q =
      joined quoted_cell (λ n h. quoted_cell_lem (cell_at n h).content (cell_at n h).is_text_lem t (eqb (length starts) 1) false q) (length starts) 0 (omega arith)
      ∙ ap (λ (p : ℕ). joined_from p quoted_cell s 0 starts ends) (comma_of t q)

  -- the target can represent all cells from place n on
  all_carried : (k n : ℕ) → n + k ≡ length starts → uncarried_at (File d) t s starts ends kinds false n ≡ Ok tt
  unfolding ◌or_else◌
  all_carried zero n e = uncarried_end (File d) t s starts ends kinds false cells.with_ends cells.with_kinds n (omega arith)
  all_carried (suc k) n e =
      let h : n < length starts = omega arith in
      uncarried_next (File d) t s starts ends kinds false cells.with_ends cells.with_kinds n h
      ∙ rw (clean_carried (cell_at n h).content (cell_at n h).is_text_lem t (n + 1)) (all_carried k (n + 1) (omega arith))

  pub record_carried : (Ok tt) ≡ uncarried_from t 1 (cells_in (File d) s starts ends kinds)
  record_carried = sym (all_carried (length starts) 0 (omega arith))

pub record_plus :
    (d t : Dialect) (s : Bytes) (starts ends kinds : List ℕ) → Cells (File d) s starts ends kinds → CleanIn d s starts ends →
    quotes_all t ≡ false → quote_of t ≡ QUOTE
    → record_text (into t) false (cells_in (File d) s starts ends kinds)
    ≡ joined_from (delimiter_of t) (plus_cell (delimiter_of t) (eqb (length starts) 1)) s 0 starts ends
unfolding record_text
record_plus d Csvj s starts ends kinds cells clean q h = impossible (sym q)
record_plus d Tdif s starts ends kinds cells clean q h = impossible (sym q)
record_plus d (CsvPlus x) s starts ends kinds cells clean q h =
    let cell_here = cell_at d (CsvPlus x) s starts ends kinds cells clean in
    joined d (CsvPlus x) s starts ends kinds cells clean (plus_cell (delimiter_of (CsvPlus x)) (eqb (length starts) 1))
    (λ n l. plus_cell_lem (cell_here n l).content (cell_here n l).is_text_lem x (eqb (length starts) 1) h) (length starts) 0 (omega arith)
