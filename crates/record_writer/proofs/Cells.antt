-- The text of a verbatim cell in a target, from its raw bytes; and every target can represent it.
use mathlib.Core.Path.{◌≡◌, refl, sym, ap, ◌∙◌}
use mathlib.Core.Bool.{Bool, true, false, ◌&&◌, ◌||◌, or-false}
use mathlib.Core.List.{◌++◌}
use Prim.Native.Nat.{ℕ}
use Rattle.model.specs.declared.Settings.{Settings}
use Rattle.model.specs.declared.Dialect.{Dialect}
use Rattle.model.specs.declared.Dialect.TheVariants.{Csvj, Tdif, CsvPlus}
use Rattle.model.specs.declared.Kind.{Kind}
use Rattle.model.specs.declared.Kind.TheVariants.{Text}
use Rattle.std.specs.Prelude.{Ok}
use Rattle.model.specs.rules.Base.{Bytes, is_empty, QUOTE}
use Rattle.model.specs.rules.Dialect.{quote_of, delimiter_of, is_csvj}
use Rattle.model.specs.rules.Decode.{content_of}
use Rattle.model.specs.rules.Text.{cell_text, has_quotes}
use Rattle.model.specs.rules.Records.{has_kind}
use Rattle.model.proofs.Tests.{split_on, impossible}
use Rattle.cell_decoder.specs.declared.source.Source.TheVariants.{File}
use Rattle.cell_writer.specs.Cells.{value_of, is_quoted, quote_by, text_cell, written_as}
use Rattle.cell_writer.specs.declared.cell.WrittenForm.TheVariants.{AsText}
use Rattle.record_writer.specs.Columns.{uncarried_cell}
use Rattle.record_writer.specs.Verbatim.{quotes_all}
use Rattle.cell_writer.proofs.Cells.{text_parts, cell_as_text}
use Rattle.record_writer.proofs.Columns.{cell_sound, csvj_carries}
use Rattle.record_writer.specs.CleanCellText.{marked, quoted_cell, needs_quotes, plus_cell}
use Rattle.record_writer.proofs.Content.{Known, text_clean, special_clean}

text_way : (t : Dialect) {k : Kind} → k ≡ Text → AsText ≡ written_as t k
text_way Csvj e = rw e
text_way Tdif e = rw e
text_way (CsvPlus s) e = refl

-- the text of such a cell is its content, in quotes or not
clean_parts : (t : Dialect) (only first : Bool) (d : Dialect) {k : Kind} {raw : Bytes} → quote_of t ≡ QUOTE → k ≡ Text → (c : Known d raw)
    → cell_text t only first (value_of (File d) k raw)
    ≡ quote_by t (is_quoted t only first c.inside) ++ (c.inside ++ quote_by t (is_quoted t only first c.inside))
clean_parts t only first d {k} {raw} h e c =
    let q : Bytes = quote_by t (is_quoted t only first c.inside) in
    cell_as_text only first t (value_of (File d) k raw) (text_way t e)
    ∙ ap (text_cell t only first) c.content
    ∙ text_parts t only first c.inside
    ∙ ap (λ (l : Bytes). q ++ (l ++ q)) (text_clean t h c.clean c.no_lone)

module _ {d : Dialect} {raw : Bytes} (c : Known d raw) {k : Kind} (e : k ≡ Text) where
  pub quoted_cell_lem : (t : Dialect) (only first : Bool) → quotes_all t ≡ true → cell_text t only first (value_of (File d) k raw) ≡ quoted_cell raw
  quoted_cell_lem Csvj only first q = clean_parts Csvj only first d refl e c ∙ sym c.in_marks
  quoted_cell_lem Tdif only first q = clean_parts Tdif only first d refl e c ∙ sym c.in_marks
  quoted_cell_lem (CsvPlus s) only first q = impossible q

  pub plus_cell_lem : (s : Settings) (only : Bool) → quote_of (CsvPlus s) ≡ QUOTE
      → cell_text (CsvPlus s) only false (value_of (File d) k raw) ≡ plus_cell (delimiter_of (CsvPlus s)) only raw
  unfolding plus_cell
  plus_cell_lem s only h =
      let same : has_quotes s only false c.inside ≡ needs_quotes (delimiter_of (CsvPlus s)) only c.inside =
      or-false _ ∙ ap (λ (b : Bool). b || only && is_empty c.inside) (special_clean s h c.clean) in
      clean_parts (CsvPlus s) only false d h e c
      ∙ ap (λ (b : Bool). quote_by (CsvPlus s) b ++ (c.inside ++ quote_by (CsvPlus s) b)) same
      ∙ marks (needs_quotes (delimiter_of (CsvPlus s)) only c.inside)
      ∙ ap (λ (l : Bytes). marked (needs_quotes (delimiter_of (CsvPlus s)) only l) l) (sym c.without)
    where
      marks : (b : Bool) → quote_by (CsvPlus s) b ++ (c.inside ++ quote_by (CsvPlus s) b) ≡ marked b c.inside
      marks true = rw h
      marks false = refl

  carried_by : (t : Dialect) → has_kind t k ≡ true
  carried_by Csvj = refl
  carried_by Tdif = rw e
  carried_by (CsvPlus s) = rw e

  pub clean_carried : (t : Dialect) (n : ℕ) → uncarried_cell t n k (content_of d raw) ≡ Ok tt
  clean_carried t n =
      split_on (is_csvj t) (λ j. csvj_carries t n k (content_of d raw) j) λ j.
      cell_sound t n k (content_of d raw) (carried_by t) j (rw e) (rw c.content c.no_lone)
