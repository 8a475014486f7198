-- The laws of records of verbatim cells (Records.antt), for a record of any source that is flagged `clean`: it can only be a data record
-- of a file.
use mathlib.Core.Path.{◌≡◌, sym}
use mathlib.Core.Bool.{Bool, true, false}
use mathlib.Core.List.{List}
use Prim.Native.Nat.{ℕ}
use lib.Dec.{eqb}
use lib.ListN.{length}
use Rattle.model.specs.declared.Dialect.{Dialect}
use Rattle.std.specs.Prelude.{Ok}
use Rattle.model.specs.rules.Base.{Bytes, COMMA, QUOTE}
use Rattle.model.specs.rules.Dialect.{quote_of, delimiter_of, into}
use Rattle.model.specs.rules.Text.{record_text}
use Rattle.model.specs.rules.Records.{uncarried_from}
use Rattle.cell_decoder.specs.declared.source.Source.{Source}
use Rattle.cell_decoder.specs.declared.source.Source.TheVariants.{File}
use Rattle.cell_decoder.specs.Sources.{cells_in, Cells}
use Rattle.cell_fast.specs.Ends.{CleanIn}
use Rattle.record_writer.specs.CleanRecord.{CleanRecord, clean_data}
use Rattle.record_writer.specs.Verbatim.{quotes_all}
use Rattle.record_writer.specs.Joined.{joined_from, Spans}
use Rattle.record_writer.specs.CleanCellText.{quoted_cell, plus_cell}
use Rattle.record_writer.proofs.Records.{stretches, record_quoted, record_plus, record_carried}

pub clean_record : {d : Dialect} {s : Bytes} {starts ends : List ℕ} {header : Bool} → header ≡ false → CleanIn d s starts ends
    → CleanRecord s starts ends (File d) header
clean_record no_header clean = rw no_header (clean_data clean)

module _ (t : Dialect) (s : Bytes) (starts ends kinds : List ℕ) where
  pub clean_spans : {src : Source} {header : Bool} → Cells src s starts ends kinds → CleanRecord s starts ends src header → Spans s starts ends
  clean_spans cells (clean_data {d} clean) = stretches d t s starts ends kinds cells clean

  -- its text in a target that quotes every text
  pub clean_quoted : {src : Source} {header : Bool} → Cells src s starts ends kinds → CleanRecord s starts ends src header
      → quotes_all t ≡ true
      → joined_from COMMA quoted_cell s 0 starts ends ≡ record_text (into t) header (cells_in src s starts ends kinds)
  clean_quoted cells (clean_data {d} clean) q = sym (record_quoted d t s starts ends kinds cells clean q)

  -- its text in CSV+ with the quotation mark for a quote
  pub clean_plus : {src : Source} {header : Bool} → Cells src s starts ends kinds → CleanRecord s starts ends src header
      → quotes_all t ≡ false → quote_of t ≡ QUOTE
      → joined_from (delimiter_of t) (plus_cell (delimiter_of t) (eqb (length starts) 1)) s 0 starts ends
      ≡ record_text (into t) header (cells_in src s starts ends kinds)
  clean_plus cells (clean_data {d} clean) q h = sym (record_plus d t s starts ends kinds cells clean q h)

  -- every target can represent it
  pub clean_carried : {src : Source} {header : Bool} → Cells src s starts ends kinds → CleanRecord s starts ends src header
      → Ok tt ≡ uncarried_from t 1 (cells_in src s starts ends kinds)
  clean_carried cells (clean_data {d} clean) = record_carried d t s starts ends kinds cells clean
