-- A clean record has the text that the fast path for its target writes (CleanRecords.antt); any other is written cell by cell.
use mathlib.Core.Path.{◌≡◌, sym, ap, ◌∙◌}
use Prim.Native.Nat.{ℕ}
use lib.Dec.{eqb}
use lib.ListN.{length}
use Rattle.model.specs.rules.Base.{Bytes, COMMA}
use Rattle.model.specs.rules.Dialect.{into}
use Rattle.model.specs.rules.Text.{record_text}
use Rattle.buffer.proofs.WriteProgress.{room_as, emitted_as}
use Rattle.cell_decoder.specs.Sources.{cells_in}
use Rattle.record_writer.specs.Joined.{joined_from}
use Rattle.record_writer.specs.CleanCellText.{quoted_cell, plus_cell}
use Rattle.record_writer.proofs.CleanRecords.{clean_spans, clean_quoted, clean_plus, clean_carried}
use Rattle.record_writer.proofs.line.write_text.Goals as goal

pub write_quoted-end-requires : goal.write_quoted-end-requires
write_quoted-end-requires c =
    let text : Bytes = record_text (into c.args.t) c.args.header (cells_in c.args.src c.args.s.now c.args.starts.now c.args.ends.now c.args.kinds.now) in
    let quoted_text : (let a = c.args in joined_from COMMA quoted_cell a.s.now 0 a.starts.now a.ends.now ≡ text) =
    let a = c.args in
    let clean = c.requires.clean_record c.if-clean.true in
    let quotes = sym c.quotes_all.ensures ∙ c.if-quotes_all.true in
    clean_quoted a.t a.s.now a.starts.now a.ends.now a.kinds.now c.requires.cells clean quotes in
    let a = c.args in
    let clean = c.requires.clean_record c.if-clean.true in
    record {
      spans = clean_spans a.t a.s.now a.starts.now a.ends.now a.kinds.now c.requires.cells clean;
      room = room_as (quoted_text) c.requires.room;
    }

pub returns-then-quotes_all : goal.returns-then-quotes_all
returns-then-quotes_all c =
    let text : Bytes = record_text (into c.args.t) c.args.header (cells_in c.args.src c.args.s.now c.args.starts.now c.args.ends.now c.args.kinds.now) in
    let quoted_text : (let a = c.args in joined_from COMMA quoted_cell a.s.now 0 a.starts.now a.ends.now ≡ text) =
    let a = c.args in
    let clean = c.requires.clean_record c.if-clean.true in
    let quotes = sym c.quotes_all.ensures ∙ c.if-quotes_all.true in
    clean_quoted a.t a.s.now a.starts.now a.ends.now a.kinds.now c.requires.cells clean quotes in
    let a = c.args in
    let clean = c.requires.clean_record c.if-clean.true in record {
      written_at = emitted_as (sym (quoted_text)) c.write_quoted-end.ensures;
      carries_value = clean_carried a.t a.s.now a.starts.now a.ends.now a.kinds.now c.requires.cells clean;
    }

pub write_csv_plus-end-requires : goal.write_csv_plus-end-requires
write_csv_plus-end-requires c =
    let text : Bytes = record_text (into c.args.t) c.args.header (cells_in c.args.src c.args.s.now c.args.starts.now c.args.ends.now c.args.kinds.now) in
    let plus_text : (let a = c.args in let p = c.delimiter_of-p.result in joined_from p (plus_cell p (eqb (length a.starts.now) 1)) a.s.now 0 a.starts.now a.ends.now ≡ text) =
    let a = c.args in
    let clean = c.requires.clean_record c.if-clean.true in
    let unquoted = sym c.quotes_all.ensures ∙ c.if-quotes_all.false in
    let quote = sym c.quote_of.ensures ∙ c.if-quote_of-eq34.true in
    let joined : ℕ → Bytes = λ p. joined_from p (plus_cell p (eqb (length a.starts.now) 1)) a.s.now 0 a.starts.now a.ends.now in
    ap joined c.delimiter_of-p.ensures
    ∙ clean_plus a.t a.s.now a.starts.now a.ends.now a.kinds.now c.requires.cells clean unquoted quote in
    let a = c.args in
    let clean = c.requires.clean_record c.if-clean.true in
    record {
      spans = clean_spans a.t a.s.now a.starts.now a.ends.now a.kinds.now c.requires.cells clean;
      room = room_as (plus_text) c.requires.room;
    }

pub returns-then-quote_of-eq34 : goal.returns-then-quote_of-eq34
returns-then-quote_of-eq34 c =
    let text : Bytes = record_text (into c.args.t) c.args.header (cells_in c.args.src c.args.s.now c.args.starts.now c.args.ends.now c.args.kinds.now) in
    let plus_text : (let a = c.args in let p = c.delimiter_of-p.result in joined_from p (plus_cell p (eqb (length a.starts.now) 1)) a.s.now 0 a.starts.now a.ends.now ≡ text) =
    let a = c.args in
    let clean = c.requires.clean_record c.if-clean.true in
    let unquoted = sym c.quotes_all.ensures ∙ c.if-quotes_all.false in
    let quote = sym c.quote_of.ensures ∙ c.if-quote_of-eq34.true in
    let joined : ℕ → Bytes = λ p. joined_from p (plus_cell p (eqb (length a.starts.now) 1)) a.s.now 0 a.starts.now a.ends.now in
    ap joined c.delimiter_of-p.ensures
    ∙ clean_plus a.t a.s.now a.starts.now a.ends.now a.kinds.now c.requires.cells clean unquoted quote in
    let a = c.args in
    let clean = c.requires.clean_record c.if-clean.true in record {
      written_at = emitted_as (sym (plus_text)) c.write_csv_plus-end.ensures;
      carries_value = clean_carried a.t a.s.now a.starts.now a.ends.now a.kinds.now c.requires.cells clean;
    }
