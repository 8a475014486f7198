-- `cell_writer::cell::write_cell` meets its contract, by the written form of the kind in the target.
use mathlib.Core.Path.{◌≡◌, sym, ap, ◌∙◌}
use Rattle.model.specs.rules.Utf8.{holds_lone}
use Rattle.model.specs.rules.Text.{cell_text}
use Rattle.buffer.proofs.WriteProgress.{room_as, emitted_as}
use Rattle.cell_decoder.specs.FirstByte.{content_in}
use Rattle.cell_decoder.specs.declared.first_byte.Spelling.{Spelling}
use Rattle.cell_writer.specs.declared.cell.WrittenForm.TheVariants.{AsNumber}
use Rattle.cell_writer.specs.Cells.{value_of, text_cell, number_in, written_as, word_for}
use Rattle.cell_writer.proofs.Cells.{encoded_legible, encoded_number, legible_as, number_way, text_way, cell_as_text, cell_as_number, cell_as_word, number_no_text, word_no_text}
use Rattle.cell_writer.proofs.cell.write_cell.Goals as goal

pub invariant_of-e : goal.invariant_of-e
invariant_of-e c = record { legible = legible_as c.spelling_in.ensures.value (encoded_legible c.requires.encoded) }

pub write_text-requires : goal.write_text-requires
write_text-requires c =
    let a = c.args in
    let cell = cell_text a.t a.only a.first (value_of a.src a.kind a.raw.now) in
    let as_text : text_cell a.t a.only a.first (content_in c.spelling_in.result a.raw.now) ≡ cell =
    ap (text_cell a.t a.only a.first) c.spelling_in.ensures.raw_value
    ∙ sym (cell_as_text a.only a.first a.t (value_of a.src a.kind a.raw.now) (sym c.in-AsText.is ∙ c.form_in.ensures)) in
    room_as as_text c.requires.room

pub write_number-requires : goal.write_number-requires
write_number-requires c =
    let a = c.args in
    let cell = cell_text a.t a.only a.first (value_of a.src a.kind a.raw.now) in
    let way : AsNumber ≡ written_as a.t a.kind = sym c.in-AsNumber.is ∙ c.form_in.ensures in
    let as_number : number_in c.spelling_in-c.result a.raw.now ≡ cell =
    ap (λ (s : Spelling). number_in s a.raw.now) c.spelling_in-c.ensures.value
    ∙ sym (cell_as_number a.only a.first a.t (value_of a.src a.kind a.raw.now) way ∙ encoded_number c.requires.encoded (number_way a.t a.kind way)) in
    room_as as_number c.requires.room

pub write_word-requires : goal.write_word-requires
write_word-requires c =
    let a = c.args in
    let cell = cell_text a.t a.only a.first (value_of a.src a.kind a.raw.now) in
    let as_word : word_for a.t a.kind ≡ cell =
    sym (cell_as_word a.only a.first a.t (value_of a.src a.kind a.raw.now) (sym c.in-AsWord.is ∙ c.form_in.ensures)) in
    room_as as_word c.requires.room

pub returns-in-AsText : goal.returns-in-AsText
returns-in-AsText c =
    let a = c.args in
    let cell = cell_text a.t a.only a.first (value_of a.src a.kind a.raw.now) in
    let as_text : text_cell a.t a.only a.first (content_in c.spelling_in.result a.raw.now) ≡ cell =
    ap (text_cell a.t a.only a.first) c.spelling_in.ensures.raw_value
    ∙ sym (cell_as_text a.only a.first a.t (value_of a.src a.kind a.raw.now) (sym c.in-AsText.is ∙ c.form_in.ensures)) in
    record {
      written_at = emitted_as (sym as_text) c.write_text.ensures.written_at;
      lone_value = λ e f. c.write_text.ensures.lone_value ∙ ap holds_lone c.spelling_in.ensures.raw_value;
    }

pub returns-in-AsNumber : goal.returns-in-AsNumber
returns-in-AsNumber c =
    let a = c.args in
    let cell = cell_text a.t a.only a.first (value_of a.src a.kind a.raw.now) in
    let way : AsNumber ≡ written_as a.t a.kind = sym c.in-AsNumber.is ∙ c.form_in.ensures in
    let as_number : number_in c.spelling_in-c.result a.raw.now ≡ cell =
    ap (λ (s : Spelling). number_in s a.raw.now) c.spelling_in-c.ensures.value
    ∙ sym (cell_as_number a.only a.first a.t (value_of a.src a.kind a.raw.now) way ∙ encoded_number c.requires.encoded (number_way a.t a.kind way)) in
    record {
      written_at = emitted_as (sym as_number) c.write_number.ensures;
      lone_value = λ e f. number_no_text (sym c.in-AsNumber.is ∙ text_way a.t a.kind c.form_in.result c.form_in.ensures e f);
    }

pub returns-in-AsWord : goal.returns-in-AsWord
returns-in-AsWord c =
    let a = c.args in
    let cell = cell_text a.t a.only a.first (value_of a.src a.kind a.raw.now) in
    let as_word : word_for a.t a.kind ≡ cell =
    sym (cell_as_word a.only a.first a.t (value_of a.src a.kind a.raw.now) (sym c.in-AsWord.is ∙ c.form_in.ensures)) in
    record {
      written_at = emitted_as (sym as_word) c.write_word.ensures;
      lone_value = λ e f. word_no_text (sym c.in-AsWord.is ∙ text_way a.t a.kind c.form_in.result c.form_in.ensures e f);
    }
