-- `record_writer::record::with_cell` meets its contract: its tests are the definition's.
use mathlib.Core.Path.{◌≡◌, sym, ap, ◌∙◌}
use mathlib.Core.Bool.{true, false}
use Rattle.std.proofs.lemmas.Result.{err_from_is_err_and}
use Rattle.model.specs.rules.Dialect.{is_csvj}
use Rattle.model.specs.rules.Records.{has_kind}
use Rattle.model.specs.rules.Text.{is_text}
use Rattle.cell_decoder.specs.Sources.{kind_from}
use Rattle.record_writer.proofs.Columns.{cell_lacks, cell_no_text, cell_lone, cell_sound, csvj_carries, or_fault, or_sound}
use Rattle.model.proofs.Tests.{split_on, impossible}
use Rattle.record_writer.proofs.record.with_cell.Goals as goal
use Rattle.record_writer.proofs.record.with_cell.Goals.{else-lone-via-then-lone+else-is_text, else-lone-via-else-lone}

pub returns-in_err-carries : goal.returns-in_err-carries
returns-in_err-carries c content known =
    let p = err_from_is_err_and c.from_residual.result c.from_residual.ensures.1 in rw (p.1, p.2, or_fault _ c.in_err-carries.was)

pub returns-then-is_csvj : goal.returns-then-is_csvj
returns-then-is_csvj c content known =
    let a = c.args in
    sym (or_sound _ c.in_ok-carries.was ∙ csvj_carries a.t a.column (kind_from a.number) content (sym c.is_csvj.ensures ∙ c.if-is_csvj.true))

pub returns-then-not-has_kind : goal.returns-then-not-has_kind
returns-then-not-has_kind c content known =
    let a = c.args in
    let lacks : has_kind a.t (kind_from a.number) ≡ false =
    ap (has_kind a.t) (sym c.kind_of_number-kind.ensures) ∙ sym c.has_kind.ensures ∙ c.if-not-has_kind.true in
    sym (or_sound _ c.in_ok-carries.was ∙ cell_lacks a.t a.column (kind_from a.number) content lacks)

pub returns-then-is_text : goal.returns-then-is_text
returns-then-is_text c content known =
    let a = c.args in
    let has : has_kind a.t (kind_from a.number) ≡ true =
    ap (has_kind a.t) (sym c.kind_of_number-kind.ensures) ∙ sym c.has_kind.ensures ∙ c.if-not-has_kind.false in
    let other : is_csvj a.t ≡ false = sym c.is_csvj.ensures ∙ c.if-is_csvj.false in
    let text : is_text (kind_from a.number) ≡ true =
    ap is_text (sym c.kind_of_number-kind.ensures) ∙ sym c.is_text.ensures ∙ c.if-is_text.true in
    sym (or_sound _ c.in_ok-carries.was
    ∙ cell_lone a.t a.column (kind_from a.number) content has other text (sym (known text other) ∙ c.if-lone.true))

pub returns : goal.returns
returns c content known =
    let a = c.args in
    let has : has_kind a.t (kind_from a.number) ≡ true =
    ap (has_kind a.t) (sym c.kind_of_number-kind.ensures) ∙ sym c.has_kind.ensures ∙ c.if-not-has_kind.false in
    let other : is_csvj a.t ≡ false = sym c.is_csvj.ensures ∙ c.if-is_csvj.false in
    sym (or_sound _ c.in_ok-carries.was
    ∙ split_on (is_text (kind_from a.number))
    (λ text. cell_sound a.t a.column (kind_from a.number) content has other text (sym (known text other) ∙ elim c.else-lone.branch [
      | else-lone-via-then-lone+else-is_text w ↦
          impossible (sym (ap is_text (sym c.kind_of_number-kind.ensures) ∙ sym w.is_text.ensures ∙ w.if-is_text.false) ∙ text)
      | else-lone-via-else-lone w ↦ w.if-lone.false
    ]))
    (λ text. cell_no_text a.t a.column (kind_from a.number) content has other text))
