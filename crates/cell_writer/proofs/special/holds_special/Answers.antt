use mathlib.Core.Path.{◌≡◌, sym, ap, ◌∙◌}
use Rattle.model.specs.rules.Base.{holds}
use Rattle.model.specs.rules.Text.{special}
use Rattle.cell_decoder.specs.FirstByte.{content_in}
use Rattle.cell_writer.specs.Contents.{content_from}
use Rattle.cell_writer.proofs.QuoteDecision.{special_on, special_end, special_there, special_next}
use Rattle.cell_writer.proofs.special.holds_special.Goals as goal

pub returns-then-raw-j : goal.returns-then-raw-j
returns-then-raw-j c =
    let passed : (let a = c.args in holds (special a.s) (content_in a.c a.raw.now) ≡ holds (special a.s) (content_from a.c a.raw.now c.plain_run-j.result)) =
    let a = c.args in
    c.loop-i.invariant
    ∙ special_on a.s a.c a.raw.now c.loop-i.i c.plain_run-j.result c.quote_of-p.result
    c.quote_in-q.result c.delimiter_of-r.result
    c.quote_of-p.ensures c.quote_in-q.ensures c.delimiter_of-r.ensures c.plain_run-j.ensures in
    let a = c.args in
    sym (passed ∙ special_end a.s a.c a.raw.now c.plain_run-j.result c.if-raw-j.true)

pub returns-then-is_special_unit : goal.returns-then-is_special_unit
returns-then-is_special_unit c =
    let passed : (let a = c.args in holds (special a.s) (content_in a.c a.raw.now) ≡ holds (special a.s) (content_from a.c a.raw.now c.plain_run-j.result)) =
    let a = c.args in
    c.loop-i.invariant
    ∙ special_on a.s a.c a.raw.now c.loop-i.i c.plain_run-j.result c.quote_of-p.result
    c.quote_in-q.result c.delimiter_of-r.result
    c.quote_of-p.ensures c.quote_in-q.ensures c.delimiter_of-r.ensures c.plain_run-j.ensures in
    let a = c.args in
    sym (passed ∙ special_there a.s c.unit_at-u.ensures (ap (holds (special a.s)) (sym c.as_slice.ensures.text) ∙ sym c.is_special_unit.ensures ∙ c.if-is_special_unit.true))

pub loop-i-preserved : goal.loop-i-preserved
loop-i-preserved c =
    let passed : (let a = c.args in holds (special a.s) (content_in a.c a.raw.now) ≡ holds (special a.s) (content_from a.c a.raw.now c.plain_run-j.result)) =
    let a = c.args in
    c.loop-i.invariant
    ∙ special_on a.s a.c a.raw.now c.loop-i.i c.plain_run-j.result c.quote_of-p.result
    c.quote_in-q.result c.delimiter_of-r.result
    c.quote_of-p.ensures c.quote_in-q.ensures c.delimiter_of-r.ensures c.plain_run-j.ensures in
    let a = c.args in
    passed ∙ special_next a.s c.unit_at-u.ensures (ap (holds (special a.s)) (sym c.as_slice.ensures.text) ∙ sym c.is_special_unit.ensures ∙ c.if-is_special_unit.false)

pub returns : goal.returns
returns c =
    let a = c.args in
    sym (c.loop-i.invariant ∙ special_end a.s a.c a.raw.now c.loop-i.i c.loop-i-test.false)
