-- `cell_decoder::write_content` meets its contract: the first byte determines the encoding.
use mathlib.Core.Path.{◌≡◌, ap, ◌∙◌}
use lib.ListN.{length}
use Rattle.model.specs.rules.Base.{Bytes, over}
use Rattle.model.specs.rules.Decode.{content_of}
use Rattle.cell_decoder.specs.FirstByte.{spelling_by, content_in}
use Rattle.cell_decoder.specs.declared.first_byte.Spelling.{Spelling}
use Rattle.cell_decoder.proofs.FirstByte.{content_first}
use Rattle.cell_decoder.proofs.write_content.Goals as goal

pub write_in-requires : goal.write_in-requires
write_in-requires c =
    let spelt : content_in c.spelling_by.result c.args.raw.now ≡ content_of c.args.d c.args.raw.now =
    let raw = c.args.raw.now in
    ap (λ (s : Spelling). content_in s raw) (c.spelling_by.ensures ∙ ap (spelling_by c.args.d) c.first_of.ensures)
    ∙ content_first c.args.d raw in
    rw spelt c.requires

pub returns : goal.returns
returns c =
    let spelt : content_in c.spelling_by.result c.args.raw.now ≡ content_of c.args.d c.args.raw.now =
    let raw = c.args.raw.now in
    ap (λ (s : Spelling). content_in s raw) (c.spelling_by.ensures ∙ ap (spelling_by c.args.d) c.first_of.ensures)
    ∙ content_first c.args.d raw in
    let a = c.args in
    record { size = c.write_in.ensures.size ∙ ap length spelt; text = c.write_in.ensures.text ∙ ap (λ (w : Bytes). over w a.room.now) spelt }
