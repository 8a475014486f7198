-- `cell_decoder::content_length` meets its contract: the first byte determines the encoding.
use mathlib.Core.Path.{◌≡◌, ap, ◌∙◌}
use lib.ListN.{length}
use Rattle.model.specs.rules.Decode.{content_of}
use Rattle.cell_decoder.specs.FirstByte.{spelling_by, content_in}
use Rattle.cell_decoder.specs.declared.first_byte.Spelling.{Spelling}
use Rattle.cell_decoder.proofs.FirstByte.{content_first}
use Rattle.cell_decoder.proofs.content_length.Goals as goal

pub returns : goal.returns
returns c =
    let spelt : content_in c.spelling_by.result c.args.raw.now ≡ content_of c.args.d c.args.raw.now =
    let raw = c.args.raw.now in
    ap (λ (s : Spelling). content_in s raw) (c.spelling_by.ensures ∙ ap (spelling_by c.args.d) c.first_of.ensures)
    ∙ content_first c.args.d raw in
    c.length_in.ensures ∙ ap length (spelt)
