-- `cell_decoder::source::spelling_in` meets its contract: in a file the first byte determines the encoding.
use mathlib.Core.Path.{sym, ap, ◌∙◌}
use Rattle.cell_decoder.specs.FirstByte.{spelling_by, content_in}
use Rattle.cell_decoder.specs.Sources.{content_by, spelling_in}
use Rattle.cell_decoder.specs.declared.first_byte.Spelling.{Spelling}
use Rattle.cell_decoder.specs.declared.source.Source.{Source}
use Rattle.cell_decoder.proofs.FirstByte.{content_first}
use Rattle.cell_decoder.proofs.source.spelling_in.Goals as goal

pub returns-in-File : goal.returns-in-File
returns-in-File c =
    let a = c.args in
    let raw = a.raw.now in
    let r = c.spelling_by.ensures ∙ ap (spelling_by c.in-File.d) c.first_of.ensures in record {
      raw_value = ap (λ (s : Spelling). content_in s raw) r
          ∙ content_first c.in-File.d raw
          ∙ ap (λ (src : Source). content_by src raw) (sym c.in-File.is);
      value = r ∙ ap (λ (src : Source). spelling_in src raw) (sym c.in-File.is);
    }
