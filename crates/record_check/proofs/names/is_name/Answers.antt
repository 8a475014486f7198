-- By the source: a cell of a file is decoded first, a content is compared as it is.
use mathlib.Core.Path.{sym, ap, ◌∙◌}
use Rattle.model.specs.rules.Base.{same}
use Rattle.model.specs.rules.Records.{name_key}
use Rattle.cell_decoder.specs.declared.source.Source.{Source}
use Rattle.cell_decoder.specs.Sources.{content_by}
use Rattle.record_check.proofs.Keys.{short_in_file}
use Rattle.record_check.proofs.names.is_name.Goals as goal

pub is_in_file-requires : goal.is_in_file-requires
is_in_file-requires c = (short_in_file _ c.in-File.is c.requires.0, c.requires.1)

pub returns-in-File : goal.returns-in-File
returns-in-File c =
    let s = c.args in
    c.is_in_file.ensures
    ∙ ap (λ (x : Source). same (name_key s.rule s.name.now) (name_key s.rule (content_by x s.raw.now)))
    (sym c.in-File.is)

pub returns-in-Contents : goal.returns-in-Contents
returns-in-Contents c =
    let s = c.args in
    c.same_name.ensures
    ∙ ap (λ (x : Source). same (name_key s.rule s.name.now) (name_key s.rule (content_by x s.raw.now))) (sym c.in-Contents.is)
