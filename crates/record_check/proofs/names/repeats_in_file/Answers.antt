-- `record_check::names::repeats_in_file` meets its contract: the room holds the name, which is looked for among the earlier ones.
use mathlib.Core.Path.{ap, ◌∙◌}
use lib.ListN.{replicate}
use Rattle.model.specs.rules.Base.{Bytes}
use Rattle.model.specs.rules.Decode.{content_of}
use Rattle.model.specs.rules.Records.{name_key, among}
use Rattle.model.specs.rules.Report.{MAXRECORD}
use Rattle.cell_decoder.specs.declared.source.Source.TheVariants.{File}
use Rattle.record_check.specs.Keys.{keys_before}
use Rattle.record_check.proofs.DecodedNames.{Holds, holds}
use Rattle.record_check.proofs.names.repeats_in_file.Goals as goal

-- the room before the name is written
abbrev zeros : Bytes
zeros = replicate MAXRECORD 0

pub slice_bounds-is_among-end : goal.slice_bounds-is_among-end
slice_bounds-is_among-end c =
    let held : Holds (content_of c.args.d c.args.raw.now) c.write_content-size.new.room c.write_content-size.result =
    holds (content_of c.args.d c.args.raw.now) zeros _ _ c.write_content-size.ensures in
    held.whole

pub returns : goal.returns
returns c =
    let held : Holds (content_of c.args.d c.args.raw.now) c.write_content-size.new.room c.write_content-size.result =
    holds (content_of c.args.d c.args.raw.now) zeros _ _ c.write_content-size.ensures in
    let s = c.args in
    c.is_among.ensures
    ∙ ap
    (λ (l : Bytes). among (name_key s.rule l) (keys_before (File s.d) s.rule s.s.now s.starts.now s.ends.now s.n))
    held.front
