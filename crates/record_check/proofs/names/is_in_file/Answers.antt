-- `record_check::names::is_in_file` meets its contract: the room holds the cell's name, which is compared with the other.
use mathlib.Core.Path.{ap, ◌∙◌}
use Rattle.model.specs.rules.Base.{Bytes, same}
use Rattle.model.specs.rules.Decode.{content_of}
use Rattle.model.specs.rules.Records.{name_key}
use Rattle.record_check.proofs.DecodedNames.{Holds, holds}
use Rattle.record_check.proofs.names.is_in_file.Goals as goal

pub slice_bounds-same_name-end-2 : goal.slice_bounds-same_name-end-2
slice_bounds-same_name-end-2 c =
    let held : (let s = c.args in Holds (content_of s.d s.raw.now) c.write_content-size.new.room c.write_content-size.result) =
    let s = c.args in
    holds (content_of s.d s.raw.now) s.room.now _ _ c.write_content-size.ensures in
    held.whole

pub returns : goal.returns
returns c =
    let held : (let s = c.args in Holds (content_of s.d s.raw.now) c.write_content-size.new.room c.write_content-size.result) =
    let s = c.args in
    holds (content_of s.d s.raw.now) s.room.now _ _ c.write_content-size.ensures in
    let s = c.args in
    c.same_name.ensures ∙ ap (λ (l : Bytes). same (name_key s.rule s.name.now) (name_key s.rule l)) held.front
