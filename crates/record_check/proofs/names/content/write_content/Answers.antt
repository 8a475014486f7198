-- The decoder refuses nothing here, and returns the content.
use Rattle.record_check.proofs.DecodedNames.{never_refused, decoded}
use Rattle.record_check.proofs.names.content.write_content.Goals as goal

pub returns-in_default : goal.returns-in_default
returns-in_default c =
    never_refused c.args.d c.args.raw.now c.args.room.now c.requires c.decode_sound.result _
    c.in_default.is c.decode_sound.ensures.result_value

pub returns : goal.returns
returns c =
    decoded c.args.d c.args.raw.now c.args.room.now c.requires c.decode_sound.result _ _
    c.in-Ok.is (c.decode_sound.ensures.result_value, c.decode_sound.ensures.room_after)
