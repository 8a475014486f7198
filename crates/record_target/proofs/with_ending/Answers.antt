-- `record_target::with_ending` meets its contract: a measure within the limit is a sum.
use mathlib.Core.Path.{◌∙◌}
use Prim.Native.Nat.{◌+◌}
use native.Mathlib.Omega.{arith}
use lib.ListN.{length}
use Rattle.model.specs.rules.Text.{ending}
use Rattle.buffer.proofs.WriteProgress.{measure_within}
use Rattle.record_target.proofs.Reasons.{place_measured, room_measured, ending_length}
use Rattle.record_target.proofs.with_ending.Goals as goal

pub write_ending-requires : goal.write_ending-requires
write_ending-requires c = room_measured _ _ _ (omega (arith, c.requires))

pub returns : goal.returns
returns c =
    place_measured c.write_ending.ensures
    ∙ measure_within (c.args.end + length (ending c.args.t)) (omega (arith, ending_length c.args.t, c.requires))
