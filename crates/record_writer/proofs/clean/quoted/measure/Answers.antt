use Prim.Native.Nat.{ℕ, ◌+◌}
use mathlib.Core.Path.{refl, ap, ◌∙◌}
use mathlib.Core.Bool.{false}
use native.Mathlib.Omega.{arith}
use Rattle.model.specs.rules.Base.{choose◌then◌else◌}
use Rattle.model.proofs.Tests.{impossible}
use Rattle.buffer.specs.Writes.{measure}
use Rattle.buffer.proofs.WriteProgress.{put_measured}
use Rattle.record_writer.proofs.Joined.{written_none, room_cell, put_cell, put_all}
use Rattle.record_writer.proofs.clean.quoted.measure.Goals as goal

pub loop-n-init : goal.loop-n-init
loop-n-init c = written_none false (record { measured = λ _. c.requires.at_bound; inside = λ e. impossible e })

pub measured-o-requires : goal.measured-o-requires
measured-o-requires c = (room_cell c.requires.spans.with_ends c.loop-n.invariant (omega arith)).measured refl

pub loop-n-preserved : goal.loop-n-preserved
loop-n-preserved c =
    put_cell c.requires.spans.with_ends c.loop-n.invariant (omega arith)
    (put_measured refl (c.measured-o.ensures ∙ ap (λ (k : ℕ). measure (c.loop-n.o + k)) c.column_length.ensures) refl)

pub returns : goal.returns
unfolding choose◌then◌else◌
returns c = (put_all c.requires.spans.with_ends c.loop-n.invariant (omega arith)).place
