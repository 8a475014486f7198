-- `buffer::emit_byte` meets its contract: a store, or a sum alone.
use mathlib.Core.Path.{refl}
use native.Mathlib.Omega.{arith}
use Rattle.buffer.proofs.WriteProgress.{set_written, put_written, put_measured}
use Rattle.buffer.proofs.emit_byte.Goals as goal

pub returns-then-write : goal.returns-then-write
returns-then-write c =
    let a = c.args in
    put_written c.if-write.true (refl, set_written a.out.now a.o a.b (omega (arith, c.requires.inside c.if-write.true)))

pub returns : goal.returns
returns c = put_measured c.if-write.false c.measured.ensures refl
