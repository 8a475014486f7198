use mathlib.Core.List.{◌∷◌}
use Prim.Native.Nat.{◌+◌}
use native.Mathlib.Omega.{arith}
use lib.ListN.{get_or}
use Rattle.cell_decoder.specs.Strings.{string_from}
use Rattle.cell_decoder.proofs.Strings.{string_end, string_quote, string_byte, stepped}
use Rattle.buffer.proofs.WriteProgress.{Writing, here, store, done, filled}
use Rattle.cell_decoder.proofs.content.write_string.Goals as goal

pub returns-then-b-eq34 : goal.returns-then-b-eq34
returns-then-b-eq34 c =
    let a = c.args in
    let all = rw (string_quote a.raw.now c.loop-i.i c.loop-i-test.true c.if-b-eq34.true) at c.loop-i.invariant in
    record { size = omega (arith, (done all).0); text = filled all }

pub loop-i-preserved-then-b-eq92 : goal.loop-i-preserved-then-b-eq92
loop-i-preserved-then-b-eq92 c = stepped _ _ c.loop-i.invariant c.unescape_at-p.ensures c.as_slice.ensures.text c.copy-o.ensures

pub bounds-out-o : goal.bounds-out-o
bounds-out-o c =
    let now-left : (let raw = c.args.raw.now in let l = c.loop-i in Writing c.args.out.now 0 (string_from raw 1) l.out l.o (get_or raw l.i 0 ∷ string_from raw (l.i + 1))) =
    rw (string_byte c.args.raw.now c.loop-i.i c.loop-i-test.true
    c.if-b-eq34.false c.if-b-eq92.false) at c.loop-i.invariant in
    here (now-left)

pub loop-i-preserved : goal.loop-i-preserved
loop-i-preserved c =
    let now-left : (let raw = c.args.raw.now in let l = c.loop-i in Writing c.args.out.now 0 (string_from raw 1) l.out l.o (get_or raw l.i 0 ∷ string_from raw (l.i + 1))) =
    rw (string_byte c.args.raw.now c.loop-i.i c.loop-i-test.true
    c.if-b-eq34.false c.if-b-eq92.false) at c.loop-i.invariant in
    store (now-left)

pub returns : goal.returns
returns c =
    let all = rw (string_end c.args.raw.now c.loop-i.i c.loop-i-test.false) at c.loop-i.invariant in
    record { size = omega (arith, (done all).0); text = filled all }
