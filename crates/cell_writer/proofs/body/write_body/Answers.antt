use mathlib.Core.Path.{◌≡◌, refl, sym, ap, ◌∙◌}
use mathlib.Core.Bool.{Bool, ◌||◌}
use mathlib.Core.List.{◌++◌}
use Prim.Native.Nat.{◌-◌}
use native.Mathlib.Omega.{arith}
use lib.ListN.{take, drop}
use Rattle.model.specs.rules.Utf8.{holds_lone}
use Rattle.buffer.proofs.WriteProgress.{Emitting, emitting, room_next, put_next, put_whole, room_as, emitted_as}
use Rattle.cell_decoder.specs.FirstByte.{content_in}
use Rattle.cell_writer.specs.Units.{body_text}
use Rattle.cell_writer.specs.Contents.{content_from}
use Rattle.cell_writer.proofs.Contents.{part_inside, content_end}
use Rattle.cell_writer.proofs.Bodies.{text_part, lone_part, text_end, lone_end, lone_first, lone_step, lone_done}
use Rattle.cell_writer.proofs.body.write_body.Goals as goal

pub loop-i-init : goal.loop-i-init
loop-i-init c =
    let e = c.content_start-i.ensures in
    (rw e (emitting _ c.requires), rw e (lone_first (content_in c.args.e.spelling c.args.e.raw.now)))

pub slice_bounds-emit-end : goal.slice_bounds-emit-end
slice_bounds-emit-end c =
    let a = c.args in
    part_inside a.e.raw.now c.loop-i.i c.plain_run-j.result c.quote_of-p.result
    c.quote_in-q.result c.quote_in-q.result c.plain_run-j.ensures (omega (arith, c.loop-i-test.true))

pub emit-o-requires : goal.emit-o-requires
emit-o-requires c =
    let run-next : (let l = c.loop-i in let a = c.args in Emitting a.write a.out.now a.at (body_text a.t (content_in a.e.spelling a.e.raw.now)) l.out l.o (take (c.plain_run-j.result - l.i) (drop l.i a.e.raw.now) ++ body_text a.t (content_from a.e.spelling a.e.raw.now c.plain_run-j.result))) =
    let a = c.args in
    let source = c.quote_in-q in
    let target = c.quote_of-p in
    rw (text_part a.e.raw.now c.loop-i.i c.plain_run-j.result target.result source.result a.e.spelling source.ensures
    c.plain_run-j.ensures a.t target.ensures) at c.loop-i.invariant.0 in
    let l = c.loop-i in
    let a = c.args in
    room_next (take (c.plain_run-j.result - l.i) (drop l.i a.e.raw.now))
    (body_text a.t (content_from a.e.spelling a.e.raw.now c.plain_run-j.result)) run-next

pub returns-then-raw-j : goal.returns-then-raw-j
returns-then-raw-j c =
    let run-tells : (let l = c.loop-i in let a = c.args in holds_lone (content_in a.e.spelling a.e.raw.now) ≡ (l.lone || holds_lone (content_from a.e.spelling a.e.raw.now c.plain_run-j.result))) =
    let a = c.args in
    let source = c.quote_in-q in
    let target = c.quote_of-p in
    c.loop-i.invariant.1
    ∙ ap (λ (x : Bool). c.loop-i.lone || x) (lone_part a.e.raw.now c.loop-i.i c.plain_run-j.result target.result source.result
    a.e.spelling source.ensures c.plain_run-j.ensures) in
    let run-next : (let l = c.loop-i in let a = c.args in Emitting a.write a.out.now a.at (body_text a.t (content_in a.e.spelling a.e.raw.now)) l.out l.o (take (c.plain_run-j.result - l.i) (drop l.i a.e.raw.now) ++ body_text a.t (content_from a.e.spelling a.e.raw.now c.plain_run-j.result))) =
    let a = c.args in
    let source = c.quote_in-q in
    let target = c.quote_of-p in
    rw (text_part a.e.raw.now c.loop-i.i c.plain_run-j.result target.result source.result a.e.spelling source.ensures
    c.plain_run-j.ensures a.t target.ensures) at c.loop-i.invariant.0 in
    let stop-next : (let a = c.args in Emitting a.write a.out.now a.at (body_text a.t (content_in a.e.spelling a.e.raw.now)) c.emit-o.new.out c.emit-o.result (body_text a.t (content_from a.e.spelling a.e.raw.now c.plain_run-j.result))) =
    let a = c.args in
    put_next (take (c.plain_run-j.result - c.loop-i.i) (drop c.loop-i.i a.e.raw.now)) run-next c.emit-o.ensures in
    let l = c.loop-i in
    let a = c.args in record {
      written_at = put_whole (rw (text_end a.t (content_end a.e.spelling a.e.raw.now c.plain_run-j.result c.if-raw-j.true)) at stop-next);
      lone_value = lone_done l.lone run-tells (lone_end (content_end a.e.spelling a.e.raw.now c.plain_run-j.result c.if-raw-j.true));
    }

pub emit-o-requires-in-loop-i : goal.emit-o-requires-in-loop-i
emit-o-requires-in-loop-i c =
    let run-next : (let l = c.loop-i in let a = c.args in Emitting a.write a.out.now a.at (body_text a.t (content_in a.e.spelling a.e.raw.now)) l.out l.o (take (c.plain_run-j.result - l.i) (drop l.i a.e.raw.now) ++ body_text a.t (content_from a.e.spelling a.e.raw.now c.plain_run-j.result))) =
    let a = c.args in
    let source = c.quote_in-q in
    let target = c.quote_of-p in
    rw (text_part a.e.raw.now c.loop-i.i c.plain_run-j.result target.result source.result a.e.spelling source.ensures
    c.plain_run-j.ensures a.t target.ensures) at c.loop-i.invariant.0 in
    let stop-next : (let a = c.args in Emitting a.write a.out.now a.at (body_text a.t (content_in a.e.spelling a.e.raw.now)) c.emit-o.new.out c.emit-o.result (body_text a.t (content_from a.e.spelling a.e.raw.now c.plain_run-j.result))) =
    let a = c.args in
    put_next (take (c.plain_run-j.result - c.loop-i.i) (drop c.loop-i.i a.e.raw.now)) run-next c.emit-o.ensures in
    let x = c.stop_text-x in
    let a = c.args in
    room_as c.as_slice.ensures.text (room_next x.result.text (body_text a.t (content_from a.e.spelling a.e.raw.now x.result.next)) (rw x.ensures.stands at stop-next))

pub loop-i-preserved : goal.loop-i-preserved
loop-i-preserved c =
    let run-tells : (let l = c.loop-i in let a = c.args in holds_lone (content_in a.e.spelling a.e.raw.now) ≡ (l.lone || holds_lone (content_from a.e.spelling a.e.raw.now c.plain_run-j.result))) =
    let a = c.args in
    let source = c.quote_in-q in
    let target = c.quote_of-p in
    c.loop-i.invariant.1
    ∙ ap (λ (x : Bool). c.loop-i.lone || x) (lone_part a.e.raw.now c.loop-i.i c.plain_run-j.result target.result source.result
    a.e.spelling source.ensures c.plain_run-j.ensures) in
    let run-next : (let l = c.loop-i in let a = c.args in Emitting a.write a.out.now a.at (body_text a.t (content_in a.e.spelling a.e.raw.now)) l.out l.o (take (c.plain_run-j.result - l.i) (drop l.i a.e.raw.now) ++ body_text a.t (content_from a.e.spelling a.e.raw.now c.plain_run-j.result))) =
    let a = c.args in
    let source = c.quote_in-q in
    let target = c.quote_of-p in
    rw (text_part a.e.raw.now c.loop-i.i c.plain_run-j.result target.result source.result a.e.spelling source.ensures
    c.plain_run-j.ensures a.t target.ensures) at c.loop-i.invariant.0 in
    let stop-next : (let a = c.args in Emitting a.write a.out.now a.at (body_text a.t (content_in a.e.spelling a.e.raw.now)) c.emit-o.new.out c.emit-o.result (body_text a.t (content_from a.e.spelling a.e.raw.now c.plain_run-j.result))) =
    let a = c.args in
    put_next (take (c.plain_run-j.result - c.loop-i.i) (drop c.loop-i.i a.e.raw.now)) run-next c.emit-o.ensures in
    let x = c.stop_text-x in
    let t = x.ensures in
    let a = c.args in (
      put_next x.result.text (rw t.stands at stop-next) (emitted_as (sym c.as_slice.ensures.text) c.emit-o-in-loop-i.ensures),
      lone_step c.loop-i.lone x.result.lone (holds_lone (content_from a.e.spelling a.e.raw.now x.result.next))
          run-tells t.tells refl,
    )

pub returns : goal.returns
returns c =
    let l = c.loop-i in
    let a = c.args in record {
      written_at = put_whole (rw (text_end a.t (content_end a.e.spelling a.e.raw.now l.i c.loop-i-test.false)) at l.invariant.0);
      lone_value = lone_done l.lone l.invariant.1 (lone_end (content_end a.e.spelling a.e.raw.now l.i c.loop-i-test.false));
    }
