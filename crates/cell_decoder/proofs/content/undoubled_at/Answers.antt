-- `cell_decoder::content::undoubled_at` meets its contract, by the bytes there.
use native.Mathlib.Omega.{arith}
use Rattle.cell_decoder.proofs.DoubledQuotes.{at_end, at_close, at_last, there_other, there_double}
use mathlib.Core.Bool.{false}
use Rattle.cell_decoder.proofs.content.undoubled_at.Goals as goal
use Rattle.cell_decoder.proofs.content.undoubled_at.Goals.{then-raw-i-lt2-via-then-raw-i-lt2, then-raw-i-lt2-via-else-raw-i-lt2+then-raw-i-2}

pub returns-then-raw-i : goal.returns-then-raw-i
returns-then-raw-i c = at_end c.args.q false c.args.raw.now c.args.i c.if-raw-i.true

pub returns-then-b-q : goal.returns-then-b-q
returns-then-b-q c = there_other c.args.q c.args.raw.now c.args.i c.if-raw-i.false c.if-b-q.true

pub returns-then-raw-i-lt2 : goal.returns-then-raw-i-lt2
returns-then-raw-i-lt2 c =
    let a = c.args in
    elim c.then-raw-i-lt2.branch [
      | then-raw-i-lt2-via-then-raw-i-lt2 w ↦ at_last a.q a.raw.now a.i (omega arith) c.if-b-q.false (omega arith)
      | then-raw-i-lt2-via-else-raw-i-lt2+then-raw-i-2 w ↦ at_close a.q a.raw.now a.i (omega arith) c.if-b-q.false (omega arith) w.if-raw-i-2.true
    ]

pub returns : goal.returns
returns c = there_double c.args.q c.args.raw.now c.args.i c.if-raw-i.false c.if-b-q.false (omega arith) c.if-raw-i-2.false
