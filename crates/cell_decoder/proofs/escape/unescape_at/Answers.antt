-- `cell_decoder::escape::unescape_at` meets its contract, by the bytes after the backslash.
use native.Mathlib.Omega.{arith}
use Rattle.cell_decoder.proofs.Strings.{proceeds_cut, proceeds_short, cut_backslash, cut_unit}
use Rattle.cell_decoder.proofs.escape.unescape_at.Goals as goal

pub returns-then-raw-i-lt2 : goal.returns-then-raw-i-lt2
returns-then-raw-i-lt2 c =
    proceeds_cut c.args.raw.now c.args.i c.requires.0
    (cut_backslash c.args.raw.now c.args.i c.requires.0 c.if-raw-i-lt2.true c.requires.1) c.end_of.ensures

pub returns-then-b-ne117 : goal.returns-then-b-ne117
returns-then-b-ne117 c =
    proceeds_short c.args.raw.now c.args.i c.short_escape.result (omega arith) c.requires.1
    c.if-b-ne117.true c.short_escape.ensures c.byte.ensures

pub returns-then-raw-i-lt6 : goal.returns-then-raw-i-lt6
returns-then-raw-i-lt6 c =
    proceeds_cut c.args.raw.now c.args.i c.requires.0
    (cut_unit c.args.raw.now c.args.i (omega arith) c.if-raw-i-lt6.true c.requires.1 c.if-b-ne117.false) c.end_of-then-raw-i-lt6.ensures
