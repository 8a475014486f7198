-- `cell_decoder::escape::low_at` meets its contract: after each test that fails nothing joins, and after the last there is a low
-- surrogate.
use native.Mathlib.Omega.{arith}
use Rattle.cell_decoder.specs.Strings.{UnitThere}
use Rattle.cell_decoder.proofs.Strings.{low_cut, low_other, low_short, low_below, low_above, low_there}
use Rattle.cell_decoder.proofs.escape.low_at.Goals as goal
use Rattle.cell_decoder.proofs.escape.low_at.Goals.{then-raw-i-lt6-via-then-raw-i-lt6, then-raw-i-lt6-via-else-raw-i-lt6+then-raw-i-ne92, then-raw-i-lt6-via-else-raw-i-lt6+else-raw-i-ne92+then-raw-i-ne117}

pub returns-then-raw-i-lt6 : goal.returns-then-raw-i-lt6
returns-then-raw-i-lt6 c =
    let raw = c.args.raw.now in
    let i = c.args.i in
    elim c.then-raw-i-lt6.branch [
      | then-raw-i-lt6-via-then-raw-i-lt6 w ↦ low_cut raw i w.if-raw-i-lt6.true
      | then-raw-i-lt6-via-else-raw-i-lt6+then-raw-i-ne92 w ↦ low_other raw i (omega arith) w.if-raw-i-ne92.true
      | then-raw-i-lt6-via-else-raw-i-lt6+else-raw-i-ne92+then-raw-i-ne117 w ↦ low_short raw i (omega arith) w.if-raw-i-ne92.false w.if-raw-i-ne117.true
    ]

pub returns-in-56320-to-57343 : goal.returns-in-56320-to-57343
returns-in-56320-to-57343 c =
    let there : UnitThere c.args.raw.now c.args.i =
    record { inside = omega arith; backslash = c.if-raw-i-ne92.false; letter = c.if-raw-i-ne117.false } in
    low_there c.args.raw.now c.args.i c.unit_at.result there c.unit_at.ensures.0 (omega arith) (omega arith)

pub returns-in_default : goal.returns-in_default
returns-in_default c =
    let there : UnitThere c.args.raw.now c.args.i =
    record { inside = omega arith; backslash = c.if-raw-i-ne92.false; letter = c.if-raw-i-ne117.false } in
    low_below c.args.raw.now c.args.i there (omega (arith, c.unit_at.ensures.0))

pub returns-in_default-2 : goal.returns-in_default-2
returns-in_default-2 c =
    let there : UnitThere c.args.raw.now c.args.i =
    record { inside = omega arith; backslash = c.if-raw-i-ne92.false; letter = c.if-raw-i-ne117.false } in
    low_above c.args.raw.now c.args.i there (omega (arith, c.unit_at.ensures.0))
