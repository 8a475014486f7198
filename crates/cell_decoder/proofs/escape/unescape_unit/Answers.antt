-- `cell_decoder::escape::unescape_unit` meets its contract: a code unit alone is its own code point, and a surrogate pair is one.
use native.Mathlib.Omega.{arith}
use Rattle.cell_decoder.proofs.Strings.{goes_calm, goes_lone, goes_pair}
use Rattle.cell_decoder.proofs.escape.unescape_unit.Goals as goal
use Rattle.cell_decoder.proofs.escape.unescape_unit.Goals.{then-contains+in_default, else-contains}

pub returns-in-Some : goal.returns-in-Some
returns-in-Some c =
    goes_pair c.args.raw.now c.args.i c.unit_at-h.result c.requires c.unit_at-h.ensures.0
    c.unit_at-h.ensures.1 c.in-Some.l c.joined.result (grind arith) c.in-Some.ensures c.joined.ensures c.pack.ensures

pub returns : goal.returns
returns c =
    let u = c.unit_at-h in
    elim c.if-contains.branch [
      | then-contains+in_default w ↦ goes_lone c.args.raw.now c.args.i u.result c.requires u.ensures.0 u.ensures.1 w.in_default.ensures c.pack-2.ensures
      | else-contains w ↦ goes_calm c.args.raw.now c.args.i u.result c.requires u.ensures.0 u.ensures.1 (grind arith) c.pack-2.ensures
    ]
