-- `swar::three` meets its contract: three bytes of the slice and five spaces, joined.
use Prim.Native.Nat.{ℕ, ◌<◌}
use lib.ListN.{get_or}
use native.Mathlib.Omega.{arith}
use Rattle.swar.proofs.WordReads.{three_bytes}
use Rattle.swar.proofs.three.Goals as goal

pub returns : goal.returns
returns c =
    let a = c.args in
    let byte : (j : ℕ) → get_or a.s.now j 0 < 0x100 = λ j. omega (arith, c.type_inv.s j) in
    three_bytes c.joined.result (get_or a.s.now a.i 0) (get_or a.s.now a.j 0) (get_or a.s.now a.k 0) (byte a.i)
    (byte a.j) (byte a.k) c.joined.ensures
