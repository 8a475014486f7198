-- `buffer::blocks::copy_long` meets its contract: blocks of eight up to the last, which overlaps them.
use mathlib.Core.Path.{◌≡◌, refl}
use Prim.Native.Nat.{ℕ, ◌+◌, ◌-◌, ◌≤◌}
use native.Mathlib.Omega.{arith}
use lib.ListN.{length, drop}
use Rattle.model.specs.rules.Base.{Bytes}
use Rattle.model.specs.rules.Api.{slice}
use Rattle.buffer.specs.Written.{written}
use Rattle.buffer.proofs.BlockProgress.{Writing}
use Rattle.buffer.proofs.Overlaps.{next_block, last_block}
use Rattle.buffer.proofs.blocks.copy_long.Goals.{else-loop-i-test, then-loop-i-test+else-last-i-gt8}
use Rattle.buffer.proofs.blocks.copy_long.Goals as goal

pub loop-i-preserved : goal.loop-i-preserved
loop-i-preserved c = (
  omega (arith, c.loop-i-test.true),
  next_block c.loop-i.i c.loop-i.invariant.1 8 (omega (arith, c.loop-i-test.true)) (omega arith)
      c.copy_block.ensures,
)

-- where the blocks end, at most eight bytes before the end of the source
abbrev End : (old : Bytes) (at : ℕ) (src out : Bytes) → Type 0
End old at src out = (i : ℕ) × (i ≤ length src) × (length src - 8 ≤ i) × Writing old at src out (at + i) (drop i src)

last : {old : Bytes} {at : ℕ} {src out new : Bytes} → 8 ≤ length src → End old at src out
    → new ≡ written out (at + (length src - 8)) (slice src (length src - 8) (length src - 8 + 8)) → new ≡ written old at src
last {at = at} {src = src} h end e = last_block end.0 end.3 8 (length src - 8) (refl {a = at + end.0}) end.2 end.1 (omega arith) e

pub returns : goal.returns
returns c =
    let end : End c.args.out.now c.args.at c.args.src.now c.loop-i-test.out =
    elim c.loop-i-test.branch [
      | else-loop-i-test w ↦ (c.loop-i.i, c.loop-i.invariant.0, omega (arith, w.loop-i-test.false), rw w.out-is c.loop-i.invariant.1)
      | then-loop-i-test+else-last-i-gt8 w ↦ (
        c.loop-i.i + 8,
        omega (arith, w.loop-i-test.true),
        omega arith,
        rw w.out-is (next_block c.loop-i.i c.loop-i.invariant.1 8 (omega (arith, w.loop-i-test.true)) (omega arith) w.copy_block.ensures),
      )
    ] in
    last c.requires.0 end c.copy_block-2.ensures
