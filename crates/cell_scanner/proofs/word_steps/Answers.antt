use Prim.Native.Nat.{ℕ, ◌+◌, ◌-◌, ◌*◌, ◌/◌, ◌<◌}
use native.Mathlib.Omega.{arith}
use mathlib.Core.Path.{◌≡◌, ap, ◌∙◌}
use Rattle.model.specs.rules.Api.{slice}
use Rattle.cell_scanner.specs.Run.{leading}
use Rattle.cell_scanner.proofs.Runs.{part_short}
use Rattle.cell_scanner.proofs.WordSteps.{run_goes_on, run_ends}
use Rattle.cell_scanner.proofs.word_steps.Goals as goal

pub returns-then-flags-ne0 : goal.returns-then-flags-ne0
returns-then-flags-ne0 c =
    let a = c.args in
    let i : ℕ = a.at + 8 * c.loop-words.words in
    let ends =
    run_ends a.s.now i a.stop a.p a.q _ _ (omega arith) c.word.ensures
    c.unordinary-flags.ensures c.if-flags-ne0.true in
    let rest : c.before_flag.result ≡ leading a.p a.q (slice a.s.now i a.stop) = c.before_flag.ensures ∙ ends.0 in
    let less : leading a.p a.q (slice a.s.now i a.stop) < 8 = ends.1 in
    (omega arith, omega arith)

pub loop-words-preserved : goal.loop-words-preserved
loop-words-preserved c =
    let a = c.args in
    let i : ℕ = a.at + 8 * c.loop-words.words in
    let on =
    run_goes_on a.s.now i a.stop a.p a.q _ _ (omega arith) c.word.ensures
    c.unordinary-flags.ensures c.if-flags-ne0.false in
    let next : i + 8 ≡ a.at + 8 * (c.loop-words.words + 1) = omega arith in
    let rest = ap (λ (k : ℕ). leading a.p a.q (slice a.s.now k a.stop)) next in
    omega arith

pub returns : goal.returns
returns c =
    let a = c.args in
    let words : c.loop-words.words ≡ (a.stop - a.at) / 8 = omega arith in
    let i : ℕ = a.at + 8 * ((a.stop - a.at) / 8) in
    let short = part_short a.p a.q a.s.now i a.stop (omega arith) c.requires.1 in
    let run : leading a.p a.q (slice a.s.now a.at a.stop) ≡ 8 * ((a.stop - a.at) / 8) + leading a.p a.q (slice a.s.now i a.stop) =
    rw words at c.loop-words.invariant in
    (omega arith, omega arith)
