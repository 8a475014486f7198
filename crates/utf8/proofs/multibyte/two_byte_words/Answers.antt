use native.Mathlib.Omega.{arith}
use mathlib.Core.Path.{◌≡◌}
use Rattle.model.specs.rules.Base.{choose◌then◌else◌}
use Rattle.swar.specs.Words.{zero_bytes, bytes_of, two_byte_prefix}
use Rattle.utf8.proofs.MultibyteRuns.{wide_none, wide_join, pairs_run}
use Rattle.utf8.proofs.multibyte.two_byte_words.Goals as goal

pub loop-i-init : goal.loop-i-init
loop-i-init c = wide_none c.args.s.now c.args.at c.args.stop c.requires.0

pub loop-i-preserved : goal.loop-i-preserved
unfolding zero_bytes bytes_of choose◌then◌else◌
loop-i-preserved c =
    let eight : 8 ≡ two_byte_prefix (bytes_of 8 c.word.result) = rw c.if-no_two_bytes-eq0.true at c.no_two_bytes.ensures in
    wide_join c.loop-i.invariant (pairs_run (omega arith) c.word.ensures eight (omega arith))
