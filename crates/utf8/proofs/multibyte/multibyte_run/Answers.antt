use Rattle.utf8.proofs.MultibyteRuns.{wide_none, wide_join}
use Rattle.utf8.proofs.multibyte.multibyte_run.Goals as goal
use Rattle.utf8.proofs.multibyte.multibyte_run.Goals.{in-Some+else-stop-first+else-s-first, in_default}

pub loop-next-init : goal.loop-next-init
loop-next-init c =
    elim c.match-two_byte_end.branch [
      | in-Some+else-stop-first+else-s-first w ↦ rw w.i-is (wide_join w.in-Some.ensures.1 w.two_byte_words-i.ensures)
      | in_default w ↦ rw w.i-is (wide_none c.args.s.now c.args.at c.args.stop c.requires.0)
    ]

pub loop-next-preserved : goal.loop-next-preserved
loop-next-preserved c = wide_join c.loop-next.invariant c.in-Some-char_end.ensures.1
