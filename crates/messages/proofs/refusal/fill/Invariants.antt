-- `messages::refusal::fill` meets its contract. The invariant: the text of the rest of the form is still to be written.
use lib.ListN.{drop}
use Rattle.buffer.proofs.WriteProgress.{Writing}
use Rattle.messages.specs.Sentences.{filled}
use Rattle.messages.proofs.refusal.fill.Given as goal

abbrev pub invariant-loop-b : goal.invariant-loop-b
invariant-loop-b l = Writing l.initial.out 0 (filled l.e l.form) l.out l.o (filled l.e (drop l.b-index l.form))
