-- `messages::refusal::write_number` meets its contract: the fewest digits that hold a number are its decimal text.
use mathlib.Core.Path.{◌≡◌, ap, ◌∙◌}
use native.Mathlib.Omega.{arith}
use lib.ListN.{length, take}
use Rattle.messages.specs.Sentences.{decimal}
use Rattle.messages.proofs.SentenceLaws.{digits_decimal}
use Rattle.messages.proofs.refusal.write_number.Goals as goal

pub copy-requires : goal.copy-requires
copy-requires c =
    let spelt : take c.decimal-k.result c.decimal-k.new.out ≡ decimal c.args.n =
    c.decimal-k.ensures.digits ∙ digits_decimal _ _ (omega (arith, c.ranges)) c.decimal-k.ensures.len in
    omega (arith, ap length spelt, c.requires)

pub returns : goal.returns
returns c =
    let spelt : take c.decimal-k.result c.decimal-k.new.out ≡ decimal c.args.n =
    c.decimal-k.ensures.digits ∙ digits_decimal _ _ (omega (arith, c.ranges)) c.decimal-k.ensures.len in
    rw (← spelt) c.copy.ensures
