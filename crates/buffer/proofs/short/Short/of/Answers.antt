use Rattle.buffer.proofs.ShortTexts.{is_padded, at_beginning}
use Rattle.buffer.proofs.short.Short.of.Goals as goal

pub invariant_of-result : goal.invariant_of-result
invariant_of-result g c = is_padded g.row.N c.copy-size.result c.args.text.now c.copy-size.new.out c.requires c.copy-size.ensures

pub returns : goal.returns
returns g c = at_beginning g.row.N c.copy-size.result c.args.text.now c.copy-size.new.out c.requires c.copy-size.ensures
