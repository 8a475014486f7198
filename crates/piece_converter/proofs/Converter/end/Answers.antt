-- `piece_converter::Converter::end` meets its contract: the lent call's, over the numbers of the fields.
use mathlib.Core.Path.{sym, subst}
use mathlib.Core.List.{List}
use Prim.Native.Nat.{ℕ}
use lib.ListN.{length}
use Rattle.model.specs.rules.Ledger.{finish}
use Rattle.piece_converter.specs.declared.Converter.{Converter}
use Rattle.piece_converter.specs.Contract.{converter_of, CallContract}
use Rattle.piece_converter.proofs.Converter.end.Goals as goal

pub returns : goal.returns
returns c =
    let a = c.args in
    let s = a.self in
    let call = c.end-answer in
    let after = converter_of s.source s.target call.new.numbers call.new.ends call.new.name_ends call.new.bytes call.new.names in
    let from_fields =
    subst
    (λ (n : List ℕ). CallContract (converter_of s.source s.target n s.ends s.name_ends s.bytes s.names) (finish (length a.out.now)) a.out.now call.result after call.new.out)
    c.numbers-numbers.ensures call.ensures in
    subst (λ (next : Converter). CallContract s (finish (length a.out.now)) a.out.now call.result next call.new.out) (sym c.with.ensures) from_fields
