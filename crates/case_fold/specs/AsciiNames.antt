-- What a comparison of two names without the table of case may return.
use Rattle.std.specs.Prelude.{◌≡◌, Bool, Option, IfSome}
use Rattle.model.specs.rules.Base.{Bytes, same}
use Rattle.model.specs.rules.Names.{fold_name}

-- one-sided: where it finds a result, that is how the folded names compare (§4.10)
abbrev pub ComparedAsAscii : Bytes → Bytes → Option Bool → Type 0
ComparedAsAscii a b result = IfSome result (λ r. same (fold_name a) (fold_name b) ≡ r)
