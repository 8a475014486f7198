-- `record_scanner::record_state::RecordState::one_more` meets its contract, by its flag.
use Prim.Native.Nat.{ℕ, ◌+◌}
use native.Mathlib.Omega.{arith}
use mathlib.Core.Path.{◌≡◌, refl}
use mathlib.Core.Bool.{Bool, true, false}
use mir.Val.{bool_byte}
use Rattle.model.specs.rules.Base.{choose◌then◌else◌}
use Rattle.record_scanner.specs.CurrentRecord.{one_more}
use Rattle.record_scanner.proofs.record_state.RecordState.one_more.Goals as goal

with_one : (closes : Bool) (n : ℕ) → n + bool_byte closes ≡ one_more closes n
unfolding one_more choose◌then◌else◌
with_one true n = refl
with_one false n = omega arith

pub returns : goal.returns
returns c = rw c.from.ensures (with_one c.args.closes c.args.self.cells)
