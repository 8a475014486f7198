-- `record_fast::record_end_at` meets its contract: an LF, TDIF's CR, or a CRLF.
use Prim.Native.Nat.{ℕ}
use mathlib.Core.Bool.{true}
use mathlib.Core.Logic.{inl, inr}
use mathlib.Core.Path.{◌≡◌, ap, ◌∙◌}
use Rattle.model.specs.declared.Dialect.{Dialect}
use Rattle.model.specs.declared.FileState.TheVariants.{Cr}
use Rattle.model.specs.declared.ByteRole.TheVariants.{Tail}
use Rattle.std.specs.Prelude.{Ok}
use Rattle.model.specs.rules.Base.{CR}
use Rattle.model.specs.rules.File.{after_cell}
use Rattle.record_fast.specs.FastScan.{at_once, nowhere}
use Rattle.record_fast.proofs.Endings.{after_lf, after_cr_csvj, after_cr_tdif, after_cr_plus}
use Rattle.record_fast.proofs.record_end_at.Goals as goal

pub returns-in-10 : goal.returns-in-10
returns-in-10 c =
    let a = c.args in
    at_once (ap (λ (b : ℕ). after_cell a.d true b) c.in-10.is ∙ after_lf a.d)

pub returns-in-Csvj : goal.returns-in-Csvj
returns-in-Csvj c =
    let a = c.args in
    let cr : after_cell a.d true CR ≡ Ok (Cr, Tail true) =
    elim c.in-Csvj.is [
      | inl e ↦ ap (λ (x : Dialect). after_cell x true CR) e ∙ after_cr_csvj
      | inr e ↦ ap (λ (x : Dialect). after_cell x true CR) e.1 ∙ after_cr_plus e.0
    ] in
    c.crlf_end.ensures a.d (ap (λ (b : ℕ). after_cell a.d true b) c.in-13.is ∙ cr)

pub returns-in-Tdif : goal.returns-in-Tdif
returns-in-Tdif c =
    let a = c.args in
    at_once (ap (λ (b : ℕ). after_cell a.d true b) c.in-13.is ∙ ap (λ (x : Dialect). after_cell x true CR)
    c.in-Tdif.is ∙ after_cr_tdif)

pub returns-in_default : goal.returns-in_default
returns-in_default c = nowhere
