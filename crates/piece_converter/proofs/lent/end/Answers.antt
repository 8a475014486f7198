-- `piece_converter::lent::end` meets its contract. The check by the numbers of the state is the one that the contract names. Where it refuses,
-- nothing changes. Where the call is taken, a state out of bounds is one that no calls made; and the run's answer is the machine's.
use Prim.Native.Nat.{ℕ}
use mathlib.Core.Path.{◌≡◌, refl, subst}
use mathlib.Core.List.{List, []}
use lib.ListN.{length}
use borrow.Author.Rules.{rules}
use Rattle.model.specs.rules.Base.{Bytes}
use Rattle.model.specs.rules.Dialect.{into}
use Rattle.model.specs.rules.Records.{Rec}
use Rattle.model.specs.rules.Ledger.{finish}
use Rattle.model.specs.laws.Scans.{Buffered}
use Rattle.std.specs.Prelude.{Ok}
use Rattle.piece_state.specs.declared.place.Place.{Place}
use Rattle.piece_step.specs.Calls.{Named, Begun, Finished}
use Rattle.piece_converter.specs.States.{place_of}
use Rattle.piece_converter.specs.Contract.{converter_of}
use Rattle.piece_converter.proofs.Contract.{check_of, end_called}
use Rattle.piece_converter.proofs.lent.end.Goals as goal

pub end_file-r-requires : goal.end_file-r-requires
end_file-r-requires c =
    record {
      bounds = (c.begin.ensures.taken c.in-Ok.d c.in-Ok.t c.in-Ok.p c.in-Ok.is).2;
      long_names = search rules;
      long_name_ends = search rules;
      long_bytes = search rules;
      long_ends = search rules;
    }

pub returns-in-Err : goal.returns-in-Err
returns-in-Err c =
    let a = c.args in
    rw c.refusal.ensures (c.begin.ensures.refused c.in-Err.e c.in-Err.is (finish (length a.out.now)) a.bytes.now a.names.now a.out.now refl refl)

pub returns-in-Ok : goal.returns-in-Ok
returns-in-Ok c =
    let a = c.args in
    let s = converter_of a.source a.target a.numbers.now a.ends.now a.name_ends.now a.bytes.now a.names.now in
    let call = finish (length a.out.now) in
    let d = c.in-Ok.d in
    let t = c.in-Ok.t in
    let begun = c.begin.ensures.taken d t c.in-Ok.p c.in-Ok.is in
    let taken : check_of s call ≡ Ok (d, t) = begun.0 in
    let place : c.in-Ok.p ≡ place_of s = begun.1 in
    let w = c.end_file-r in
    let name_ends' : List ℕ = w.new.name_ends in
    let ends' : List ℕ = w.new.ends in
    let out' : List ℕ = w.new.out in
    let finished =
    subst (λ (p : Place). (before : Bytes) (done : List Rec) (k : Buffered) →
    Begun d (into t) before [] p a.names.now a.name_ends.now a.bytes.now a.ends.now a.out.now done k →
    Finished d (into t) p done k a.out.now out' w.result × Named before a.names.now name_ends' done) place w.ensures.finished in
    let as_long : length out' ≡ length a.out.now = search rules in
    let saved = c.saved in
    rw saved.ensures.answer (rw saved.ensures.saved
    (end_called s d t a.out.now w.result ends' name_ends' a.bytes.now a.names.now out' w.ensures.length_in_bounds as_long taken finished))
