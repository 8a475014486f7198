-- `piece_converter::lent::begin` meets its contract: the check by the numbers is the one that the contract of a call names, and a state out
-- of bounds is one that no calls made.
use native.Mathlib.Omega.{arith}
use mathlib.Core.Path.{◌≡◌, sym, subst, ◌∙◌}
use borrow.Author.Rules.{rules}
use Rattle.std.specs.Prelude.{Ok, Err}
use Rattle.model.specs.rules.Api.{unwritten}
use Rattle.model.proofs.Tests.{impossible}
use Rattle.codes.specs.Named.{text_answer}
use Rattle.piece_state.specs.Checks.{check_now}
use Rattle.piece_state.specs.declared.place.Place.{Place}
use Rattle.piece_step.specs.Steps.{InBounds, current_in}
use Rattle.piece_converter.specs.States.{place_of, stored_end, stored_fault}
use Rattle.piece_converter.specs.Contract.{converter_of}
use Rattle.piece_converter.proofs.Contract.{check_of, refused_called, lost_called}
use Rattle.piece_converter.proofs.lent.begin.Goals as goal

pub returns-in_err-d-clause-refused : goal.returns-in_err-d-clause-refused
returns-in_err-d-clause-refused c = λ e h call bytes names out size room.
    let a = c.args in
    let s = converter_of a.source a.target a.numbers.now a.ends.now a.name_ends.now bytes names in
    let checked : check_now a.source a.target (stored_fault a.numbers.now) (stored_end a.numbers.now) a.piece a.room ≡ Err e = search (rules, h) in
    let refused : check_of s call ≡ Err e = rw size (rw room checked) in
    refused_called s call out e refused

pub returns-then-not-is_in_bounds-clause-refused : goal.returns-then-not-is_in_bounds-clause-refused
returns-then-not-is_in_bounds-clause-refused c = λ e h call bytes names out size room.
    let a = c.args in
    let s = converter_of a.source a.target a.numbers.now a.ends.now a.name_ends.now bytes names in
    let d = c.in_ok-d.d in
    let t = c.in_ok-d.t in
    let checked : check_now a.source a.target (stored_fault a.numbers.now) (stored_end a.numbers.now) a.piece a.room ≡ Ok (d, t) = search rules in
    let taken : check_of s call ≡ Ok (d, t) = rw size (rw room checked) in
    let place : c.place_in-p.result ≡ place_of s = c.place_in-p.ensures in
    lost_called s d t out call (text_answer (unwritten e)) taken (omega arith) λ inside.
    let inside_here = subst (λ (p : Place). InBounds p (current_in p s.name_ends s.ends)) (sym place) inside in
    impossible (sym c.if-not-is_in_bounds.true ∙ c.is_in_bounds.ensures.value inside_here)
