-- The cells are checked for what writing requires, and then have the kinds of their bytes.
use native.Mathlib.Omega.{arith}
use mathlib.Core.Path.{refl, sym, ap, subst, ◌∙◌}
use mathlib.Core.List.{List}
use lib.ListN.{length}
use Rattle.model.specs.rules.Dialect.{into}
use Rattle.model.specs.rules.Text.{Value}
use Rattle.model.proofs.Tests.{impossible}
use Rattle.piece_record.specs.Completion.{fault_at, text_at, FinishSound, not_encoded, ruled}
use Rattle.piece_record.proofs.BufferedCells.{starts_stand, kinds_made, made_cells, made_values, kinds_count}
use Rattle.piece_record.proofs.complete_spans.Goals as goal

pub may_be_written-requires : goal.may_be_written-requires
may_be_written-requires c = c.requires.in_order

pub returns-then-not-may_be_written : goal.returns-then-not-may_be_written
returns-then-not-may_be_written c =
    let asked = c.may_be_written in
    not_encoded refl (λ f. impossible (sym c.if-not-may_be_written.true ∙ asked.ensures.value f)) refl

pub kinds_of-requires : goal.kinds_of-requires
kinds_of-requires c =
    let a = c.args in
    let few = c.requires.ends_len_bound.0 in
    let long = c.requires.kinds_len in
    record { spans_in = starts_stand a.d a.bytes.now a.starts.now a.ends.now c.requires.starts_value c.requires.in_order; n_in_bounds = omega arith }

pub slice_bounds-finish-end : goal.slice_bounds-finish-end
slice_bounds-finish-end c =
    let few = c.requires.ends_len_bound.0 in
    let long = c.requires.kinds_len in
    omega arith

pub slice_bounds-finish-end-2 : goal.slice_bounds-finish-end-2
slice_bounds-finish-end-2 c =
    let a = c.args in
    sym
    (ap length
    (kinds_made a.d a.bytes.now a.starts.now a.ends.now c.requires.starts_value _ _
    c.kinds_of.ensures) ∙ kinds_count a.d a.bytes.now 0 a.ends.now)

pub finish-requires : goal.finish-requires
finish-requires c =
    let a = c.args in
    let asked = c.may_be_written in
    let w = asked.ensures.ed_followed c.if-not-may_be_written.false in
    record {
      cells = made_cells a.d a.bytes.now a.starts.now a.ends.now c.requires.starts_value _ _
          c.kinds_of.ensures c.requires.ends_len_bound.1 c.requires.in_order w;
      written_bound = (c.requires.ends_len_bound.2, c.requires.ends_len_bound.3);
    }

pub returns : goal.returns
returns c =
    let a = c.args in
    let f = c.finish in
    ruled (subst (λ (vs : List Value). FinishSound (fault_at a.d (into a.t) a.p vs) (text_at (into a.t) a.p vs) a.o
    a.out.now f.new.out f.result)
    (made_values a.d a.bytes.now a.starts.now a.ends.now c.requires.starts_value _ _
    c.kinds_of.ensures)
    f.ensures)
