-- `record_target::check_size` meets its contract: its tests are the definition's.
use native.Mathlib.Omega.{arith}
use lib.ListN.{length}
use Rattle.record_target.proofs.Reasons.{measure_is, measure_over, text_too_long, output_too_long, fits}
use Rattle.record_target.proofs.check_size.Goals as goal

pub returns-then-end-gt-MAX_RECORD : goal.returns-then-end-gt-MAX_RECORD
returns-then-end-gt-MAX_RECORD c text e =
    let a = c.args in
    text_too_long a.t a.written text (measure_over (length text) a.end e (omega arith))

pub with_ending-length-requires : goal.with_ending-length-requires
with_ending-length-requires c = omega (arith, c.if-end-gt-MAX_RECORD.false)

pub overflow_sub-written : goal.overflow_sub-written
overflow_sub-written c = omega (arith, c.requires)

pub returns-then-written-length : goal.returns-then-written-length
returns-then-written-length c text e =
    let a = c.args in
    let short = c.if-end-gt-MAX_RECORD.false in
    let is = measure_is (length text) a.end e (omega (arith, short)) in
    output_too_long a.t a.written text (omega (arith, is, short))
    (omega (arith, is, c.if-written-length.true, c.with_ending-length.ensures, c.requires))

pub returns : goal.returns
returns c text e =
    let a = c.args in
    let short = c.if-end-gt-MAX_RECORD.false in
    let is = measure_is (length text) a.end e (omega (arith, short)) in
    fits a.t a.written text (omega (arith, is, short)) _ (omega (arith, is, c.with_ending-length.ensures))
    (omega (arith, c.if-written-length.false, c.with_ending-length.ensures, c.requires))
