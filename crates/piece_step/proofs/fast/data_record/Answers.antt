-- `piece_step::fast::data_record` meets its contract: a record of the fast scan is one of the reader, and all else falls back.
use Prim.Native.Nat.{◌≤◌}
use native.Mathlib.Omega.{arith}
use mathlib.Core.Path.{refl, ◌∙◌}
use Rattle.model.specs.rules.Report.{MAXFILE}
use Rattle.piece_step.specs.FastSteps.{nothing_in_bounds, nothing}
use Rattle.piece_step.proofs.FastCells.{cells_there, clean_there}
use Rattle.piece_step.proofs.FastSteps.{next_file, writes_bounds, writes_turns}
use Rattle.piece_step.proofs.fast.data_record.Goals as goal

pub returns-then-piece-i : goal.returns-then-piece-i
returns-then-piece-i c = record { fast_step_in_bounds = nothing_in_bounds refl; by_index = λ bytes ends done k hold. nothing }

pub scan-requires : goal.scan-requires
scan-requires c =
    let r = c.requires.fast_step_ready in
    let l = c.requires.scratch in
    let at = r.at in
    let offset = r.offset in
    record {
      from_in_bounds = (r.inside, omega arith, omega arith, omega arith);
      room_in_bounds = (omega (arith, l.long_starts), omega (arith, l.long_stops), omega (arith, l.long_kinds));
    }

pub finish_record-requires : goal.finish_record-requires
finish_record-requires c =
    let r = c.requires.fast_step_ready in
    let l = c.requires.scratch in
    let b = c.is_between.ensures c.if-not-is_between.false in
    let records : c.args.p.records ≤ c.args.p.offset = r.records in
    let offset : c.args.p.offset ≤ MAXFILE = r.offset in
    record {
      scratch = record {
        long_starts = c.starts-1.given ∙ l.long_starts;
        long_stops = c.stops-1.given ∙ l.long_stops;
        long_kinds = c.kinds-1.given ∙ l.long_kinds;
      };
      cells = cells_there _ _ _ _ _ b.state c.requires.fast_step_ready.inside c.scan.ensures c.requires.scratch c.in_ok-r.was;
      clean_in = clean_there _ _ _ _ _ b.state c.requires.fast_step_ready.inside c.scan.ensures c.requires.scratch c.in_ok-r.was;
      written_bound = (
        r.before,
        omega arith,
        next_file c.args.t c.requires.fast_step_ready (c.is_between.ensures c.if-not-is_between.false)
            c.scan.ensures c.requires.scratch c.in_ok-r.was,
        r.room,
      );
      fact = b.later;
    }

pub returns-in_err-r : goal.returns-in_err-r
returns-in_err-r c = rw c.from_residual.ensures (record { fast_step_in_bounds = nothing_in_bounds refl; by_index = λ bytes ends done k hold. nothing })

pub returns : goal.returns
returns c =
    let w = c.finish_record.ensures in
    record {
      fast_step_in_bounds = writes_bounds c.args.t c.requires.fast_step_ready (c.is_between.ensures c.if-not-is_between.false) c.scan.ensures c.requires.scratch
          c.in_ok-r.was w;
      by_index = λ bytes ends done k hold. writes_turns c.args.t c.requires.fast_step_ready
          (c.is_between.ensures c.if-not-is_between.false) c.scan.ensures c.requires.scratch c.in_ok-r.was hold w;
    }
