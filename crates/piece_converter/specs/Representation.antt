-- The stage of model's machine that a converter represents by its fields, and what the fields show of the bytes consumed.
use Rattle.std.specs.Prelude.{ℕ, ◌≡◌, List, length}
use Rattle.std.specs.Prelude.{None, Some}
use Rattle.model.specs.declared.Report.{Report}
use Rattle.model.specs.declared.Dialect.{Dialect}
use Rattle.model.specs.rules.Base.{Bytes}
use Rattle.model.specs.rules.Dialect.{dialect_of, into}
use Rattle.model.specs.rules.Report.{MAXRECORD, MAXCOLUMNS}
use Rattle.model.specs.rules.Records.{Rec, Read, going, read_bytes, records_of}
use Rattle.model.specs.laws.Scans.{Buffered}
use Rattle.model.specs.laws.Machine.{ConverterStage, taking, faulted, ended}
use Rattle.piece_state.specs.Checks.{StageEncoded}
use Rattle.piece_step.specs.Invariant.{read_at, columns_of, StateInvariant}
use Rattle.piece_step.specs.Steps.{InBounds, current_in}
use Rattle.piece_step.specs.Calls.{Named, Heads}
use Rattle.piece_converter.specs.States.{place_of}
use Rattle.piece_converter.specs.declared.Converter.{Converter}

-- ---- what a state shows

-- Once these bytes were consumed a state shows the records that they complete before any fault, the header too: their number, the
-- header's columns, and its names as they are encoded. After a fault or an accepted end it still does; a last record that only the end
-- completes is not among them (§15.2)
pub record StateShows (d t : Dialect) (consumed : Bytes) (s : Converter) : Type 0 where
  pub records : s.records ≡ length (records_of (read_bytes d (Some (into t)) consumed))
  pub columns : s.columns ≡ columns_of (records_of (read_bytes d (Some (into t)) consumed))
  pub names : Named consumed s.names s.name_ends (records_of (read_bytes d (Some (into t)) consumed))

-- no fault was met (§15.5)
abbrev pub Unfaulted : ConverterStage → Type 0
Unfaulted (taking r) = Unit {0}
Unfaulted (faulted e) = ⊥
Unfaulted ended = Unit {0}

-- ---- the stage

-- a state that takes bytes, between these dialects, after the records `done` and with the buffered part k of the current record (§15.2)
pub record Takes (d t : Dialect) (consumed : Bytes) (s : Converter) (done : List Rec) (k : Buffered) : Type 0 where
  pub hold :
      StateInvariant d (into t) (place_of s) (current_in (place_of s) s.names s.bytes) (current_in (place_of s) s.name_ends s.ends) done k
  pub heads : Heads consumed (place_of s) s.names s.name_ends done k
  pub bounds : InBounds (place_of s) (current_in (place_of s) s.name_ends s.ends)
  pub reads : read_bytes d (Some (into t)) consumed ≡ going (read_at d (place_of s) done k)
  pub long_names : length s.names ≡ MAXRECORD
  pub long_name_ends : length s.name_ends ≡ MAXCOLUMNS
  pub long_bytes : length s.bytes ≡ MAXRECORD
  pub long_ends : length s.ends ≡ MAXCOLUMNS

-- the stage of a converter that was made with these two numbers; with a number that is no dialect it is that after an end (§15.4)
pub data StageOf (m n : ℕ) (consumed : Bytes) : ConverterStage → Converter → Type 0 where
  stage_taking :
      {s : Converter} {r : Read} (d t : Dialect) (done : List Rec) (k : Buffered) → dialect_of m ≡ Some d → dialect_of n ≡ Some t →
      r ≡ read_at d (place_of s) done k → StageEncoded (taking r) s.fault s.ended → Takes d t consumed s done k →
      StageOf m n consumed (taking r) s
  stage_faulted : {s : Converter} {e : Report} → StageEncoded (faulted e) s.fault s.ended → StageOf m n consumed (faulted e) s
  stage_ended : {s : Converter} → StageEncoded ended s.fault s.ended → StageOf m n consumed ended s
  stage_no_source : {s : Converter} → dialect_of m ≡ None → StageOf m n consumed ended s
  stage_no_target : {s : Converter} → dialect_of n ≡ None → StageOf m n consumed ended s

-- A converter made with these two numbers is at this stage after these bytes, and shows what they complete. As long as no fault was met
-- it counts them. Nothing else is determined after a fault or an accepted end: not `bytes` and `ends`, not `names` and `name_ends` beyond
-- those of the header, not `state`, `start`, `size`, `fill`, `cells` and `written`; after a fault not `offset` and `ended`; and after an
-- end only the number of `fault` is (§15.2 §15.5 §15.6)
pub record Models (consumed : Bytes) (m n : ℕ) (w : ConverterStage) (s : Converter) : Type 0 where
  pub source : s.source ≡ m
  pub target : s.target ≡ n
  pub stage : StageOf m n consumed w s
  pub shows : (d t : Dialect) → dialect_of m ≡ Some d → dialect_of n ≡ Some t → StateShows d t consumed s
  pub offset : Unfaulted w → s.offset ≡ length consumed
