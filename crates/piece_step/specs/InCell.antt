-- The fast path over a piece that lies inside one cell: when it applies, and that its result is that of a step.
use Rattle.std.specs.Prelude.{ℕ, ◌+◌, ◌≤◌, ◌≡◌, List}
use Rattle.std.specs.Prelude.{Option, None, Some}
use Rattle.model.specs.declared.Dialect.{Dialect}
use Rattle.model.specs.declared.Target.{Target}
use Rattle.model.specs.rules.Base.{Bytes}
use Rattle.model.specs.rules.Records.{Rec}
use Rattle.model.specs.rules.Report.{MAXFILE, MAXRECORD, MAXCOLUMNS}
use Rattle.model.specs.laws.Scans.{Buffered}
use Rattle.piece_state.specs.declared.place.Place.{Place}
use Rattle.piece_step.specs.declared.PieceStep.TheVariants.{NeedInput}
use Rattle.piece_step.specs.Invariant.{StateInvariant}
use Rattle.piece_step.specs.Steps.{InBounds, StepSound}

-- `size` more bytes of a cell stay within the limits
pub record Fits (p : Place) (size : ℕ) : Type 0 where
  pub columns : p.cells ≤ MAXCOLUMNS
  pub in_record_lem : p.size + size ≤ MAXRECORD
  pub in_file : p.offset + size ≤ MAXFILE

-- the place after the piece, which a step over it results in with any output; or a fallback, with nothing buffered
pub data InCellSound (d : Dialect) (piece : Bytes) (p : Place) (bytes ends bytes' : List ℕ) : Option Place → Type 0 where
  all_buffered_lem :
      {q : Place} → InBounds q ends →
      ((t : Target) (done : List Rec) (k : Buffered) (out : List ℕ) → StateInvariant d t p bytes ends done k →
      StepSound d t piece 0 p done k 0 out bytes' ends out (NeedInput q)) →
      InCellSound d piece p bytes ends bytes' (Some q)
  not_found : bytes' ≡ bytes → InCellSound d piece p bytes ends bytes' None
