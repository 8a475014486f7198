-- The fast path over a data record that lies whole in the piece: when it applies, and that its result is that of a step.
use Rattle.std.specs.Prelude.{ℕ, ◌+◌, ◌-◌, ◌≤◌, ◌<◌, ◌≡◌, false, List, [], ◌∷◌, ◌++◌, length, drop}
use Rattle.std.specs.Prelude.{Option, None, Some}
use Rattle.model.specs.declared.Dialect.{Dialect}
use Rattle.model.specs.declared.Target.{Target}
use Rattle.model.specs.declared.FileState.{FileState}
use Rattle.model.specs.declared.FileState.TheVariants.{Begin, Ended}
use Rattle.std.specs.Prelude.{Ok}
use Rattle.model.specs.rules.Base.{Bytes, is_empty}
use Rattle.model.specs.rules.Dialect.{into}
use Rattle.model.specs.rules.Text.{Value, record_text, ending}
use Rattle.model.specs.rules.Records.{Rec, going, read_from, data_fault, target_fault}
use Rattle.model.specs.rules.Report.{MAXFILE, MAXCOLUMNS}
use Rattle.model.specs.laws.Scans.{Buffered}
use Rattle.buffer.specs.Writes.{written}
use Rattle.piece_state.specs.declared.place.Place.{Place}
use Rattle.piece_step.specs.declared.fast.Next.{Next}
use Rattle.piece_state.specs.Sound.{place_after}
use Rattle.piece_step.specs.Invariant.{read_at, StateInvariant}
use Rattle.piece_step.specs.Steps.{InBounds}

-- a record was written up to `end`, and the next step begins at this place and index
abbrev pub next_step : Place → (at end : ℕ) → Next
next_step q at end = record { place = q; at = at; end = end }

-- ---- the text of a record

-- the text lies from o up to `end` in the output, if the record has no fault and there is room
pub data FastTextSound (t : Dialect) (columns before : ℕ) (vs : List Value) (o : ℕ) (out out' : List ℕ) : Option ℕ → Type 0 where
  up_to :
      {end : ℕ} → data_fault columns vs ≡ Ok tt → target_fault (into t) false before vs ≡ Ok tt →
      o + length (record_text (into t) false vs ++ ending t) ≤ length out →
      out' ≡ written out o (record_text (into t) false vs ++ ending t) → end ≡ o + length (record_text (into t) false vs ++ ending t) →
      FastTextSound t columns before vs o out out' (Some end)
  no_text : out' ≡ out → FastTextSound t columns before vs o out out' None

-- ---- a step

-- what it requires: it begins at index i of the piece, n bytes were consumed before the piece, and o bytes of the output are written
pub record FastStepReady (piece : Bytes) (n i : ℕ) (p : Place) (out : List ℕ) (o : ℕ) : Type 0 where
  pub offset : p.offset ≤ MAXFILE
  pub before : p.written ≤ MAXFILE
  pub records : p.records ≤ p.offset
  pub at : p.offset ≡ n + i
  pub inside : i ≤ length piece
  pub room : o ≤ length out

-- a record may begin in this state
pub data Starts : FileState → Type 0 where
  begins : Starts Begin
  ends : Starts Ended

-- a data record may begin here, and nothing of it was counted yet
pub record Between (p : Place) : Type 0 where
  pub later : p.records ≡ 0 → ⊥
  pub size : p.size ≡ 0
  pub state : Starts p.state

-- the place after a record, and where its text ends; or a fallback, with nothing written
pub data FastStepWrites (t : Dialect) (p : Place) (n next : ℕ) (f : FileState) (cells : ℕ) (vs : List Value) (o : ℕ)
    (out out' : List ℕ) : Option Next → Type 0 where
  at_next :
      {end : ℕ} → cells ≤ MAXCOLUMNS → data_fault p.columns vs ≡ Ok tt → target_fault (into t) false p.written vs ≡ Ok tt →
      o + length (record_text (into t) false vs ++ ending t) ≤ length out →
      out' ≡ written out o (record_text (into t) false vs ++ ending t) → end ≡ o + length (record_text (into t) false vs ++ ending t) →
      FastStepWrites t p n next f cells vs o out out' (Some (next_step (place_after p (length vs) (end - o) f (n + next)) next end))
  not_found : out' ≡ out → FastStepWrites t p n next f cells vs o out out' None

-- it stays in bounds, whatever state it began with; and a fallback writes nothing
pub data FastStepInBounds (piece : Bytes) (n i : ℕ) (out out' : List ℕ) : Option Next → Type 0 where
  next_in_bounds :
      {q : Place} {at end : ℕ} → ((ends : List ℕ) → InBounds q ends) → q.offset ≡ n + at → i < at → at ≤ length piece → end ≤ length out →
      FastStepInBounds piece n i out out' (Some (next_step q at end))
  nothing_in_bounds : out' ≡ out → FastStepInBounds piece n i out out' None

-- what it results in, if its place represents reading after the records `done`
pub data FastStepSound (d : Dialect) (t : Target) (piece : Bytes) (i : ℕ) (p : Place) (bytes ends : List ℕ) (done : List Rec) (k : Buffered) (o : ℕ)
    (out out' : List ℕ) : Option Next → Type 0 where
  a_record :
      {q : Place} {at end : ℕ} (x : Rec) (k' : Buffered) →
      read_from d (Some t) (going (read_at d p done k)) (drop i piece) ≡ read_from d (Some t) (going (read_at d q (done ++ (x ∷ [])) k')) (drop at piece) →
      StateInvariant d t q bytes ends (done ++ (x ∷ [])) k' → out' ≡ written out o (record_text t (is_empty done) x.cells ++ ending t.dialect) →
      end ≡ o + length (record_text t (is_empty done) x.cells ++ ending t.dialect) →
      FastStepSound d t piece i p bytes ends done k o out out' (Some (next_step q at end))
  nothing : FastStepSound d t piece i p bytes ends done k o out out' None
