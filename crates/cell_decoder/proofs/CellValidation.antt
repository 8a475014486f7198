-- The check of a cell by the end of its automaton: it is the same run, and only the report on its end differs.
use mathlib.Core.Path.{◌≡◌, refl, sym, ap, ◌∙◌}
use mathlib.Core.List.{[], ◌∷◌}
use Prim.Native.Nat.{ℕ, suc, ◌+◌, ◌-◌}
use native.Mathlib.Omega.{arith}
use lib.ListN.{length}
use lib.Seq.{take_all}
use Rattle.model.specs.declared.Dialect.{Dialect}
use Rattle.model.specs.declared.Cell.{Cell}
use Rattle.model.specs.declared.Cell.TheVariants.{Fresh}
use Rattle.model.specs.declared.ByteFault.TheVariants.{Syntax}
use Rattle.model.specs.declared.CellStep.{CellStep}
use Rattle.model.specs.declared.CellStep.TheVariants.{More, Stop, Refuse}
use Rattle.model.specs.declared.Fault.{Fault}
use Rattle.model.specs.declared.Fault.TheVariants.{Byte, CutShort}
use Rattle.model.specs.rules.Types.{CellCheck}
use Rattle.std.specs.Prelude.{Ok, Err}
use Rattle.model.specs.rules.Base.{choose◌then◌else◌, Bytes}
use Rattle.model.specs.rules.Cell.{cell_step, is_whole}
use Rattle.model.specs.rules.Report.{column_of}
use Rattle.model.specs.rules.Decode.{validate_from, validate_cell}
use Rattle.model.proofs.Tests.{split}
use Rattle.cell_scanner.specs.declared.CellEnd.{CellEnd}
use Rattle.cell_scanner.specs.declared.CellEnd.TheVariants.{Stopped, Refused, Open}
use Rattle.cell_scanner.specs.Run.{cell_run}
use Rattle.model.specs.rules.Api.{slice}
use Rattle.model.specs.rules.Types.{cell_fault}

-- the check result of an end, for a cell of n bytes
abbrev pub validated_by : Dialect → (n : ℕ) → CellEnd → CellCheck
validated_by d n (Stopped c i) = Err (cell_fault (Byte Syntax) i)
validated_by d n (Refused e i) = Err (cell_fault (Byte e) i)
validated_by d n (Open c) = choose is_whole d c then Ok tt else Err (cell_fault CutShort n)

run_validated : (d : Dialect) (c : Cell) (i : ℕ) (bs : Bytes) (n : ℕ) → n ≡ i + length bs → validate_from d c i bs ≡ validated_by d n (cell_run d c i bs)
unfolding validate_from cell_run
run_validated d c i [] n e = let last : n ≡ i = e ∙ omega arith in rw last
run_validated d c i (b ∷ bs) n e = go (cell_step d c b) refl (λ c'. run_validated d c' (suc i) bs n (omega arith))
  where
    go : (a : CellStep) → cell_step d c b ≡ a → ((c' : Cell) → validate_from d c' (suc i) bs ≡ validated_by d n (cell_run d c' (suc i) bs))
        → validate_from d c i (b ∷ bs) ≡ validated_by d n (cell_run d c i (b ∷ bs))
    go (More c') x next =
        let j : validate_from d c i (b ∷ bs) ≡ validate_from d c' (suc i) bs = rw (x, validate_from) in
        let r : cell_run d c i (b ∷ bs) ≡ cell_run d c' (suc i) bs = rw (x, cell_run) in
        j ∙ next c' ∙ ap (validated_by d n) (sym r)
    go Stop x next =
        let j : validate_from d c i (b ∷ bs) ≡ Err (cell_fault (Byte Syntax) i) = rw (x, validate_from) in
        let r : cell_run d c i (b ∷ bs) ≡ Stopped c i = rw (x, cell_run) in
        j ∙ ap (validated_by d n) (sym r)
    go (Refuse f) x next =
        let j : validate_from d c i (b ∷ bs) ≡ Err (cell_fault (Byte f) i) = rw (x, validate_from) in
        let r : cell_run d c i (b ∷ bs) ≡ Refused f i = rw (x, cell_run) in
        j ∙ ap (validated_by d n) (sym r)

-- the check of a cell is that of its whole run
pub validated : (d : Dialect) (raw : Bytes) (r : CellEnd) → r ≡ cell_run d Fresh 0 (slice raw 0 (length raw)) → validate_cell d raw ≡ validated_by d (length raw) r
unfolding validate_cell
validated d raw r e =
    let whole : slice raw 0 (length raw) ≡ raw = take_all (length raw - 0) raw (omega arith) in
    run_validated d Fresh 0 raw (length raw) (omega arith) ∙ ap (validated_by d (length raw)) (ap (cell_run d Fresh 0) (sym whole) ∙ sym e)

-- a fault of a cell names no column
abbrev column_in : CellCheck → ℕ
column_in (Ok _) = 0
column_in (Err f) = column_of f.fault

pub no_column : (d : Dialect) (raw : Bytes) (e : Fault) (i : ℕ) → validate_cell d raw ≡ Err (cell_fault e i) → column_of e ≡ 0
no_column d raw e i j =
    ap column_in (sym j ∙ validated d raw (cell_run d Fresh 0 (slice raw 0 (length raw))) refl) ∙ at_end (cell_run d Fresh 0 (slice raw 0 (length raw)))
  where
    at_end : (r : CellEnd) → column_in (validated_by d (length raw) r) ≡ 0
    at_end (Stopped c k) = refl
    at_end (Refused f k) = refl
    at_end (Open c) = split (λ (x : CellCheck). column_in x ≡ 0) (is_whole d c) (λ _. refl) λ _. refl
