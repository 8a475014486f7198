-- The cells of a record that lies whole in a part of a file: the spans in the lists are theirs, and each is a whole cell.
use Prim.Native.Nat.{ℕ, ◌+◌, ◌-◌, ◌≤◌, ◌<◌}
use native.Mathlib.Omega.{arith}
use mathlib.Core.Path.{◌≡◌, refl, sym, ap, subst, ◌∙◌}
use mathlib.Core.Bool.{Bool, true}
use Rattle.std.specs.Prelude.{Option, Some}
use mathlib.Core.List.{List, [], ◌∷◌, map, map-map}
use lib.ListN.{length, take, drop, length-map, length-drop}
use lib.Seq.{length-take-le}
use Rattle.model.specs.declared.Dialect.{Dialect}
use Rattle.model.specs.declared.FileState.{FileState}
use Rattle.model.specs.declared.Cell.TheVariants.{Fresh}
use Rattle.model.specs.rules.Base.{Bytes}
use Rattle.model.specs.rules.Decode.{kind_of, content_of, kind_number, validate_cell}
use Rattle.model.specs.rules.Text.{Value}
use Rattle.model.specs.rules.Report.{MAXRECORD, MAXCOLUMNS}
use Rattle.model.specs.laws.Laws.{All, all_none, all_cons}
use Rattle.model.specs.laws.Scans.{RawCell, Scan, ScanResult, completes, scan, fresh, value_of, nothing_current, bytes_in, SizedTo, sized_completes}
use Rattle.model.specs.laws.Places.{SpanIn, ScanResultIn, completes_in}
use Rattle.model.specs.rules.Api.{slice, starts_of, ends_of, kinds_of}
use Rattle.model.proofs.cell_laws.CellRuns.{here}
use Rattle.model.proofs.cell_laws.Cells.{cell_at}
use Rattle.model.proofs.piece_laws.ScanSize.{scan_size}
use Rattle.model.proofs.piece_laws.PlaceLaws.{stretches}
use Rattle.record_scanner.specs.Parts.{Found, found_of, raw_starts, raw_ends, raw_kinds}
use Rattle.record_scanner.specs.Stored.{stored_from}
use Rattle.cell_fast.specs.Ends.{CleanIn}
use Rattle.record_fast.specs.declared.FastRecord.{FastRecord}
use Rattle.record_fast.specs.FastScan.{Clean, FastScanSound, is_found}
use Rattle.record_fast.specs.CellLists.{LiesIn}
use Rattle.cell_decoder.specs.declared.source.Source.TheVariants.{File}
use Rattle.cell_decoder.specs.Sources.{cells_in, Cells}
use Rattle.record_fast.specs.CellLists.{Long}
use Rattle.record_fast.proofs.CellLists.{stand_there, shows}
use Rattle.record_fast.proofs.CellLists.{clean_in}
use Rattle.piece_step.specs.Invariant.{no_bytes, IsWhole}
use Rattle.piece_step.specs.Steps.{Scratch}
use Rattle.piece_step.proofs.ScanLaws.{PreservesTo, preserves_completes, scan_preserves}
use Rattle.piece_step.proofs.ScanAnswers.{CompletedAs, completed_as}
use Rattle.piece_step.proofs.StepOutcomes.{part_none}
use Rattle.piece_step.specs.FastSteps.{Starts, begins, ends}

-- ---- the cells

-- a cell of these bytes is no longer than all of them
short_one : (piece : Bytes) (c : RawCell) (n : ℕ) → SpanIn piece c → length c.bytes ≤ n → c.upto ≤ c.from + n
short_one piece c n s l =
    let f : c.from ≤ c.upto = s.forward in
    let w : c.upto ≤ length piece = s.within in
    let d : length (drop c.from piece) ≡ length piece - c.from = length-drop c.from piece in
    let e : length (slice piece c.from c.upto) ≡ c.upto - c.from = length-take-le (c.upto - c.from) (drop c.from piece) (omega arith) in
    let g : length c.bytes ≡ c.upto - c.from = ap length s.raw ∙ e in
    omega arith

all_lie :
    (d : Dialect) (piece : Bytes) (n : ℕ) → n ≤ MAXRECORD → (cs : List RawCell) → All (IsWhole d) cs → All (SpanIn piece) cs → bytes_in cs ≤ n →
    All (LiesIn d piece) (map (value_of d) cs)
unfolding bytes_in
all_lie d piece n m [] all_none all_none l = all_none
all_lie d piece n m (c ∷ cs) (all_cons w ws) (all_cons s ss) l =
    let o : c.upto ≤ c.from + n = short_one piece c n s (omega arith) in
    all_cons
    (record {
      kind = ap (kind_of d) s.raw;
      content = ap (content_of d) s.raw;
      forward = s.forward;
      within = s.within;
      short = omega arith;
      sound = ap (validate_cell d) (sym s.raw) ∙ w;
    })
    (all_lie d piece n m cs ws ss (omega arith))

between_fresh : {f : FileState} → Starts f → cell_at f ≡ Fresh
unfolding cell_at
between_fresh begins = refl
between_fresh ends = refl

-- ---- a record of the fast scan

abbrev pub found_record : (start cells : ℕ) → FileState → (next : ℕ) → Bool → Option FastRecord
found_record start cells g next clean = Some (record { start = start; cells = cells; state = g; next = next; clean = clean })

module _ (d : Dialect) (limit : ℕ) (piece : Bytes) (i : ℕ) (f : FileState) (starts : Starts f) (inside : i ≤ length piece) where
  abbrev pub Here : ScanResult
  Here = scan d limit (fresh f 0 i) (drop i piece)

  ends_whole : {s : Scan} {cs : List RawCell} {g : FileState} {next : ℕ} {left : Bytes} → PreservesTo d (completes s cs g next left) → All (IsWhole d) cs
  ends_whole (preserves_completes w c) = w

  ends_sized : {s : Scan} {cs : List RawCell} {g : FileState} {next : ℕ} {left : Bytes} → SizedTo (completes s cs g next left) → bytes_in cs ≤ MAXRECORD
  ends_sized {s} (sized_completes z l) = omega (arith, z.limit)

  ends_stretches :
      {s : Scan} {cs : List RawCell} {g : FileState} {next : ℕ} {left : Bytes} → ScanResultIn piece (completes s cs g next left) → All (SpanIn piece) cs
  ends_stretches (completes_in x c l r) = c

  keeps : PreservesTo d Here
  keeps =
      scan_preserves d limit (fresh f 0 i) (drop i piece)
      (record { runs = rw (between_fresh starts) here; whole = all_none; opens = no_bytes refl; holds = nothing_current refl refl })

  sizes : SizedTo Here
  unfolding bytes_in
  sizes = scan_size d limit (fresh f 0 i) (drop i piece) (record { held = omega arith; limit = omega arith })

  lies : ScanResultIn piece Here
  lies = stretches d limit piece (fresh f 0 i) (record { raw = part_none piece i; forward = omega arith; within = inside; cells = all_none })

  cells_whole :
      {s : Scan} {cs : List RawCell} {g : FileState} {next : ℕ} {left : Bytes} → Here ≡ completes s cs g next left → All (LiesIn d piece) (map (value_of d) cs)
  cells_whole {s} {cs} e =
      all_lie d piece MAXRECORD (omega arith) cs (ends_whole (subst (PreservesTo d) e keeps)) (ends_stretches (subst (ScanResultIn piece) e lies))
      (ends_sized (subst SizedTo e sizes))

  module _ {s₀ e₀ k₀ s e k : List ℕ} {q : Option FastRecord} (told : FastScanSound d limit piece i f MAXCOLUMNS 0 s₀ e₀ k₀ s e k q)
      (long : Scratch s₀ e₀ k₀) {start cells next : ℕ} {g : FileState} {clean : Bool} (z : q ≡ found_record start cells g next clean) where
    -- the result of the scan, and the lists after it
    pub record Complete : Type 0 where
      pub found : CompletedAs Here start cells g next
      pub at_starts : s ≡ stored_from MAXCOLUMNS 0 (raw_starts found.cs) s₀
      pub at_ends : e ≡ stored_from MAXCOLUMNS 0 (raw_ends found.cs) e₀
      pub at_kinds : k ≡ stored_from MAXCOLUMNS 0 (raw_kinds d found.cs) k₀
      pub cleans : clean ≡ true → Clean d piece MAXCOLUMNS 0 cells s e
      pub onward : i < next
      pub within : next ≤ length piece
      pub under : next ≤ limit

    pub complete : Complete
    complete = go (subst (λ (x : Option FastRecord). FastScanSound d limit piece i f MAXCOLUMNS 0 s₀ e₀ k₀ s e k x) z told)
      where
        go : FastScanSound d limit piece i f MAXCOLUMNS 0 s₀ e₀ k₀ s e k (found_record start cells g next clean) → Complete
        go (is_found cs h b y c) =
            let a : CompletedAs Here start cells g next = completed_as Here start cells g next (ap (λ (x : Found). x.answer) h) in
            let same : cs ≡ a.cs = sym (ap (λ (x : Found). x.cells) h) ∙ ap (λ (x : ScanResult). (found_of x).cells) a.came in
            record {
              found = a;
              at_starts = y.at_starts ∙ ap (λ (l : List RawCell). stored_from MAXCOLUMNS 0 (raw_starts l) s₀) same;
              at_ends = y.at_ends ∙ ap (λ (l : List RawCell). stored_from MAXCOLUMNS 0 (raw_ends l) e₀) same;
              at_kinds = y.at_kinds ∙ ap (λ (l : List RawCell). stored_from MAXCOLUMNS 0 (raw_kinds d l) k₀) same;
              cleans = c;
              onward = b.1;
              within = b.2;
              under = b.3;
            }

    abbrev values : List Value
    values = map (value_of d) complete.found.cs

    stands : All (LiesIn d piece) values
    stands = cells_whole complete.found.came

    counts : length values ≡ cells
    counts = length-map complete.found.cs (value_of d) ∙ complete.found.count

    room : Long s₀ e₀ k₀
    room = record { at_starts = omega (arith, long.long_starts); at_ends = omega (arith, long.long_stops); at_kinds = omega (arith, long.long_kinds) }

    ps : s ≡ stored_from MAXCOLUMNS 0 (starts_of values) s₀
    ps = complete.at_starts ∙ ap (λ (l : List ℕ). stored_from MAXCOLUMNS 0 l s₀) (sym (map-map (λ (v : Value). v.from) (value_of d) complete.found.cs))

    pe : e ≡ stored_from MAXCOLUMNS 0 (ends_of values) e₀
    pe = complete.at_ends ∙ ap (λ (l : List ℕ). stored_from MAXCOLUMNS 0 l e₀) (sym (map-map (λ (v : Value). v.upto) (value_of d) complete.found.cs))

    pk : k ≡ stored_from MAXCOLUMNS 0 (kinds_of values) k₀
    pk =
        complete.at_kinds ∙ ap (λ (l : List ℕ). stored_from MAXCOLUMNS 0 l k₀)
        (sym (map-map (λ (v : Value). kind_number v.kind) (value_of d) complete.found.cs))

    -- the lists hold the cells
    pub cells_there : cells ≤ MAXCOLUMNS → Cells (File d) piece (take cells s) (take cells e) (take cells k)
    cells_there h = stand_there d piece values stands s₀ e₀ k₀ s e k room ps pe pk cells counts h

    pub values_there : cells ≤ MAXCOLUMNS → cells_in (File d) piece (take cells s) (take cells e) (take cells k) ≡ map (value_of d) complete.found.cs
    values_there h = (shows d piece values stands s₀ e₀ k₀ s e k room ps pe pk cells counts).values h

    pub clean_there : cells ≤ MAXCOLUMNS → clean ≡ true → CleanIn d piece (take cells s) (take cells e)
    clean_there h c = clean_in h (complete.cleans c)
