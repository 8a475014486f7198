-- A data record that the fast path found and wrote is a step of the run.
use Prim.Native.Nat.{ℕ, ◌+◌, ◌-◌, ◌≤◌}
use native.Mathlib.Omega.{arith}
use mathlib.Core.Path.{◌≡◌, refl, sym, ap, subst, ◌∙◌}
use mathlib.Core.Bool.{Bool, false}
use Rattle.std.specs.Prelude.{Option, Some}
use mathlib.Core.List.{List, [], ◌∷◌, ◌++◌, map}
use lib.ListN.{length, take, drop}
use borrow.Author.Tests.{ne_eqb}
use Rattle.model.specs.declared.Dialect.{Dialect}
use Rattle.model.specs.declared.FileState.{FileState}
use Rattle.std.specs.Prelude.{Ok}
use Rattle.model.specs.rules.Base.{choose◌then◌else◌, ◌is◌, Bytes}
use Rattle.model.specs.rules.Dialect.{into}
use Rattle.model.specs.rules.Decode.{kind_of, content_of}
use Rattle.model.specs.rules.Text.{Value, record_text, ending}
use Rattle.model.specs.rules.Report.{MAXFILE, MAXCOLUMNS}
use Rattle.model.specs.rules.Records.{Rec, going, read_from, ◌or_else◌, data_fault, target_fault}
use Rattle.model.specs.laws.Scans.{RawCell, completes, scan, fresh, value_of, moved_cell, joined_cell, Buffered, Holds, current}
use Rattle.model.specs.laws.Scans.{nothing_current}
use Rattle.model.specs.laws.RoundTrips.{SameCells, no_cells, and_cell}
use Rattle.model.proofs.Tests.{split, impossible}
use Rattle.model.proofs.file_laws.CheckResults.{target_sound}
use Rattle.buffer.specs.Writes.{written}
use Rattle.piece_state.specs.declared.place.Place.{Place}
use Rattle.piece_state.specs.Sound.{order_end, place_after}
use Rattle.piece_record.specs.Completion.{fault_at, text_at}
use Rattle.record_fast.specs.declared.FastRecord.{FastRecord}
use Rattle.record_fast.specs.FastScan.{FastScanSound}
use Rattle.cell_decoder.specs.declared.source.Source.TheVariants.{File}
use Rattle.cell_decoder.specs.Sources.{cells_in}
use Rattle.piece_step.specs.Invariant.{read_at, StateInvariant, buffered_none}
use Rattle.piece_step.specs.Steps.{Scratch, InBounds}
use Rattle.piece_step.proofs.StepOutcomes as turning
use Rattle.piece_step.proofs.StepOutcomes.{all_cells, in_file, values_now, done_then, place_then, sound_reads, text_here, sound_holds}
use Rattle.piece_step.specs.declared.fast.Next.{Next}
use Rattle.piece_step.specs.FastSteps.{FastStepReady, Starts, begins, ends, Between, FastStepWrites, at_next, not_found, FastStepInBounds, next_in_bounds}
use Rattle.piece_step.specs.FastSteps.{nothing_in_bounds, FastStepSound, a_record, nothing}
use Rattle.piece_step.proofs.FastCells.{found_record, Complete, complete, values_there}

-- ---- nothing is buffered

none_kept : {f : FileState} {k : Buffered} → Starts f → Holds f k → (k.raw ≡ []) × (k.cells ≡ [])
none_kept begins (current h) = impossible h
none_kept ends (current h) = impossible h
none_kept s (nothing_current r c) = (r, c)

-- a cell has the same kind and content from wherever its offset is counted
joined_bytes : (k : Buffered) (began : ℕ) (c : RawCell) → k.raw ≡ [] → (joined_cell k began c).bytes ≡ c.bytes
unfolding joined_cell
joined_bytes k began c e = split (λ (x : RawCell). x.bytes ≡ c.bytes) (c.from is began) (λ _. rw e) λ _. refl

same_moved :
    (d : Dialect) (k : Buffered) (n began : ℕ) → k.raw ≡ [] → (cs : List RawCell) →
    SameCells (map (value_of d) cs) (map (value_of d) (map (joined_cell k began) (map (moved_cell n) cs)))
same_moved d k n began e [] = no_cells
same_moved d k n began e (c ∷ cs) =
    let b : (joined_cell k began (moved_cell n c)).bytes ≡ c.bytes = joined_bytes k began (moved_cell n c) e in
    and_cell (record { kind = ap (kind_of d) (sym b); content = ap (content_of d) (sym b) }) (same_moved d k n began e cs)

-- ---- a data record

later : (p : Place) → (p.records ≡ 0 → ⊥) → (p.records is 0) ≡ false
later p h = ne_eqb p.records 0 h

sound_at :
    (d t : Dialect) (p : Place) (vs : List Value) → (p.records ≡ 0 → ⊥) → data_fault p.columns vs ≡ Ok tt →
    target_fault (into t) false p.written vs ≡ Ok tt → fault_at d (into t) p vs ≡ Ok tt
unfolding fault_at choose◌then◌else◌ ◌or_else◌
sound_at d t p vs l a b = rw (later p l, a, b)

text_at_lem : (t : Dialect) (p : Place) (vs : List Value) → (p.records ≡ 0 → ⊥) → text_at (into t) p vs ≡ record_text (into t) false vs ++ ending t
text_at_lem t p vs l = rw (later p l)

module _ (t : Dialect) {d : Dialect} {piece : Bytes} {n i : ℕ} {p : Place} {out : List ℕ} {o : ℕ} (ready : FastStepReady piece n i p out o)
    (between : Between p) {s₀ e₀ k₀ s e kk : List ℕ} {q : Option FastRecord}
    (told : FastScanSound d (MAXFILE - n) piece i p.state MAXCOLUMNS 0 s₀ e₀ k₀ s e kk q)
    (long : Scratch s₀ e₀ k₀) {start cells next : ℕ} {g : FileState} {clean : Bool} (z : q ≡ found_record start cells g next clean) where
  under : n ≤ MAXFILE
  under = omega (arith, ready.at, ready.offset)

  abbrev at_end : Complete d (MAXFILE - n) piece i p.state between.state ready.inside told long z
  at_end = complete d (MAXFILE - n) piece i p.state between.state ready.inside told long z

  pub next_file : n + next ≤ MAXFILE
  next_file = omega (arith, at_end.under, under)

  abbrev Cells-of : List Value
  Cells-of = cells_in (File d) piece (take cells s) (take cells e) (take cells kk)

  pub writes_bounds : {out' : List ℕ} {r : Option Next} → FastStepWrites t p n next g cells Cells-of o out out' r → FastStepInBounds piece n i out out' r
  writes_bounds (not_found w) = nothing_in_bounds w
  writes_bounds (at_next {end = end} few a b room w y) =
      let f = target_sound (into t) false p.written Cells-of b in
      let fits : p.written + length (record_text (into t) false Cells-of ++ ending t) ≤ MAXFILE = f.fits in
      let l : 0 ≤ 0 = omega arith in
      let bounds : (xs : List ℕ) → InBounds (place_after p (length Cells-of) (end - o) g (n + next)) xs =
      λ xs.
      record {
        size = omega arith;
        fill = omega arith;
        offset = next_file;
        written = omega arith;
        records = omega (arith, at_end.onward, ready.records, ready.at);
        cells = omega arith;
        ordered = λ _. order_end l;
        between = λ _. (refl, refl);
      } in
      let inside : end ≤ length out = omega arith in
      next_in_bounds bounds refl at_end.onward at_end.within inside

  module _ {bytes ends' : List ℕ} {done : List Rec} {k : Buffered} (hold : StateInvariant d (into t) p bytes ends' done k) where
    abbrev u : turning.Step
    u = record { d = d; t = into t; p = p; done = done; k = k; n = n; i = i; piece = piece }

    kept : (k.raw ≡ []) × (k.cells ≡ [])
    kept = none_kept between.state hold.holds

    came : scan d (MAXFILE - n) (fresh p.state p.size i) (drop i piece) ≡ completes at_end.found.s at_end.found.cs g next at_end.found.left
    came = ap (λ (m : ℕ). scan d (MAXFILE - n) (fresh p.state m i) (drop i piece)) between.size ∙ at_end.found.came

    same :
        cells ≤ MAXCOLUMNS →
        SameCells Cells-of (values_now u hold ready.at under ready.inside at_end.found.s at_end.found.cs g next at_end.found.left came)
    unfolding joined_cell
    same few =
        rw (values_there d (MAXFILE - n) piece i p.state between.state ready.inside told long z few, kept.1)
        (same_moved d k n (n + i) kept.0 at_end.found.cs)

    pub writes_turns :
        {out' : List ℕ} {r : Option Next} → FastStepWrites t p n next g cells Cells-of o out out' r →
        FastStepSound d (into t) piece i p bytes ends' done k o out out' r
    writes_turns (not_found w) = nothing
    writes_turns (at_next {end = end} few a b room w y) =
        let sound : fault_at d (into t) p Cells-of ≡ Ok tt = sound_at d t p Cells-of between.later a b in
        let spelt : text_at (into t) p Cells-of ≡ record_text (into t) false Cells-of ++ ending t = text_at_lem t p Cells-of between.later in
        let text =
        text_here u hold ready.at under ready.inside at_end.found.s at_end.found.cs g next at_end.found.left came Cells-of (same few) sound in
        let size : length (text_at (into t) p Cells-of) ≡ end - o = ap length spelt ∙ omega arith in
        let place : place_then u hold ready.at under ready.inside at_end.found.s at_end.found.cs g next
        at_end.found.left came Cells-of (same few) sound ≡ place_after p (length Cells-of) (end - o) g (n + next) =
        ap (λ (m : ℕ). place_after p (length Cells-of) m g (n + next)) size in
        let this : Rec =
        record { start = (in_file u at_end.found.s).start; size = at_end.found.s.size; cells = map (value_of d) (all_cells u at_end.found.cs) } in
        a_record this (buffered_none (n + next))
        (subst (λ (x : Place). read_from d (Some (into t)) (going (read_at d p done k)) (drop i piece) ≡ read_from d (Some (into t))
        (going (read_at d x (done_then u hold ready.at under ready.inside at_end.found.s at_end.found.cs g next
        at_end.found.left came) (buffered_none (n + next)))) (drop next piece)) place
        (sound_reads u hold ready.at under ready.inside at_end.found.s at_end.found.cs g next at_end.found.left came Cells-of
        (same few) sound))
        (subst (λ (x : Place). StateInvariant d (into t) x bytes ends'
        (done_then u hold ready.at under ready.inside at_end.found.s at_end.found.cs g next at_end.found.left came)
        (buffered_none (n + next))) place
        (sound_holds u hold ready.at under ready.inside at_end.found.s at_end.found.cs g next at_end.found.left came Cells-of
        (same few) sound bytes ends'))
        (w ∙ ap (written out o) (sym spelt ∙ text))
        (y ∙ ap (λ (x : Bytes). o + length x) (sym spelt ∙ text))
