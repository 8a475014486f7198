-- Step after step over a piece: the loop's invariant, and how each result of a step preserves it. The room law of model's Room says that
-- a call never runs out of output.
use Prim.Native.Nat.{ℕ, ◌+◌, ◌≤◌, ◌<◌}
use native.Mathlib.Omega.{arith}
use mathlib.Core.Path.{◌≡◌, refl, sym, ap, ap₂, subst, ◌∙◌}
use Rattle.std.specs.Prelude.{Option, None, Some}
use mathlib.Core.List.{List, [], ◌∷◌, ◌++◌, append_assoc}
use lib.ListN.{length, take, drop, length-append}
use lib.Seq.{take-append_seam, drop-append-add, drop-drop}
use Rattle.model.specs.rules.Base.{Bytes, is_empty, over}
use Rattle.model.specs.rules.Text.{record_text, table_text, ending}
use Rattle.model.specs.rules.Report.{accepted, LEASTOUTPUT}
use Rattle.model.specs.rules.Records.{Rec, rows, going, read_from}
use Rattle.model.specs.laws.Laws.{Grows}
use Rattle.model.specs.laws.Scans.{Buffered}
use Rattle.model.specs.laws.Machine.{new_text}
use Rattle.buffer.specs.Writes.{written}
use Rattle.piece_state.specs.declared.place.Place.{Place}
use Rattle.piece_step.specs.Types.{Report, Dialect, Target}
use Rattle.piece_step.specs.declared.PieceStep.TheVariants.{Next, NeedInput, Failed, BadState}
use Rattle.piece_step.specs.Invariant.{read_at, StateInvariant}
use Rattle.piece_step.specs.Steps.{InBounds, StepReady, StepInBounds, next_bounds, pending_bounds, StepSound, steps_next, steps_pending, steps_stopped}
use Rattle.piece_step.specs.Steps.{steps_nowhere}
use Rattle.piece_step.specs.Calls.{CallStart, CountsRecords}
use Rattle.piece_step.specs.declared.fast.Next as quick
use Rattle.piece_step.specs.FastSteps.{next_step, FastStepReady, FastStepInBounds, next_in_bounds, nothing_in_bounds, FastStepSound, a_record, nothing}
use Rattle.piece_step.proofs.Writes.{piece_room, new_length, new_none, new_more, grows_none, grows_more}
use Rattle.piece_run.specs.Runs.{StepsSoFar, Entered, StepsSound, proceeds_all, proceeds_fault}

-- what a call wrote, and one text more
pub written_over : (new old text : Bytes) → written (over new old) (length new) text ≡ over (new ++ text) old
written_over new old text =
    let a : take (length new) (new ++ drop (length new) old) ≡ new = take-append_seam new (drop (length new) old) in
    let b : drop (length new + length text) (new ++ drop (length new) old) ≡ drop (length (new ++ text)) old =
    drop-append-add new (drop (length new) old) (length text) ∙ drop-drop (length text) (length new) old
    ∙ ap (λ (m : ℕ). drop m old) (sym (length-append new text)) in
    ap₂ (λ (x y : Bytes). x ++ (text ++ y)) a b ∙ sym (append_assoc new text (drop (length (new ++ text)) old))

-- ---- one step after another

unfoldable pub run_begins :
    {d : Dialect} {t : Target} {piece : Bytes} {place : Place} {bytes ends out : List ℕ} {done : List Rec} {k : Buffered} →
    CallStart d t piece place bytes ends out done k → StepsSoFar d t piece place done k out 0 place bytes ends out 0
run_begins {t = t} {out = out} {done = done} {k = k} b =
    record {
      done' = done;
      k' = k;
      hold = b.hold;
      grown = grows_none t done;
      reads = refl;
      text = rw (new_none t done);
      long = rw (new_none t done);
    }

next_is : {x y : quick.Next} → ◌≡◌ {A = Option quick.Next} (Some x) (Some y) → x ≡ y
next_is e = cc

-- a step of a call that had completed the records `mid` when its steps began
pub record Since (mid : List Rec) (d : Dialect) (t : Target) (piece : Bytes) (place : Place) (done : List Rec) (k : Buffered) (out₀ : Bytes) (i : ℕ)
    (p : Place) (bytes ends out : List ℕ) (o : ℕ) : Type 0 where
  pub now : StepsSoFar d t piece place done k out₀ i p bytes ends out o
  pub grows : Grows mid now.done'

module _ {d : Dialect} {t : Target} {piece : Bytes} {place : Place} {done : List Rec} {k : Buffered} {out₀ : Bytes} {i : ℕ} {p : Place}
    {bytes ends out : List ℕ} {o : ℕ} (w : StepsSoFar d t piece place done k out₀ i p bytes ends out o) where
  pub since_begins : Since w.done' d t piece place done k out₀ i p bytes ends out o
  since_begins = record { now = w; grows = grows_none t w.done' }

  -- one record more was read and written
  unfoldable pub walk_more :
      {mid : List Rec} {q : Place} {at end : ℕ} {bytes' ends' out' : List ℕ} → Grows mid w.done' → (x : Rec) (k'' : Buffered) →
      read_from d (Some t) (going (read_at d p w.done' w.k')) (drop i piece) ≡ read_from d (Some t)
      (going (read_at d q (w.done' ++ (x ∷ [])) k'')) (drop at piece) →
      StateInvariant d t q bytes' ends' (w.done' ++ (x ∷ [])) k'' → out' ≡ written out o (record_text t (is_empty w.done') x.cells ++ ending t.dialect) →
      end ≡ o + length (record_text t (is_empty w.done') x.cells ++ ending t.dialect) → Since mid d t piece place done k out₀ at q bytes' ends' out' end
  walk_more g x k'' r h v e =
      let new : new_text t done (w.done' ++ (x ∷ [])) ≡ new_text t done w.done' ++ (record_text t (is_empty w.done') x.cells ++ ending t.dialect) =
      new_more t x w.grown in
      let text : Bytes = record_text t (is_empty w.done') x.cells ++ ending t.dialect in
      record {
        now = record {
          done' = w.done' ++ (x ∷ []);
          k' = k'';
          hold = h;
          grown = grows_more t x w.grown;
          reads = w.reads ∙ r;
          text =
              v ∙ ap₂ (λ (l : Bytes) (m : ℕ). written l m text) w.text w.long ∙ written_over (new_text t done w.done') out₀ text
              ∙ ap (λ (l : Bytes). over l out₀) (sym new);
          long = e ∙ ap (λ (m : ℕ). m + length text) w.long ∙ sym (length-append (new_text t done w.done') text) ∙ ap length (sym new);
        };
        grows = grows_more t x g;
      }

  unfoldable pub walk_on :
      {mid : List Rec} {q : Place} {at end : ℕ} {bytes' ends' out' : List ℕ} → Grows mid w.done' →
      StepSound d t piece i p w.done' w.k' o out bytes' ends' out' (Next q at end) →
      Since mid d t piece place done k out₀ at q bytes' ends' out' end
  walk_on g (steps_next x k'' r h n v e) = walk_more g x k'' r h v e

  -- the same where the fast path found it
  pub walk_quickly :
      {mid : List Rec} {q : Place} {at end : ℕ} {out' : List ℕ} {r : Option quick.Next} → Grows mid w.done' →
      FastStepSound d t piece i p bytes ends w.done' w.k' o out out' r → r ≡ Some (next_step q at end) →
      Since mid d t piece place done k out₀ at q bytes ends out' end
  walk_quickly {mid} {q} {at} {end} {out'} g (a_record {q = q'} {at = at'} {end = end'} x k'' r h v e) z =
      let n = next_is z in
      let a : q' ≡ q = ap (λ (y : quick.Next). y.place) n in
      let b : at' ≡ at = ap (λ (y : quick.Next). y.at) n in
      let c : end' ≡ end = ap (λ (y : quick.Next). y.end) n in
      let s : Since mid d t piece place done k out₀ at' q' bytes ends out' end' = walk_more g x k'' r h v e in
      subst (λ (y : Place). Since mid d t piece place done k out₀ at y bytes ends out' end) a
      (subst (λ (y : ℕ). Since mid d t piece place done k out₀ y q' bytes ends out' end) b
      (subst (λ (y : ℕ). Since mid d t piece place done k out₀ at' q' bytes ends out' y) c s))
  walk_quickly g nothing z = let y : ◌≡◌ {A = ℕ} 0 1 = cc in absurd (omega arith)

  pub walk_pends :
      {q : Place} {e : Report} {bytes' ends' out' : List ℕ} → StepSound d t piece i p w.done' w.k' o out bytes' ends' out' (NeedInput q) →
      InBounds q ends' → e ≡ accepted → (mid : List Rec) → Grows mid w.done' →
      StepsSound d t piece place done k mid out₀ bytes' ends' out' (record { place = q; report = e; length = o })
  walk_pends (steps_pending k'' r h z v) b e mid g = proceeds_all w.done' k'' g (w.reads ∙ r) h b e (v ∙ w.text) w.long

  -- the place that is returned is that of the step
  pub walk_stops :
      {e : Report} {bytes' ends' out' : List ℕ} → StepSound d t piece i p w.done' w.k' o out bytes' ends' out' (Failed e) → (mid : List Rec) →
      Grows mid w.done' → StepsSound d t piece place done k mid out₀ bytes' ends' out' (record { place = p; report = e; length = o })
  walk_stops (steps_stopped x q r f e v) mid g =
      proceeds_fault x q (subst (Grows mid) (sym f) g) (w.reads ∙ r)
      (subst (CountsRecords p) (sym f) (record { records = w.hold.records; columns = w.hold.columns })) e
      (v ∙ w.text ∙ ap (λ (l : List Rec). over (new_text t done l) out₀) (sym f)) (w.long ∙ ap (λ (l : List Rec). length (new_text t done l)) (sym f))

  -- there is always room
  pub walk_nowhere :
      {A : Type 0} {bytes' ends' out' : List ℕ} → Entered d t piece place done k out₀ → length out ≡ length out₀ →
      StepSound d t piece i p w.done' w.k' o out bytes' ends' out' BadState → A
  walk_nowhere b same (steps_nowhere x q at r f l) =
      let text : Bytes = record_text t (is_empty w.done') x.cells ++ ending t.dialect in
      let all : List Rec = w.done' ++ (x ∷ []) in
      let new : new_text t done all ≡ new_text t done w.done' ++ text = new_more t x w.grown in
      let long : length (new_text t done all) ≡ o + length text =
      ap length new ∙ length-append (new_text t done w.done') text ∙ ap (λ (m : ℕ). m + length text) (sym w.long) in
      let most : length (table_text t (rows q.done)) ≤ length (table_text t (rows done)) + LEASTOUTPUT =
      piece_room d t b.reached.consumed (read_at d place done k) b.reached.reads piece (drop at piece) q b.short (w.reads ∙ r) in
      let sum : length (table_text t (rows done)) + length (new_text t done all) ≡ length (table_text t (rows all)) = new_length t (grows_more t x w.grown) in
      let is_all : length (table_text t (rows q.done)) ≡ length (table_text t (rows all)) = ap (λ (z : List Rec). length (table_text t (rows z))) f in
      absurd (omega (arith, b.room))

-- ---- a record of the fast path

-- the position of the run after it
pub record Behind (piece : Bytes) (n i : ℕ) (out : List ℕ) (q : Place) (at end : ℕ) : Type 0 where
  pub bounds : (xs : List ℕ) → InBounds q xs
  pub place : q.offset ≡ n + at
  pub onward : i < at
  pub inside : at ≤ length piece
  pub room : end ≤ length out

pub fast_behind :
    {piece : Bytes} {n i : ℕ} {out out' : List ℕ} {r : Option quick.Next} {q : Place} {at end : ℕ} → FastStepInBounds piece n i out out' r →
    r ≡ Some (next_step q at end) → Behind piece n i out q at end
fast_behind {piece} {n} {i} {out} {q = q} {at = at} {end = end} (next_in_bounds {q = q'} {at = at'} {end = end'} b p f l m) z =
    let s = next_is z in
    let a : q' ≡ q = ap (λ (y : quick.Next). y.place) s in
    let c : at' ≡ at = ap (λ (y : quick.Next). y.at) s in
    let e : end' ≡ end = ap (λ (y : quick.Next). y.end) s in
    subst (λ (y : Place). Behind piece n i out y at end) a
    (subst (λ (y : ℕ). Behind piece n i out q' y end) c
    (subst (λ (y : ℕ). Behind piece n i out q' at' y) e (record { bounds = b; place = p; onward = f; inside = l; room = m })))
fast_behind (nothing_in_bounds w) z = let y : ◌≡◌ {A = ℕ} 0 1 = cc in absurd (omega arith)

pub fast_nothing : {piece : Bytes} {n i : ℕ} {out out' : List ℕ} {r : Option quick.Next} → FastStepInBounds piece n i out out' r → r ≡ None → out' ≡ out
fast_nothing (next_in_bounds b p f l m) z = let y : ◌≡◌ {A = ℕ} 0 1 = cc in absurd (omega arith)
fast_nothing (nothing_in_bounds w) z = w

pub fast_ready :
    {piece : Bytes} {n i : ℕ} {p : Place} {bytes ends out : List ℕ} {o : ℕ} → StepReady piece n i p bytes ends out o → FastStepReady piece n i p out o
fast_ready r = record { offset = r.bounds.offset; before = r.bounds.written; records = r.bounds.records; at = r.at; inside = r.inside; room = r.room }

pub ready_fast :
    {piece : Bytes} {n i : ℕ} {q : Place} {at end : ℕ} {bytes ends out out' : List ℕ} → Behind piece n i out q at end → length out' ≡ length out →
    {p : Place} {o : ℕ} → StepReady piece n i p bytes ends out o → StepReady piece n at q bytes ends out' end
ready_fast {ends = ends} b l r =
    record { bounds = b.bounds ends; at = b.place; inside = b.inside; room = omega (arith, b.room); long_bytes = r.long_bytes; long_ends = r.long_ends }

-- after a fallback nothing has changed
module _ {piece : Bytes} {i : ℕ} {p : Place} {bytes ends out out' : List ℕ} {o : ℕ} (same : out' ≡ out) where
  pub ready_still : {n : ℕ} → StepReady piece n i p bytes ends out o → StepReady piece n i p bytes ends out' o
  ready_still {n} r = subst (λ (x : List ℕ). StepReady piece n i p bytes ends x o) (sym same) r

  pub since_still :
      {mid : List Rec} {d : Dialect} {t : Target} {place : Place} {done : List Rec} {k : Buffered} {out₀ : Bytes} →
      Since mid d t piece place done k out₀ i p bytes ends out o → Since mid d t piece place done k out₀ i p bytes ends out' o
  since_still {mid} {d} {t} {place} {done} {k} {out₀} s = subst (λ (x : List ℕ). Since mid d t piece place done k out₀ i p bytes ends x o) (sym same) s

-- the next step is ready
pub ready_on :
    {piece : Bytes} {n i : ℕ} {q : Place} {at end : ℕ} {bytes ends out : List ℕ} (bytes' ends' out' : List ℕ) →
    StepInBounds piece n i ends' out (Next q at end) → length bytes' ≡ length bytes → length ends' ≡ length ends → length out' ≡ length out →
    {p : Place} {o : ℕ} →
    StepReady piece n i p bytes ends out o → StepReady piece n at q bytes' ends' out' end
ready_on bytes' ends' out' (next_bounds b a on in_piece room none) x y z r =
    record { bounds = b; at = a; inside = in_piece; room = omega arith; long_bytes = x ∙ r.long_bytes; long_ends = y ∙ r.long_ends }

pub proceeds_forward :
    {piece : Bytes} {n i : ℕ} {q : Place} {at end : ℕ} {ends' out : List ℕ} → StepInBounds piece n i ends' out (Next q at end) → (i < at) × (at ≤ length piece)
proceeds_forward (next_bounds b a on in_piece room none) = (on, in_piece)

pub pended_in_bounds : {piece : Bytes} {n i : ℕ} {q : Place} {ends' out : List ℕ} → StepInBounds piece n i ends' out (NeedInput q) → InBounds q ends'
pended_in_bounds (pending_bounds b) = b
