-- The reading state, by the derivation's data: the lines so far, and the text, the raw bytes and the complete cells of the current
-- record (`Lies`). Each step takes a state to the next, and the lines of the whole file stay the same (`joined`).
use Prim.Native.Nat.{ℕ, suc, ◌+◌, ◌≤◌}
use native.Mathlib.Omega.{arith}
use mathlib.Core.Path.{◌≡◌, refl, sym, ap, ◌∙◌}
use mathlib.Core.Bool.{true, false}
use mathlib.Core.List.{List, [], ◌∷◌, ◌++◌, map, append_assoc, append-nil}
use lib.ListN.{length, length-append}
use Rattle.grammar.specs.rfc.Types.{Dialect, FileState, Outside, Passed, Between, Tail, Ends, Ok}
use Rattle.model.specs.rules.Base.{Bytes}
use Rattle.model.specs.rules.Decode.{kind_of, content_of}
use Rattle.model.specs.rules.Report.{MAXFILE, MAXRECORD}
use Rattle.model.specs.rules.File.{counts}
use Rattle.model.specs.rules.Records.{Read, cell_now, closing}
use Rattle.grammar.specs.rfc.Derived.{Derived, Line, line, text_in, Every, every_none, every_cons, Each, each_none, each_cons}
use Rattle.grammar.specs.dialects.FormReads.{decoded, decoded_line}
use Rattle.grammar.specs.Accepted.{ShowsCell, ShowsRecord}
use Rattle.model.proofs.file_laws.FileSteps.{Transition, between_counts, tail_uncounted, ends_uncounted}
use Rattle.grammar.proofs.StepStages.{Stage, at_rest, in_record_lem, in_cell_lem, stage_of, Recording, record_open, cell_open, NoCell, none_at_rest}
use Rattle.grammar.proofs.StepStages.{none_in_record, outside_rests, passed_rests, between_stage, tail_stage, ends_stage, between_no_cell}
use Rattle.grammar.proofs.StepStages.{tail_no_cell, ends_no_cell}

pub each_snoc :
    {A B : Type 0} {R : A → B → Type 0} {xs : List A} {ys : List B} {x : A} {y : B} → Each R xs ys → R x y →
    Each R (xs ++ (x ∷ [])) (ys ++ (y ∷ []))
each_snoc each_none r = each_cons r each_none
each_snoc (each_cons s k) r = each_cons s (each_snoc k r)

pub length_snoc : (xs : Bytes) (b : ℕ) → length (xs ++ (b ∷ [])) ≡ suc (length xs)
length_snoc xs b = let h : length (xs ++ (b ∷ [])) ≡ length xs + 1 = length-append xs (b ∷ []) in omega arith

-- ---- lines from what is pending and what is still to come

abbrev pub prepend : Bytes → List Bytes → List Bytes
prepend raw [] = []
prepend raw (c ∷ cs) = (raw ++ c) ∷ cs

abbrev pub joined : Dialect → (text raw : Bytes) → List Derived → List (Line Bytes) → List (Line Derived)
joined d text raw cells [] = []
joined d text raw cells (line t cs ∷ ls) = line (text ++ t) (cells ++ map (decoded d) (prepend raw cs)) ∷ map (decoded_line d) ls

prepend_none : (cs : List Bytes) → prepend [] cs ≡ cs
prepend_none [] = refl
prepend_none (c ∷ cs) = refl

module _ (d : Dialect) where
  pub joined_rest : (ls : List (Line Bytes)) → joined d [] [] [] ls ≡ map (decoded_line d) ls
  unfolding decoded_line
  joined_rest [] = refl
  joined_rest (line t cs ∷ ls) = rw (prepend_none cs)

  module _ (text raw : Bytes) (cells : List Derived) (b : ℕ) (t : Bytes) (cs : List Bytes) (ls : List (Line Bytes)) where
    pub joined_of_cell :
        (c : Bytes) → joined d text raw cells (line (b ∷ t) ((b ∷ c) ∷ cs) ∷ ls) ≡ joined d (text ++ (b ∷ [])) (raw ++ (b ∷ [])) cells (line t (c ∷ cs) ∷ ls)
    joined_of_cell c = rw (append_assoc text (b ∷ []) t, append_assoc raw (b ∷ []) c)

    pub joined_between : joined d text [] cells (line (b ∷ t) cs ∷ ls) ≡ joined d (text ++ (b ∷ [])) [] cells (line t cs ∷ ls)
    joined_between = rw (append_assoc text (b ∷ []) t)

    pub joined_between_closing :
        joined d text raw cells (line (b ∷ t) ([] ∷ cs) ∷ ls) ≡ joined d (text ++ (b ∷ [])) [] (cells ++ (decoded d raw ∷ [])) (line t cs ∷ ls)
    joined_between_closing =
        rw (append_assoc text (b ∷ []) t, append-nil raw, prepend_none cs, append_assoc cells (decoded d raw ∷ []) (map (decoded d) cs))

    pub joined_tail_closing : joined d text raw cells (line t ([] ∷ cs) ∷ ls) ≡ joined d text [] (cells ++ (decoded d raw ∷ [])) (line t cs ∷ ls)
    joined_tail_closing = rw (append-nil raw, prepend_none cs, append_assoc cells (decoded d raw ∷ []) (map (decoded d) cs))

  module _ (pre : List (Line Derived)) (text raw : Bytes) (cells : List Derived) (ls : List (Line Bytes)) where
    pub joined_ends : pre ++ joined d text [] cells (line [] [] ∷ ls) ≡ (pre ++ (line text cells ∷ [])) ++ joined d [] [] [] ls
    joined_ends = rw (append-nil text, append-nil cells, joined_rest ls, append_assoc pre (line text cells ∷ []) (map (decoded_line d) ls))

    pub joined_ends_closing :
        pre ++ joined d text raw cells (line [] ([] ∷ []) ∷ ls) ≡ (pre ++ (line text (cells ++ (decoded d raw ∷ [])) ∷ [])) ++ joined d [] [] [] ls
    joined_ends_closing =
        rw (append-nil text, append-nil raw, joined_rest ls, append_assoc pre (line text (cells ++ (decoded d raw ∷ [])) ∷ []) (map (decoded_line d) ls))

-- ---- records that fit

-- the first has n bytes already
pub data Fit (n : ℕ) : List (Line Bytes) → Type 0 where
  fit_none : Fit n []
  fit_line :
      {t : Bytes} {cs : List Bytes} {ls : List (Line Bytes)} → n + length t ≤ MAXRECORD → Every (λ l. length (text_in l) ≤ MAXRECORD) ls →
      Fit n (line t cs ∷ ls)

pub fit_rest : (ls : List (Line Bytes)) → Every (λ l. length (text_in l) ≤ MAXRECORD) ls → Fit 0 ls
fit_rest [] every_none = fit_none
fit_rest (line t cs ∷ ls) (every_cons h k) = fit_line {t = t} (omega arith) k

pub rest_fit : {ls : List (Line Bytes)} → Fit 0 ls → Every (λ l. length (text_in l) ≤ MAXRECORD) ls
rest_fit fit_none = every_none
rest_fit (fit_line {t} {cs} h k) = every_cons {x = line t cs} (omega arith) k

-- ---- standings

-- what is pending at each stage
pub data Tidy {A : Type 0} : Stage → (text raw : Bytes) → List A → Type 0 where
  tidy_rest : Tidy at_rest [] [] []
  tidy_record : {text : Bytes} {cells : List A} → Tidy in_record_lem text [] cells
  tidy_cell : {text raw : Bytes} {cells : List A} → Tidy in_cell_lem text raw cells

pub record Lies (d : Dialect) (file seen : Bytes) (r : Read) (pre : List (Line Derived)) (text raw : Bytes) (cells : List Derived) : Type 0 where
  pub done : Each (ShowsRecord file) r.done pre
  pub complete : Each (ShowsCell file) r.cells cells
  pub raw_is : r.raw ≡ raw
  pub size : r.size ≡ length text
  pub fits : length text ≤ MAXRECORD
  pub before : Bytes
  pub held : seen ≡ before ++ raw
  pub opened : r.opened ≡ length before
  pub offset : r.offset ≡ length seen
  pub short : length seen ≤ MAXFILE
  pub tidy : Tidy (stage_of d r.state) text raw cells

module _ {d : Dialect} {file seen : Bytes} {r : Read} {pre : List (Line Derived)} {text raw : Bytes} {cells : List Derived}
    (s : Lies d file seen r pre text raw cells) where
  -- the current cell, were it to end here
  shows_now : (ys : Bytes) → file ≡ seen ++ ys → ShowsCell file (cell_now d r) (decoded d raw)
  shows_now ys e =
      let l : length (s.before ++ raw) ≡ length s.before + length raw = length-append s.before raw in
      record {
        kind = ap (kind_of d) s.raw_is;
        content = ap (content_of d) s.raw_is;
        before = s.before;
        after = ys;
        place = e ∙ ap (λ z. z ++ ys) s.held ∙ append_assoc s.before raw ys;
        from = s.opened;
        upto = s.offset ∙ ap length s.held ∙ l;
      }

  pub closes_now : (ys : Bytes) → file ≡ seen ++ ys → Each (ShowsCell file) (closing d true r) (cells ++ (decoded d raw ∷ []))
  closes_now ys e = each_snoc s.complete (shows_now ys e)

  -- a byte that leaves no cell current
  pub stands_reset :
      (b : ℕ) (next : Read) {pre' : List (Line Derived)} {text' : Bytes} {cells' : List Derived} → suc (length seen) ≤ MAXFILE →
      next.offset ≡ suc r.offset → next.opened ≡ suc r.offset → next.raw ≡ [] → next.size ≡ length text' → length text' ≤ MAXRECORD →
      Each (ShowsRecord file) next.done pre' → Each (ShowsCell file) next.cells cells' → Tidy (stage_of d next.state) text' [] cells' →
      Lies d file (seen ++ (b ∷ [])) next pre' text' [] cells'
  stands_reset b next room o p q z f done complete t =
      let l : length (seen ++ (b ∷ [])) ≡ suc (length seen) = length_snoc seen b in
      let i : suc r.offset ≡ length (seen ++ (b ∷ [])) = ap suc s.offset ∙ sym l in
      record {
        done = done;
        complete = complete;
        raw_is = q;
        size = z;
        fits = f;
        before = seen ++ (b ∷ []);
        held = sym (append-nil (seen ++ (b ∷ [])));
        opened = p ∙ i;
        offset = o ∙ i;
        short = rw l room;
        tidy = t;
      }

  -- a byte of the current cell
  pub stands_more :
      (b : ℕ) (next : Read) → suc (length seen) ≤ MAXFILE → next.done ≡ r.done → next.cells ≡ r.cells → next.raw ≡ r.raw ++ (b ∷ []) →
      next.size ≡ suc r.size → suc (length text) ≤ MAXRECORD → next.opened ≡ r.opened → next.offset ≡ suc r.offset →
      stage_of d next.state ≡ in_cell_lem → Lies d file (seen ++ (b ∷ [])) next pre (text ++ (b ∷ [])) (raw ++ (b ∷ [])) cells
  stands_more b next room dn cn rn zn f on off g =
      let l : length (seen ++ (b ∷ [])) ≡ suc (length seen) = length_snoc seen b in
      let m : length (text ++ (b ∷ [])) ≡ suc (length text) = length_snoc text b in
      record {
        done = rw dn s.done;
        complete = rw cn s.complete;
        raw_is = rn ∙ ap (λ z. z ++ (b ∷ [])) s.raw_is;
        size = zn ∙ ap suc s.size ∙ sym m;
        fits = rw m f;
        before = s.before;
        held = ap (λ z. z ++ (b ∷ [])) s.held ∙ append_assoc s.before raw (b ∷ []);
        opened = on ∙ s.opened;
        offset = off ∙ ap suc s.offset ∙ sym l;
        short = rw l room;
        tidy = rw g tidy_cell;
      }

-- ---- what a step does to what is pending

-- nothing was pending, and nothing is
pub data Rested (d : Dialect) (h : FileState) {A : Type 0} : (text raw : Bytes) → List A → Type 0 where
  rested : stage_of d h ≡ at_rest → Rested d h [] [] []

-- no cell was current, and the record continues
pub data Parted (d : Dialect) (h : FileState) (c : Type 0) (text : Bytes) : (raw : Bytes) → Type 0 where
  parted : c → Recording (stage_of d h) → Parted d h c text []

-- no cell was current, and the record is complete
pub data Ended (d : Dialect) (h : FileState) (c : Type 0) (text : Bytes) : (raw : Bytes) → Type 0 where
  ended : c → stage_of d h ≡ at_rest → Ended d h c text []

pub recording_tidy : {A : Type 0} {g : Stage} {text : Bytes} {cells : List A} → Recording g → Tidy g text [] cells
recording_tidy record_open = tidy_record
recording_tidy cell_open = tidy_cell

pub rest_tidy : {A : Type 0} {g : Stage} → g ≡ at_rest → Tidy {A = A} g [] [] []
rest_tidy e = rw e tidy_rest

pub rested_none :
    {d : Dialect} {h : FileState} {A : Type 0} {text raw : Bytes} {cells : List A} → Rested d h text raw cells →
    (cells ≡ []) × (stage_of d h ≡ at_rest)
rested_none (rested g) = (refl, g)

pub parted_tidy : {d : Dialect} {h : FileState} {c A : Type 0} {text raw : Bytes} {cells : List A} → Parted d h c text raw → Tidy (stage_of d h) text [] cells
parted_tidy (parted c g) = recording_tidy g

rest_stays :
    {d : Dialect} {h : FileState} {A : Type 0} {text raw : Bytes} {cells : List A} → stage_of d h ≡ at_rest → Tidy at_rest text raw cells →
    Rested d h text raw cells
rest_stays e tidy_rest = rested e

no_raw : {g : Stage} {A : Type 0} {text raw : Bytes} {cells : List A} → NoCell g → Tidy g text raw cells → raw ≡ []
no_raw none_at_rest tidy_rest = refl
no_raw none_in_record tidy_record = refl

module _ {d : Dialect} {f h : FileState} {b : ℕ} {A : Type 0} {text raw : Bytes} {cells : List A} where
  pub moved_outside : Transition d f b (Ok (h, Outside)) → Tidy (stage_of d f) text raw cells → Rested d h text raw cells
  moved_outside x t = let e = outside_rests x in rest_stays e.1 (rw e.0 at t)

  pub moved_passed : Transition d f b (Ok (h, Passed)) → Tidy (stage_of d f) text raw cells → Rested d h text raw cells
  moved_passed x t = let e = passed_rests x in rest_stays e.1 (rw e.0 at t)

  pub moved_between : Transition d f b (Ok (h, Between false)) → Tidy (stage_of d f) text raw cells → Parted d h (counts f b ≡ true) text raw
  moved_between x t = rw (no_raw (between_no_cell x) t) (parted (between_counts x) (between_stage x))

  pub moved_tail : Transition d f b (Ok (h, Tail false)) → Tidy (stage_of d f) text raw cells → Parted d h (counts f b ≡ false) text raw
  moved_tail x t = rw (no_raw (tail_no_cell x) t) (parted (tail_uncounted x) (tail_stage x))

  pub moved_ends : Transition d f b (Ok (h, Ends false)) → Tidy (stage_of d f) text raw cells → Ended d h (counts f b ≡ false) text raw
  moved_ends x t = rw (no_raw (ends_no_cell x) t) (ended (ends_uncounted x) (ends_stage x))
