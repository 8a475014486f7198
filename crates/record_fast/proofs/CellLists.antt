-- The lists show the cells that the scanner found: each lies in the file, and its number names its kind.
use Prim.Native.Nat.{ℕ, ◌+◌, ◌≤◌, ◌<◌}
use native.Mathlib.Omega.{arith}
use mathlib.Core.Path.{◌≡◌, sym, ap, subst, ◌∙◌}
use mathlib.Core.List.{List, map}
use lib.ListN.{length, take, get_or, length-map, length-take}
use lib.Seq.{get_or-take}
use Rattle.model.specs.declared.Dialect.{Dialect}
use Rattle.model.specs.rules.Base.{Bytes}
use Rattle.model.specs.rules.Decode.{kind_number}
use Rattle.model.specs.rules.Text.{Value}
use Rattle.model.specs.laws.Laws.{All}
use Rattle.model.specs.rules.Report.{MAXCOLUMNS}
use Rattle.model.specs.rules.Api.{slice, starts_of, ends_of, kinds_of}
use Rattle.cell_decoder.specs.declared.source.Source.TheVariants.{File}
use Rattle.cell_decoder.specs.Sources.{cells_in, Cells}
use Rattle.cell_decoder.proofs.CellsIn.{cell_of, stretch_of, cells_are, cells_lie}
use Rattle.record_scanner.specs.Stored.{stored_from}
use Rattle.record_scanner.proofs.StoreLaws.{length_stored_from}
use Rattle.record_scanner.proofs.FilledLists.{stored_from_shown}
use Rattle.cell_fast.specs.Ends.{CleanCell, CleanIn}
use Rattle.record_fast.specs.FastScan.{Clean}
use Rattle.record_fast.specs.CellLists.{LiesIn, Long, SameLengths, Shows}

module _ (d : Dialect) (file : Bytes) {vs : List Value} (a : All (LiesIn d file) vs) where
  cells_stood : cells_in (File d) file (starts_of vs) (ends_of vs) (kinds_of vs) ≡ vs
  cells_stood = cells_are d file (LiesIn d file) (λ v s. cell_of d file v s.content) a

  cells_there : Cells (File d) file (starts_of vs) (ends_of vs) (kinds_of vs)
  cells_there = cells_lie d file (LiesIn d file) (λ v s. stretch_of d file v s.kind s.forward s.within s.short s.sound) a

-- ---- what the scanner left in the lists

shown :
    (φ : Value → ℕ) (vs : List Value) (n : ℕ) (old new : List ℕ) → MAXCOLUMNS ≤ length old → new ≡ stored_from MAXCOLUMNS 0 (map φ vs) old →
    length vs ≡ n → n ≤ MAXCOLUMNS → take n new ≡ map φ vs
shown φ vs n old new l e c h =
    let m : length (map φ vs) ≡ n = length-map vs φ ∙ c in
    ap (take n) e ∙ ap (λ (k : ℕ). take k (stored_from MAXCOLUMNS 0 (map φ vs) old)) (sym m) ∙ stored_from_shown MAXCOLUMNS (map φ vs) old (omega arith) l

module _ (d : Dialect) (file : Bytes) (vs : List Value) (a : All (LiesIn d file) vs) (s₀ e₀ k₀ s e k : List ℕ) (l : Long s₀ e₀ k₀)
    (ps : s ≡ stored_from MAXCOLUMNS 0 (starts_of vs) s₀) (pe : e ≡ stored_from MAXCOLUMNS 0 (ends_of vs) e₀)
    (pk : k ≡ stored_from MAXCOLUMNS 0 (kinds_of vs) k₀) where
  pub still_kept : SameLengths s₀ e₀ k₀ s e k
  still_kept =
      record {
        at_starts = ap length ps ∙ length_stored_from MAXCOLUMNS 0 (starts_of vs) s₀;
        at_ends = ap length pe ∙ length_stored_from MAXCOLUMNS 0 (ends_of vs) e₀;
        at_kinds = ap length pk ∙ length_stored_from MAXCOLUMNS 0 (kinds_of vs) k₀;
      }

  pub still_long : Long s e k
  still_long =
      record {
        at_starts = omega (arith, l.at_starts, still_kept.at_starts);
        at_ends = omega (arith, l.at_ends, still_kept.at_ends);
        at_kinds = omega (arith, l.at_kinds, still_kept.at_kinds);
      }

  module _ (n : ℕ) (c : length vs ≡ n) where
    pub stand_there : n ≤ MAXCOLUMNS → Cells (File d) file (take n s) (take n e) (take n k)
    stand_there h =
        let x : take n s ≡ starts_of vs = shown (λ (v : Value). v.from) vs n s₀ s l.at_starts ps c h in
        let y : take n e ≡ ends_of vs = shown (λ (v : Value). v.upto) vs n e₀ e l.at_ends pe c h in
        let z : take n k ≡ kinds_of vs = shown (λ (v : Value). kind_number v.kind) vs n k₀ k l.at_kinds pk c h in
        rw (x, y, z) (cells_there d file a)

    pub shows : Shows d file vs n s e k
    shows =
        record {
          count = c;
          values = λ h.
              let x : take n s ≡ starts_of vs = shown (λ (v : Value). v.from) vs n s₀ s l.at_starts ps c h in
              let y : take n e ≡ ends_of vs = shown (λ (v : Value). v.upto) vs n e₀ e l.at_ends pe c h in
              let z : take n k ≡ kinds_of vs = shown (λ (v : Value). kind_number v.kind) vs n k₀ k l.at_kinds pk c h in
              rw (x, y, z) (cells_stood d file a);
        }

-- ---- verbatim cells

-- the cells that the lists show are verbatim texts
pub clean_in : {d : Dialect} {file : Bytes} {n : ℕ} {s e : List ℕ} → n ≤ MAXCOLUMNS → Clean d file MAXCOLUMNS 0 n s e → CleanIn d file (take n s) (take n e)
clean_in {d} {file} {n} {s} {e} few c =
    record {
      quotes = c.quotes;
      each =
          λ k l.
          let m : length (take n s) ≤ n = simp length-take (omega arith) in
          let h : k < n = omega arith in
          let z : 0 + k ≡ k = omega arith in
          let x : CleanCell d (slice file (get_or s (0 + k) 0) (get_or e (0 + k) 0)) = c.each k h (omega arith) in
          rw (get_or-take n s k 0 h, get_or-take n e k 0 h) (subst (λ (j : ℕ). CleanCell d (slice file (get_or s j 0) (get_or e j 0))) z x);
    }
