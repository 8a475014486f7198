-- Laws of quoted cells: what stops a run inside the quotes and is part of the text, and how the cell begins and ends.
use Prim.Native.Nat.{ℕ, ◌+◌, ◌≤◌, ◌<◌}
use native.Mathlib.Omega.{arith}
use mathlib.Core.Path.{◌≡◌, refl, sym, ap, ◌∙◌}
use mathlib.Core.Bool.{Bool, true, false}
use mathlib.Core.List.{[], ◌∷◌, ◌++◌}
use lib.ListN.{length, get_or}
use borrow.Author.Tests.{eq-eqb, ne_eqb}
use Rattle.model.specs.declared.Dialect.{Dialect}
use Rattle.model.specs.declared.Dialect.TheVariants.{Csvj, Tdif, CsvPlus}
use Rattle.model.specs.declared.HexLeft.{HexLeft}
use Rattle.model.specs.declared.HexLeft.TheVariants.{Four, Three, Two, One}
use Rattle.model.specs.declared.Char.TheVariants.{Whole}
use Rattle.model.specs.declared.Cell.TheVariants.{Fresh, Quoted, Closed, Escape, Hex, Complete}
use Rattle.model.specs.declared.CellStep.TheVariants.{More, Stop}
use Rattle.model.specs.rules.Base.{Bytes, choose◌then◌else◌, QUOTE}
use Rattle.model.specs.rules.Dialect.{quote_of, is_csvj}
use Rattle.model.specs.rules.Cell.{is_hex, is_short, after_hex, first_byte, quoted_byte, cell_step}
use Rattle.model.specs.rules.Api.{slice}
use Rattle.model.proofs.Tests.{impossible}
use Rattle.model.proofs.cell_laws.Utf8.{ascii_whole}
use Rattle.utf8.proofs.MultibyteRuns.{part_join}
use Rattle.cell_scanner.proofs.Runs.{part_next}
use Rattle.cell_fast.specs.Ends.{quoted, FoundSound}
use Rattle.cell_fast.specs.CellOutcome.{InQuotes, QuotedText, Closes}
use Rattle.cell_fast.proofs.PassRuns.{one_byte}
use Rattle.cell_fast.proofs.CellOutcomes.{results_none, comes_byte, results_ends, ends_here}

-- ---- steps

opening : (d : Dialect) (b : ℕ) → b ≡ quote_of d → cell_step d Fresh b ≡ More (Quoted Whole)
unfolding cell_step first_byte choose◌then◌else◌
opening Csvj b e = rw (eq-eqb b (quote_of Csvj) e)
opening Tdif b e = rw (eq-eqb b (quote_of Tdif) e)
opening (CsvPlus s) b e = rw (eq-eqb b (quote_of (CsvPlus s)) e)

backslash : (b : ℕ) → b ≡ 0x5C → cell_step Csvj (Quoted Whole) b ≡ More Escape
unfolding cell_step quoted_byte choose◌then◌else◌
backslash b e = rw e

short : (b : ℕ) → is_short b ≡ true → cell_step Csvj Escape b ≡ More (Quoted Whole)
unfolding cell_step choose◌then◌else◌
short b e = rw e

long : (b : ℕ) → b ≡ 0x75 → cell_step Csvj Escape b ≡ More (Hex Four)
unfolding cell_step choose◌then◌else◌
long b e = rw e

hex : (n : HexLeft) (b : ℕ) → is_hex b ≡ true → cell_step Csvj (Hex n) b ≡ More (after_hex n)
unfolding cell_step choose◌then◌else◌
hex n b e = rw e

-- dialects that double quotes
module _ (d : Dialect) (n : is_csvj d ≡ false) (b : ℕ) where
  quote_first : b ≡ quote_of d → cell_step d (Quoted Whole) b ≡ More Closed
  unfolding cell_step quoted_byte choose◌then◌else◌
  quote_first e = go d n e
    where
      go : (x : Dialect) → is_csvj x ≡ false → b ≡ quote_of x → quoted_byte x b ≡ More Closed
      go Csvj k h = impossible (sym k)
      go Tdif k h = rw (eq-eqb b (quote_of Tdif) h)
      go (CsvPlus s) k h = rw (eq-eqb b (quote_of (CsvPlus s)) h)

  other_byte : ¬ (b ≡ quote_of d) → b < 0x80 → cell_step d (Quoted Whole) b ≡ More (Quoted Whole)
  unfolding cell_step quoted_byte choose◌then◌else◌
  other_byte e l = go d n e
    where
      go : (x : Dialect) → is_csvj x ≡ false → ¬ (b ≡ quote_of x) → quoted_byte x b ≡ More (Quoted Whole)
      go Csvj k h = impossible (sym k)
      go Tdif k h = rw (ne_eqb b (quote_of Tdif) h, ascii_whole b (omega arith))
      go (CsvPlus s) k h = rw (ne_eqb b (quote_of (CsvPlus s)) h, ascii_whole b (omega arith))

quote_second : (d : Dialect) (b : ℕ) → b ≡ quote_of d → cell_step d Closed b ≡ More (Quoted Whole)
unfolding cell_step choose◌then◌else◌
quote_second d b e = rw (eq-eqb b (quote_of d) e)

quote_single : (d : Dialect) (b : ℕ) → ¬ (b ≡ quote_of d) → cell_step d Closed b ≡ Stop
unfolding cell_step choose◌then◌else◌
quote_single d b e = rw (ne_eqb b (quote_of d) e)

string_ends : (b : ℕ) → b ≡ QUOTE → cell_step Csvj (Quoted Whole) b ≡ More Complete
unfolding cell_step quoted_byte choose◌then◌else◌
string_ends b e = rw (eq-eqb b QUOTE e)

pub complete_ends : (d : Dialect) (b : ℕ) → cell_step d Complete b ≡ Stop
unfolding cell_step
complete_ends d b = refl

-- ---- what is part of the text

module _ (s : Bytes) (stop i : ℕ) (k : stop ≤ length s) where
  pub short_escape : i + 2 ≤ stop → get_or s i 0 ≡ 0x5C → is_short (get_or s (i + 1) 0) ≡ true → InQuotes Csvj s stop i (i + 2)
  short_escape h e f =
      let at_first = comes_byte (results_none Csvj s stop (Quoted Whole) i (omega arith)) (omega arith) k Escape (i + 1) refl (backslash (get_or s i 0) e) in
      comes_byte at_first (omega arith) k (Quoted Whole) (i + 2) (omega arith) (short (get_or s (i + 1) 0) f)

  pub long_escape : i + 6 ≤ stop → get_or s i 0 ≡ 0x5C → get_or s (i + 1) 0 ≡ 0x75
      → is_hex (get_or s (i + 2) 0) ≡ true → is_hex (get_or s (i + 3) 0) ≡ true → is_hex (get_or s (i + 4) 0) ≡ true → is_hex (get_or s (i + 5) 0) ≡ true
      → InQuotes Csvj s stop i (i + 6)
  long_escape h e u h2 h3 h4 h5 =
      let c1 = comes_byte (results_none Csvj s stop (Quoted Whole) i (omega arith)) (omega arith) k Escape (i + 1) refl (backslash (get_or s i 0) e) in
      let c2 = comes_byte c1 (omega arith) k (Hex Four) (i + 2) (omega arith) (long (get_or s (i + 1) 0) u) in
      let c3 = comes_byte c2 (omega arith) k (Hex Three) (i + 3) (omega arith) (hex Four (get_or s (i + 2) 0) h2) in
      let c4 = comes_byte c3 (omega arith) k (Hex Two) (i + 4) (omega arith) (hex Three (get_or s (i + 3) 0) h3) in
      let c5 = comes_byte c4 (omega arith) k (Hex One) (i + 5) (omega arith) (hex Two (get_or s (i + 4) 0) h4) in
      comes_byte c5 (omega arith) k (Quoted Whole) (i + 6) (omega arith) (hex One (get_or s (i + 5) 0) h5)

  pub two_quotes : (d : Dialect) → is_csvj d ≡ false → i + 2 ≤ stop → get_or s i 0 ≡ quote_of d → get_or s (i + 1) 0 ≡ quote_of d → InQuotes d s stop i (i + 2)
  two_quotes d n h e f =
      let at_first = comes_byte (results_none d s stop (Quoted Whole) i (omega arith)) (omega arith) k Closed (i + 1) refl (quote_first d n (get_or s i 0) e) in
      comes_byte at_first (omega arith) k (Quoted Whole) (i + 2) (omega arith) (quote_second d (get_or s (i + 1) 0) f)

  pub other_ascii : (d : Dialect) → is_csvj d ≡ false → i < stop → ¬ (get_or s i 0 ≡ quote_of d) → get_or s i 0 < 0x80 → InQuotes d s stop i (i + 1)
  other_ascii d n h e l = comes_byte (results_none d s stop (Quoted Whole) i (omega arith)) h k (Quoted Whole) (i + 1) refl (other_byte d n (get_or s i 0) e l)

  -- ---- how a cell ends

  pub string_closes : i + 2 ≤ stop → get_or s i 0 ≡ QUOTE → Closes Csvj s stop i
  string_closes h e =
      let behind = comes_byte (results_none Csvj s stop (Quoted Whole) i (omega arith)) (omega arith) k Complete (i + 1) refl (string_ends (get_or s i 0) e) in
      record { followed = omega arith; quote = e; ends = ends_here behind (omega arith) k (complete_ends Csvj (get_or s (i + 1) 0)) }

  pub quote_closes : (d : Dialect) → is_csvj d ≡ false → i + 2 ≤ stop → get_or s i 0 ≡ quote_of d → ¬ (get_or s (i + 1) 0 ≡ quote_of d) → Closes d s stop i
  quote_closes d n h e f =
      let behind = comes_byte (results_none d s stop (Quoted Whole) i (omega arith)) (omega arith) k Closed (i + 1) refl (quote_first d n (get_or s i 0) e) in
      record { followed = omega arith; quote = e; ends = ends_here behind (omega arith) k (quote_single d (get_or s (i + 1) 0) f) }

-- the whole cell
pub quoted_found : {d : Dialect} {s : Bytes} {at stop i : ℕ} {clean : Bool} → at < stop → stop ≤ length s → get_or s at 0 ≡ quote_of d
    → QuotedText d s stop (at + 1) i clean → Closes d s stop i → FoundSound d s at stop (record { at = i + 1; clean = clean })
quoted_found {d} {s} {at} {stop} {i} {clean} h k e x y =
    let first = comes_byte (results_none d s stop Fresh at (omega arith)) h k (Quoted Whole) (at + 1) refl (opening d (get_or s at 0) e) in
    let whole = results_ends first (results_ends x.comes y.ends) in
    let l : at + 1 ≤ i = x.comes.from in
    let m : i + 1 < stop = y.followed in
    let last : slice s i (i + 1) ≡ quote_of d ∷ [] = one_byte s i (omega arith) ∙ ap (λ (b : ℕ). b ∷ []) y.quote in
    let inside : slice s (at + 1) (i + 1) ≡ slice s (at + 1) i ++ (quote_of d ∷ []) =
    part_join s (at + 1) i (i + 1) l (omega arith) ∙ ap (λ (r : Bytes). slice s (at + 1) i ++ r) last in
    let cut : slice s at (i + 1) ≡ quote_of d ∷ (slice s (at + 1) i ++ (quote_of d ∷ [])) =
    part_next s at (i + 1) (omega arith) (omega arith) ∙ λ j. e j ∷ inside j in
    record { before = m; ends = whole; content = λ c. rw cut (quoted (slice s (at + 1) i) (x.content c)) }
