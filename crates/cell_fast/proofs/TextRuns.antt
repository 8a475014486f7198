-- Laws of runs of clean characters: runs of ASCII and of other characters are such runs, they join, and they leave a cell's state
-- unchanged.
use Prim.Native.Nat.{ℕ, ◌≤◌, ◌<◌}
use native.Mathlib.Omega.{arith}
use mathlib.Core.Path.{◌≡◌, refl, ◌∙◌}
use mathlib.Core.Bool.{Bool, true, false, not, ◌&&◌}
use mathlib.Core.List.{[], ◌∷◌, ◌++◌}
use lib.ListN.{length, get_or}
use lib.Dec.{leb}
use borrow.Author.Tests.{ne_eqb, le-leb, le-ltb, leb-true, not-true}
use Rattle.model.specs.declared.Dialect.{Dialect}
use Rattle.model.specs.declared.Dialect.TheVariants.{Csvj, Tdif, CsvPlus}
use Rattle.model.specs.declared.Char.{Char}
use Rattle.model.specs.declared.Char.TheVariants.{Whole, Within}
use Rattle.std.specs.Prelude.{Some}
use Rattle.model.specs.declared.Cell.TheVariants.{Quoted, Plain}
use Rattle.model.specs.declared.CellStep.TheVariants.{More}
use Rattle.model.specs.rules.Base.{Bytes, choose◌then◌else◌, ◌is◌, within, CR, LF, BACKSLASH}
use Rattle.model.specs.rules.Dialect.{quote_of, delimiter_of}
use Rattle.model.specs.rules.Utf8.{char_step}
use Rattle.model.specs.rules.Cell.{quoted_byte, plain_byte, cell_step}
use Rattle.model.specs.rules.Api.{slice}
use Rattle.model.proofs.Tests.{and_true, within_true, impossible}
use Rattle.model.proofs.cell_laws.Utf8.{ascii_whole, quote_ascii}
use Rattle.swar.specs.Words.{clean_ascii, is_clean, all_pass}
use Rattle.swar.proofs.CleanBytes.{clean_is}
use Rattle.swar.proofs.AllPass.{all_join, all_weaker}
use Rattle.utf8.specs.Multibyte.{chars_from, all_high, WideRun}
use Rattle.utf8.proofs.MultibyteRuns.{part_join, chars_on, chars_join}
use Rattle.cell_scanner.proofs.Runs.{part_end}
use Rattle.cell_fast.specs.TextRuns.{PassRun, TextRun, is_open}
use Rattle.cell_fast.specs.CellOutcome.{Results, InQuotes, Passed, QuotedText}
use Rattle.cell_fast.proofs.CellOutcomes.{results_none, results_on, text_comes}

-- ---- what the tests mean

ascii_open : (p q b : ℕ) → clean_ascii p q b ≡ true → (is_open p q b ≡ true) × (b ≤ 0x7F)
unfolding clean_ascii is_open is_clean
ascii_open p q b e =
    let x = and_true (within 0x20 0x7F b && not (b is p) && not (b is q)) (not (b is BACKSLASH)) e in
    let y = and_true (within 0x20 0x7F b && not (b is p)) (not (b is q)) x.0 in
    let z = and_true (within 0x20 0x7F b) (not (b is p)) y.0 in
    let w = within_true 0x20 0x7F b z.0 in
    (rw (le-leb 0x20 b w.0, not-true (b is q) y.1, not-true (b is BACKSLASH) x.1, not-true (b is p) z.1), w.1)

pub open_clean : (p q b : ℕ) → is_open p q b ≡ true → is_clean q b ≡ true
unfolding is_open
open_clean p q b e = (and_true (is_clean q b) (not (b is p)) e).0

high_open : (p q b : ℕ) → p < 0x80 → q < 0x80 → 0x80 ≤ b → is_open p q b ≡ true
unfolding is_open is_clean
high_open p q b hp hq h = rw (le-leb 0x20 b (omega arith), ne_eqb b q (omega arith), ne_eqb b BACKSLASH (omega arith), ne_eqb b p (omega arith))

-- ---- runs

ascii_chars : (passes : ℕ → Bool) → ((b : ℕ) → passes b ≡ true → b ≤ 0x7F) → (bs : Bytes) → all_pass passes bs ≡ true → chars_from Whole bs ≡ Some Whole
unfolding chars_from all_pass
ascii_chars passes low [] e = refl
ascii_chars passes low (b ∷ bs) e =
    let x = and_true (passes b) (all_pass passes bs) e in
    chars_on Whole Whole b bs (ascii_whole b (low b x.0)) ∙ ascii_chars passes low bs x.1

-- ASCII bytes
pub low_text : {passes : ℕ → Bool} {s : Bytes} {at stop r : ℕ} → ((b : ℕ) → passes b ≡ true → b ≤ 0x7F) → PassRun passes s at stop r
    → TextRun passes s at stop r
low_text {passes} {s} {at} {stop} {r} low x = record { from = x.from; upto = x.upto; each = x.each; whole = ascii_chars passes low (slice s at r) x.each }

pub text_weaker : {passes : ℕ → Bool} {s : Bytes} {at stop r : ℕ} (other : ℕ → Bool) → ((b : ℕ) → passes b ≡ true → other b ≡ true)
    → TextRun passes s at stop r → TextRun other s at stop r
text_weaker {passes} {s} {at} {stop} {r} other f x =
    record { from = x.from; upto = x.upto; each = all_weaker passes other f (slice s at r) x.each; whole = x.whole }

pub ascii_text : (p q : ℕ) {s : Bytes} {at stop r : ℕ} → PassRun (clean_ascii p q) s at stop r → TextRun (is_open p q) s at stop r
ascii_text p q x = text_weaker (is_open p q) (λ b e. (ascii_open p q b e).0) (low_text (λ b e. (ascii_open p q b e).1) x)

all_high_lem : (p q : ℕ) (bs : Bytes) → p < 0x80 → q < 0x80 → all_high bs ≡ true → all_pass (is_open p q) bs ≡ true
unfolding all_high all_pass
all_high_lem p q [] hp hq e = refl
all_high_lem p q (b ∷ bs) hp hq e =
    let x = and_true (leb 0x80 b) (all_high bs) e in
    rw (high_open p q b hp hq (leb-true 0x80 b x.0), all_high_lem p q bs hp hq x.1)

pub wide_text : {s : Bytes} {at stop r : ℕ} (p q : ℕ) → p < 0x80 → q < 0x80 → WideRun s at stop r → TextRun (is_open p q) s at stop r
wide_text {s} {at} {stop} {r} p q hp hq x =
    record { from = x.from; upto = x.upto; each = all_high_lem p q (slice s at r) hp hq x.characters.high; whole = x.characters.whole }

pub text_none : {passes : ℕ → Bool} (s : Bytes) (at stop : ℕ) → at ≤ stop → TextRun passes s at stop at
unfolding all_pass chars_from
text_none s at stop h = record { from = omega arith; upto = h; each = rw (part_end s at); whole = rw (part_end s at) }

pub text_join : {passes : ℕ → Bool} {s : Bytes} {at i stop r : ℕ} → TextRun passes s at stop i → TextRun passes s i stop r → TextRun passes s at stop r
text_join {passes} {s} {at} {i} {stop} {r} x y =
    let h : at ≤ i = x.from in
    let k : i ≤ r = y.from in
    let l : slice s at r ≡ slice s at i ++ slice s i r = part_join s at i r h k in
    record {
      from = omega arith;
      upto = y.upto;
      each = rw l (all_join passes (slice s at i) (slice s i r) x.each y.each);
      whole = rw l (chars_join Whole Whole (slice s at i) (slice s i r) x.whole ∙ y.whole);
    }

pub text_clean : (p q : ℕ) {s : Bytes} {at stop r : ℕ} → TextRun (is_open p q) s at stop r → TextRun (is_clean q) s at stop r
text_clean p q x = text_weaker (is_clean q) (open_clean p q) x

-- ---- they leave a cell's state unchanged

quoted_step : (d : Dialect) (c c' : Char) (b : ℕ) → is_clean (quote_of d) b ≡ true → char_step c b ≡ Some c' → cell_step d (Quoted c) b ≡ More (Quoted c')
unfolding cell_step quoted_byte choose◌then◌else◌
quoted_step Csvj Whole c' b e h =
    let k = clean_is (quote_of Csvj) b e in
    rw (k.no_quote, k.no_backslash, le-ltb b 0x20 k.least, h)
quoted_step Tdif Whole c' b e h = let k = clean_is (quote_of Tdif) b e in rw (k.no_quote, h)
quoted_step (CsvPlus s) Whole c' b e h = let k = clean_is (quote_of (CsvPlus s)) b e in rw (k.no_quote, h)
quoted_step d (Within i) c' b e h = rw h

plain_step : (d : Dialect) (c c' : Char) (b : ℕ) → is_open (delimiter_of d) (quote_of d) b ≡ true → char_step c b ≡ Some c' → cell_step d (Plain c) b ≡ More (Plain c')
unfolding cell_step plain_byte is_open choose◌then◌else◌
plain_step d Whole c' b e h =
    let x = and_true (is_clean (quote_of d) b) (not (b is delimiter_of d)) e in
    let k = clean_is (quote_of d) b x.0 in
    let l : 0x20 ≤ b = k.least in
    rw (k.no_quote, not-true (b is delimiter_of d) x.1, ne_eqb b CR (omega arith), ne_eqb b LF (omega arith), h)
plain_step d (Within i) c' b e h = rw h

pub quoted_results : (d : Dialect) {s : Bytes} {at stop r : ℕ} → TextRun (is_clean (quote_of d)) s at stop r → stop ≤ length s → InQuotes d s stop at r
quoted_results d x k = text_comes d Quoted (is_clean (quote_of d)) (quoted_step d) x k

pub plain_results : (d : Dialect) {s : Bytes} {at stop r : ℕ} → TextRun (is_open (delimiter_of d) (quote_of d)) s at stop r → stop ≤ length s
    → Results d s stop (Plain Whole) at (Plain Whole) r
plain_results d x k = text_comes d Plain (is_open (delimiter_of d) (quote_of d)) (plain_step d) x k

-- ---- what stops a run inside quotes and is part of the text

pub wide_passed : (d : Dialect) {s : Bytes} {at stop r : ℕ} → stop ≤ length s → WideRun s at stop r → ¬ (r ≡ at) → Passed d s stop at r
wide_passed d {at = at} {r = r} k x n =
    let f : at ≤ r = x.from in
    let q : quote_of d ≤ 0x7F = quote_ascii d in
    let clean = text_clean (quote_of d) (quote_of d) (wide_text (quote_of d) (quote_of d) (omega arith) (omega arith) x) in
    record { on = omega arith; comes = quoted_results d clean k; clean = λ _. clean.each }

pub ascii_passed : {d : Dialect} {s : Bytes} {at stop r : ℕ} → get_or s at 0 < 0x80 → at < r → InQuotes d s stop at r → Passed d s stop at r
ascii_passed h l x = record { on = l; comes = x; clean = λ l. absurd (omega arith) }

-- ---- the text inside quotes

clean_join : (quote : ℕ) (s : Bytes) (at i r : ℕ) → at ≤ i → i ≤ r → all_pass (is_clean quote) (slice s at i) ≡ true
    → all_pass (is_clean quote) (slice s i r) ≡ true → all_pass (is_clean quote) (slice s at r) ≡ true
clean_join quote s at i r h k x y = rw (part_join s at i r h k) (all_join (is_clean quote) (slice s at i) (slice s i r) x y)

pub quoted_none : (d : Dialect) (s : Bytes) (stop at : ℕ) (clean : Bool) → at ≤ stop → QuotedText d s stop at at clean
unfolding all_pass
quoted_none d s stop at clean h = record { comes = results_none d s stop (Quoted Whole) at h; content = λ _. rw (part_end s at) }

module _ {d : Dialect} {s : Bytes} {stop at i r : ℕ} {clean : Bool} (x : QuotedText d s stop at i clean) where
  -- one run more
  pub quoted_run_on : (q : ℕ) → q ≡ quote_of d → stop ≤ length s → PassRun (clean_ascii q q) s i stop r → QuotedText d s stop at r clean
  quoted_run_on q e k y =
      let run : TextRun (is_clean (quote_of d)) s i stop r = rw e at (text_clean q q (ascii_text q q y)) in
      record {
        comes = results_on x.comes (quoted_results d run k);
        content = λ c. clean_join (quote_of d) s at i r x.comes.from y.from (x.content c) run.each;
      }

  -- then what stopped it
  pub quoted_clean_on : 0x80 ≤ get_or s i 0 → Passed d s stop i r → QuotedText d s stop at r clean
  quoted_clean_on h y =
      record {
        comes = results_on x.comes y.comes;
        content = λ c. clean_join (quote_of d) s at i r x.comes.from y.comes.from (x.content c) (y.clean h);
      }

  pub quoted_other_on : Passed d s stop i r → QuotedText d s stop at r false
  quoted_other_on y = record { comes = results_on x.comes y.comes; content = λ e. impossible e }

-- a clean run alone
pub quoted_run : (d : Dialect) (q : ℕ) {s : Bytes} {at stop r : ℕ} → q ≡ quote_of d → stop ≤ length s → PassRun (clean_ascii q q) s at stop r
    → QuotedText d s stop at r true
quoted_run d q {s} {at} {stop} {r} e k x =
    let h : at ≤ r = x.from in
    let l : r ≤ stop = x.upto in
    quoted_run_on (quoted_none d s stop at true (omega arith)) q e k x

-- then the text after it
pub quoted_join : {d : Dialect} {s : Bytes} {stop at i r : ℕ} {clean : Bool} → QuotedText d s stop at i true → QuotedText d s stop i r clean
    → QuotedText d s stop at r clean
quoted_join {d} {s} {stop} {at} {i} {r} x y =
    record {
      comes = results_on x.comes y.comes;
      content = λ c. clean_join (quote_of d) s at i r x.comes.from y.comes.from (x.content refl) (y.content c);
    }
