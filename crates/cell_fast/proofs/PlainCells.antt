-- Laws of unquoted cells of CSV+: a cell that does not begin with a quote is read as its text is, and ends before a delimiter or a line
-- break.
use Prim.Native.Nat.{ℕ, ◌≤◌, ◌<◌}
use native.Mathlib.Omega.{arith}
use mathlib.Core.Path.{◌≡◌, refl, sym, ap, ◌∙◌}
use mathlib.Core.Bool.{Bool, true, false, ◌||◌}
use lib.ListN.{length, get_or}
use borrow.Author.Tests.{ne_eqb}
use Rattle.model.specs.declared.Delimiter.{Delimiter}
use Rattle.model.specs.declared.Delimiter.TheVariants.{Comma, Semicolon, Tab, Bar}
use Rattle.model.specs.declared.Quote.{Quote}
use Rattle.model.specs.declared.Quote.TheVariants.{Double, Single}
use Rattle.model.specs.declared.Dialect.{Dialect}
use Rattle.model.specs.declared.Dialect.TheVariants.{Csvj, Tdif, CsvPlus}
use Rattle.model.specs.declared.Char.TheVariants.{Whole}
use Rattle.model.specs.declared.Cell.{Cell}
use Rattle.model.specs.declared.Cell.TheVariants.{Fresh, Plain}
use Rattle.model.specs.declared.CellStep.{CellStep}
use Rattle.model.specs.declared.CellStep.TheVariants.{More, Stop, Refuse}
use Rattle.model.specs.rules.Base.{Bytes, choose◌then◌else◌, ◌is◌, CR, LF}
use Rattle.model.specs.rules.Dialect.{quote_of, delimiter_of, quote_byte, delimiter_byte}
use Rattle.model.specs.rules.Cell.{may_be_empty, first_byte, plain_byte, cell_step}
use Rattle.model.proofs.Tests.{impossible}
use Rattle.cell_scanner.specs.declared.CellEnd.TheVariants.{Stopped}
use Rattle.cell_scanner.proofs.Runs.{rest_more, rest_stops, rest_refused}
use Rattle.cell_fast.specs.Ends.{bare, EndsFrom, FoundSound}
use Rattle.cell_fast.specs.TextRuns.{TextRun, is_open}
use Rattle.cell_fast.specs.CellOutcome.{is_end}
use Rattle.cell_fast.proofs.CellOutcomes.{ends_here}
use Rattle.cell_fast.proofs.TextRuns.{text_clean, plain_results}

-- two states in which a byte has the same effect end at the same offset
same_end : {d : Dialect} {s : Bytes} {stop at end : ℕ} (c t : Cell) → at < stop → stop ≤ length s
    → cell_step d c (get_or s at 0) ≡ cell_step d t (get_or s at 0) → EndsFrom d s stop t at end → EndsFrom d s stop c at end
same_end {d} {s} {stop} {at} {end} c t h k same x = go (cell_step d t (get_or s at 0)) refl
  where
    go : (o : CellStep) → cell_step d t (get_or s at 0) ≡ o → EndsFrom d s stop c at end
    go (More u) e = record { cell = x.cell; ran = rest_more d c s at stop h k u (same ∙ e) ∙ sym (rest_more d t s at stop h k u e) ∙ x.ran }
    go Stop e =
        let z : Stopped t at ≡ Stopped x.cell end = sym (rest_stops d t s at stop h k e) ∙ x.ran in
        let n : at ≡ end = cc in
        record { cell = c; ran = rest_stops d c s at stop h k (same ∙ e) ∙ ap (Stopped c) n }
    go (Refuse f) e =
        let z = sym (rest_refused d t s at stop h k f e) ∙ x.ran in
        let w : ◌≡◌ {A = ℕ} 0 1 = cc in
        absurd (omega arith)

first_same : (d : Dialect) (b : ℕ) → may_be_empty d ≡ true → ¬ (b ≡ quote_of d) → cell_step d Fresh b ≡ cell_step d (Plain Whole) b
unfolding cell_step first_byte plain_byte choose◌then◌else◌
first_same Csvj b m n = impossible m
first_same Tdif b m n = impossible m
first_same (CsvPlus s) b m n = rw (ne_eqb b (quote_of (CsvPlus s)) n)

end_no_quote : (d : Dialect) (b : ℕ) → may_be_empty d ≡ true → is_end (delimiter_of d) b ≡ true → (b is quote_of d) ≡ false
end_no_quote Csvj b m e = impossible m
end_no_quote Tdif b m e = impossible m
end_no_quote (CsvPlus s) b m e = ne_eqb b (quote_byte s.quote) (go s.delimiter s.quote e)
  where
    go : (p : Delimiter) (q : Quote) → is_end (delimiter_byte p) b ≡ true → ¬ (b ≡ quote_byte q)
    go Comma Double f h = impossible (rw h at f)
    go Comma Single f h = impossible (rw h at f)
    go Semicolon Double f h = impossible (rw h at f)
    go Semicolon Single f h = impossible (rw h at f)
    go Tab Double f h = impossible (rw h at f)
    go Tab Single f h = impossible (rw h at f)
    go Bar Double f h = impossible (rw h at f)
    go Bar Single f h = impossible (rw h at f)

end_stops : (d : Dialect) (b : ℕ) → may_be_empty d ≡ true → is_end (delimiter_of d) b ≡ true → cell_step d (Plain Whole) b ≡ Stop
unfolding cell_step plain_byte choose◌then◌else◌
end_stops d b m e = rw (end_no_quote d b m e, go (b is delimiter_of d) (b is LF) (b is CR) e)
  where
    go : (x y z : Bool) → (x || y || z) ≡ true → (x || z || y) ≡ true
    go true y z f = refl
    go false true true f = refl
    go false true false f = refl
    go false false true f = refl
    go false false false f = impossible f

pub plain_found : (d : Dialect) {s : Bytes} {at stop i : ℕ} → may_be_empty d ≡ true → at < stop → stop ≤ length s → ¬ (get_or s at 0 ≡ quote_of d)
    → TextRun (is_open (delimiter_of d) (quote_of d)) s at stop i → i < stop → is_end (delimiter_of d) (get_or s i 0) ≡ true → FoundSound d s at stop (record { at = i; clean = true })
plain_found d {s} {at} {stop} {i} m h k n x l e =
    let plain = ends_here (plain_results d x k) l k (end_stops d (get_or s i 0) m e) in
    let whole = same_end Fresh (Plain Whole) h k (first_same d (get_or s at 0) m n) plain in
    record { before = l; ends = whole; content = λ _. bare m (text_clean (delimiter_of d) (quote_of d) x).each }
