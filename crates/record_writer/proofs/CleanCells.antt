-- A cell whose bytes are ordinary between its quotation marks, or without them where its dialect has such texts, is verbatim.
use Prim.Native.Nat.{ℕ, ◌+◌, ◌-◌, ◌≤◌, ◌<◌}
use native.Mathlib.Nat.{le_refl}
use native.Mathlib.Omega.{arith}
use mathlib.Core.Path.{◌≡◌, refl, sym, ap, ◌∙◌}
use mathlib.Core.Bool.{Bool, true}
use mathlib.Core.List.{List, [], ◌∷◌, ◌++◌}
use lib.ListN.{length, drop, get_or, drop_of_length-le, take-append-drop}
use lib.Seq.{drop-drop}
use borrow.Author.Tests.{eqb-true, eqb-false}
use Rattle.model.specs.declared.Dialect.{Dialect}
use Rattle.model.specs.rules.Base.{Bytes, ◌is◌, QUOTE}
use Rattle.model.proofs.Tests.{split_on}
use Rattle.model.specs.rules.Dialect.{quote_of}
use Rattle.model.specs.rules.Cell.{may_be_empty}
use Rattle.model.specs.rules.Api.{slice}
use Rattle.swar.specs.Words.{all_pass, is_clean, AllIn}
use Rattle.swar.proofs.Spans.{in_all, in_whole}
use Rattle.buffer.proofs.WriteProgress.{drop_next}
use Rattle.cell_decoder.specs.declared.source.Source.{Source}
use Rattle.cell_decoder.specs.Sources.{Cells}
use Rattle.cell_fast.specs.Ends.{CleanCell, bare, quoted, CleanIn}
use Rattle.record_writer.specs.Verbatim.{Quotes, no_quotes, a_quote}
use Rattle.record_writer.specs.Joined.{Parts}

between_quotes :
    (raw : Bytes) → 2 ≤ length raw → get_or raw 0 0 ≡ QUOTE → get_or raw (length raw - 1) 0 ≡ QUOTE →
    raw ≡ QUOTE ∷ (slice raw 1 (length raw - 1) ++ QUOTE ∷ [])
between_quotes raw h o k =
    let n : 1 + (length raw - 1 - 1) ≡ length raw - 1 = omega arith in
    let first : raw ≡ QUOTE ∷ drop 1 raw = drop_next raw 0 1 (omega arith) refl ∙ rw o in
    let last : drop (length raw - 1) raw ≡ QUOTE ∷ []
    = drop_next raw (length raw - 1) (length raw) (omega arith) (omega arith) ∙ rw (k, drop_of_length-le raw (le_refl (length raw))) in
    let rest : drop 1 raw ≡ slice raw 1 (length raw - 1) ++ drop (length raw - 1) raw
    = sym (take-append-drop (length raw - 1 - 1) (drop 1 raw)) ∙ rw (drop-drop, n) in
    first ∙ ap (λ (l : Bytes). QUOTE ∷ l) (rest ∙ rw last)

pub quotes_clean :
    (d : Dialect) {raw : Bytes} {n : ℕ} → quote_of d ≡ QUOTE → Quotes raw n → (n ≡ 0 → may_be_empty d ≡ true) →
    AllIn (is_clean QUOTE) raw n (length raw - n) → CleanCell d raw
quotes_clean d {raw} q no_quotes m x =
    let n : length raw - 0 ≡ length raw = omega arith in
    let all : all_pass (is_clean QUOTE) raw ≡ true = in_whole (is_clean QUOTE) (rw n at x) in
    bare {raw = raw} (m refl) (rw q all)
quotes_clean d {raw} q (a_quote h o k) m x =
    let all : all_pass (is_clean QUOTE) (slice raw 1 (length raw - 1)) ≡ true = in_all (is_clean QUOTE) x (omega arith) in
    let cell : CleanCell d (quote_of d ∷ (slice raw 1 (length raw - 1) ++ quote_of d ∷ [])) = quoted (slice raw 1 (length raw - 1)) (rw q all) in
    rw (between_quotes raw h o k) (rw q at cell)

-- ---- the cells of a record

-- those before place n
pub record CleanBefore (bare : Bool) (s : Bytes) (starts ends : List ℕ) (n : ℕ) : Type 0 where
  pub each : (d : Dialect) → quote_of d ≡ QUOTE → bare ≡ may_be_empty d → (k : ℕ) → k < n → CleanCell d (slice s (get_or starts k 0) (get_or ends k 0))

pub clean_none : {bare : Bool} {s : Bytes} {starts ends : List ℕ} → CleanBefore bare s starts ends 0
clean_none = record { each = λ d q b k h. absurd (omega arith) }

pub clean_next : {bare : Bool} {s : Bytes} {starts ends : List ℕ} {n : ℕ} → CleanBefore bare s starts ends n
    → ((d : Dialect) → quote_of d ≡ QUOTE → bare ≡ may_be_empty d → CleanCell d (slice s (get_or starts n 0) (get_or ends n 0))) →
    CleanBefore bare s starts ends (n + 1)
clean_next {bare} {s} {starts} {ends} {n} x cell =
    record {
      each = λ d q b k h. split_on (k is n) (λ t. rw (eqb-true k n t) (cell d q b)) λ t. let l = eqb-false k n t in x.each d q b k (omega arith);
    }

pub clean_all :
    {d : Dialect} {bare : Bool} {s : Bytes} {starts ends : List ℕ} {n : ℕ} → quote_of d ≡ QUOTE → bare ≡ may_be_empty d → length starts ≤ n →
    CleanBefore bare s starts ends n → CleanIn d s starts ends
clean_all {d} q b h x = record { quotes = q; each = λ k l. x.each d q b k (omega arith) }

-- they are parts of its bytes
pub parts_of : {src : Source} {s : Bytes} {starts ends kinds : List ℕ} → Cells src s starts ends kinds → Parts s starts ends
parts_of cells = record { with_ends = cells.with_ends; each = λ k h. ((cells.each k h).forward, (cells.each k h).within) }
