-- A cell whose content is one run of ordinary bytes: its quoted text is that run between quotation marks, and it holds no lone surrogate.
use mathlib.Core.Path.{◌≡◌, refl, sym, ap, ◌∙◌}
use mathlib.Core.Bool.{Bool, true, false, not}
use mathlib.Core.List.{[], ◌∷◌, ◌++◌, append-nil}
use Prim.Native.Nat.{ℕ, suc, ◌+◌, ◌-◌, ◌≤◌}
use native.Mathlib.Nat.{le_refl}
use native.Mathlib.Omega.{arith}
use lib.ListN.{length, take, drop, get_or, drop_of_length-le}
use Rattle.model.specs.declared.Dialect.{Dialect}
use Rattle.model.specs.declared.Dialect.TheVariants.{Csvj, Tdif, CsvPlus}
use Rattle.model.specs.declared.Kind.{Kind}
use Rattle.model.specs.declared.Kind.TheVariants.{Text, Number, True, False, Null}
use Rattle.model.specs.rules.Base.{Bytes, choose◌then◌else◌, ◌is◌, begins, QUOTE}
use Rattle.model.specs.rules.Decode.{kind_of, content_of}
use Rattle.model.specs.rules.Dialect.{quote_of}
use Rattle.model.specs.rules.Text.{is_text, cell_text}
use Rattle.model.specs.rules.Utf8.{holds_lone}
use Rattle.model.specs.rules.Api.{kind_named}
use borrow.Author.Tests.{le-leb}
use Rattle.model.proofs.Tests.{split_on, impossible, and_true}
use Rattle.swar.specs.Words.{is_clean, plain_text, passing, AllIn}
use Rattle.buffer.proofs.WriteProgress.{drop_next}
use Rattle.swar.proofs.CleanBytes.{clean_is}
use Rattle.swar.proofs.Spans.{in_ends, in_weaker}
use Rattle.cell_decoder.specs.FirstByte.{spelling_by, content_in}
use Rattle.cell_decoder.specs.Sources.{kind_from, content_by, Encoded, in_file}
use Rattle.cell_decoder.specs.declared.source.Source.{Source}
use Rattle.cell_decoder.specs.declared.source.Source.TheVariants.{File}
use Rattle.cell_decoder.specs.declared.first_byte.Spelling.{Spelling}
use Rattle.cell_decoder.specs.declared.first_byte.Spelling.TheVariants.{AsItStands, Doubled, Escaped}
use Rattle.cell_decoder.proofs.FirstByte.{content_first}
use Rattle.cell_writer.specs.declared.cell.WrittenForm.TheVariants.{AsText}
use Rattle.std.specs.Prelude.{Some}
use Rattle.cell_writer.specs.PlainRuns.{is_plain, plain_run}
use Rattle.cell_writer.specs.Units.{body_text}
use Rattle.cell_writer.specs.Contents.{content_from, source_quote}
use Rattle.cell_writer.specs.Cells.{value_of, text_cell, written_as}
use Rattle.record_writer.specs.Verbatim.{quotes_all, Direct, is_direct, Quotes, no_quotes, a_quote, Inner, unquoted, quoted, Looks, looks_plain}
use Rattle.cell_writer.proofs.PlainRuns.{plain_is}
use Rattle.cell_writer.proofs.Contents.{content_end, closed_doubled, closed_string}
use Rattle.cell_writer.proofs.Bodies.{text_part, lone_part, text_end, lone_end}
use Rattle.cell_writer.proofs.Cells.{text_parts, cell_as_text}

-- ---- a target that quotes every text

quoted_text : (t : Dialect) (only first : Bool) (bs : Bytes) → quotes_all t ≡ true → text_cell t only first bs ≡ QUOTE ∷ (body_text t bs ++ QUOTE ∷ [])
quoted_text Csvj only first bs q = text_parts Csvj only first bs
quoted_text Tdif only first bs q = text_parts Tdif only first bs
quoted_text (CsvPlus s) only first bs q = impossible q

quote_of_lem : (t : Dialect) → quotes_all t ≡ true → QUOTE ≡ quote_of t
quote_of_lem Csvj q = refl
quote_of_lem Tdif q = refl
quote_of_lem (CsvPlus s) q = impossible q

text_written : (t : Dialect) (k : Kind) → quotes_all t ≡ true → is_text k ≡ true → AsText ≡ written_as t k
text_written Csvj Text q e = refl
text_written Tdif Text q e = refl
text_written t Number q e = impossible e
text_written t True q e = impossible e
text_written t False q e = impossible e
text_written t Null q e = impossible e
text_written (CsvPlus s) Text q e = impossible q

-- ---- a content that is the run from i to j

module _ (raw : Bytes) (i j : ℕ) (c : Spelling) (s : QUOTE ≡ source_quote c) (k : j ≡ i + plain_run QUOTE QUOTE QUOTE (drop i raw)) (e : content_from c raw j ≡ [])
    (src : Source) (same : content_by src raw ≡ content_from c raw i) where
  run_text : (t : Dialect) → quotes_all t ≡ true → body_text t (content_by src raw) ≡ take (j - i) (drop i raw)
  run_text t q =
      ap (body_text t) same
      ∙ text_part raw i j QUOTE QUOTE c s k t (quote_of_lem t q)
      ∙ ap (λ (l : Bytes). take (j - i) (drop i raw) ++ l) (text_end t e)
      ∙ append-nil (take (j - i) (drop i raw))

  run_cell : (t : Dialect) (only first : Bool) (kind : Kind) → quotes_all t ≡ true → is_text kind ≡ true
      → cell_text t only first (value_of src kind raw) ≡ QUOTE ∷ (take (j - i) (drop i raw) ++ QUOTE ∷ [])
  run_cell t only first kind q x =
      cell_as_text only first t (value_of src kind raw) (text_written t kind q x)
      ∙ quoted_text t only first (content_by src raw) q
      ∙ ap (λ (l : Bytes). QUOTE ∷ (l ++ QUOTE ∷ [])) (run_text t q)

  run_lone : holds_lone (content_by src raw) ≡ false
  run_lone = ap holds_lone same ∙ lone_part raw i j QUOTE QUOTE c s k ∙ lone_end e

-- ---- without quotes

-- a run does not begin with a quotation mark
run_begins : (raw : Bytes) → plain_run QUOTE QUOTE QUOTE raw ≡ length raw → begins QUOTE raw ≡ false
unfolding plain_run choose◌then◌else◌
run_begins [] e = refl
run_begins (b ∷ bs) e =
    split_on (is_plain QUOTE QUOTE QUOTE b) (λ f. (plain_is QUOTE QUOTE QUOTE b f).no_first) λ f.
    let z : 0 ≡ suc (length bs) = rw f at e in absurd (omega arith)

-- so that it is no text of CSVJ or TDIF
no_string : {A : Type 0} (raw : Bytes) → begins QUOTE raw ≡ false → is_text (kind_of Csvj raw) ≡ true → A
unfolding kind_of choose◌then◌else◌
no_string raw f e =
    split_on (begins 0x74 raw) (λ g. impossible (rw (f, g) at e)) λ g.
    split_on (begins 0x66 raw) (λ h. impossible (rw (f, g, h) at e)) λ h.
    split_on (begins 0x6E raw) (λ k. impossible (rw (f, g, h, k) at e)) λ k. impossible (rw (f, g, h, k) at e)

no_quoted : {A : Type 0} (raw : Bytes) → begins QUOTE raw ≡ false → is_text (kind_of Tdif raw) ≡ true → A
unfolding kind_of choose◌then◌else◌
no_quoted raw f e = impossible (rw f at e)

bare_content :
    (d : Dialect) (raw : Bytes) → quote_of d ≡ QUOTE → is_text (kind_of d raw) ≡ true → plain_run QUOTE QUOTE QUOTE raw ≡ length raw →
    content_of d raw ≡ raw
unfolding content_of choose◌then◌else◌
bare_content Csvj raw h x e = no_string raw (run_begins raw e) x
bare_content Tdif raw h x e = no_quoted raw (run_begins raw e) x
bare_content (CsvPlus s) [] h x e = refl
bare_content (CsvPlus s) (b ∷ bs) h x e = let other : (b is quote_of (CsvPlus s)) ≡ false = rw h (run_begins (b ∷ bs) e) in rw other

-- ---- a cell that passes

-- the content of a cell is the run from i to j, quoted or not
record Run (d : Dialect) (raw : Bytes) (i j : ℕ) : Type 0 where
  pub c : Spelling
  pub quote : QUOTE ≡ source_quote c
  pub reach : j ≡ i + plain_run QUOTE QUOTE QUOTE (drop i raw)
  pub content : content_by (File d) raw ≡ content_from c raw i
  pub ends : content_from c raw j ≡ []

module _ {raw : Bytes} {j : ℕ} (o : get_or raw 0 0 ≡ QUOTE) (r : j ≡ 1 + plain_run QUOTE QUOTE QUOTE (drop 1 raw))
    (k : get_or raw j 0 ≡ QUOTE) (l : j + 1 ≡ length raw) where
  doubled_run : (d : Dialect) → spelling_by d (get_or raw 0 0) ≡ Doubled QUOTE → Run d raw 1 j
  doubled_run d e =
      record {
        c = Doubled QUOTE;
        quote = refl;
        reach = r;
        content = sym (content_first d raw) ∙ ap (λ (c : Spelling). content_in c raw) e;
        ends = closed_doubled QUOTE raw j (omega arith) k (omega arith);
      }

  quoted_run : (d : Dialect) → quote_of d ≡ QUOTE → Run d raw 1 j
  unfolding spelling_by choose◌then◌else◌
  quoted_run Csvj h =
      let spelt : spelling_by Csvj (get_or raw 0 0) ≡ Escaped = rw o in
      record {
        c = Escaped;
        quote = refl;
        reach = r;
        content = sym (content_first Csvj raw) ∙ ap (λ (c : Spelling). content_in c raw) spelt;
        ends = closed_string raw j (omega arith) k;
      }
  quoted_run Tdif h = doubled_run Tdif (rw o)
  quoted_run (CsvPlus s) h = let first : (get_or raw 0 0 is QUOTE) ≡ true = rw o in doubled_run (CsvPlus s) (rw (h, first))

inner_run : (d : Dialect) {raw : Bytes} {i j : ℕ} → quote_of d ≡ QUOTE → is_text (kind_of d raw) ≡ true → Inner raw i j → Run d raw i j
inner_run d {raw} h w (unquoted e) =
    record {
      c = AsItStands;
      quote = refl;
      reach = omega (arith, e);
      content = bare_content d raw h w e;
      ends = content_end AsItStands raw (length raw) (omega arith);
    }
inner_run d h w (quoted o r k l) = quoted_run o r k l d h

-- the text of the cell is that run between quotes, and no lone surrogate is in it
pub record Passed (src : Source) (t : Dialect) (kind : Kind) (raw : Bytes) (i j : ℕ) : Type 0 where
  pub cell : (only first : Bool) → QUOTE ∷ (take (j - i) (drop i raw) ++ QUOTE ∷ []) ≡ cell_text t only first (value_of src kind raw)
  pub lone : false ≡ holds_lone (content_by src raw)

run_passed : {t d : Dialect} {kind : Kind} {raw : Bytes} {i j : ℕ} → quotes_all t ≡ true → is_text kind ≡ true → Run d raw i j → Passed (File d) t kind raw i j
run_passed {t} {d} {kind} {raw} {i} {j} q x p =
    record {
      cell = λ only first. sym (run_cell raw i j p.c p.quote p.reach p.ends (File d) p.content t only first kind q x);
      lone = sym (run_lone raw i j p.c p.quote p.reach p.ends (File d) p.content);
    }

inner_passed :
    {src : Source} {t : Dialect} {kind : Kind} {raw : Bytes} {i j : ℕ} → Encoded src kind raw → Direct src t → is_text kind ≡ true →
    Inner raw i j → Passed src t kind raw i j
inner_passed (in_file {d} _ _ k) (is_direct h q) x p = run_passed q x (inner_run d h (ap is_text (sym k) ∙ x) p)
inner_passed {t = t} {kind = kind} {raw = raw} {i = i} {j = j} Rattle.cell_decoder.specs.Sources.as_content x11 x p = elim x11 [ ]

pub passed :
    {src : Source} {t : Dialect} {direct : Bool} {kind : Kind} {raw : Bytes} {i j : ℕ} → Encoded src kind raw →
    (direct ≡ true → Direct src t) → Looks direct kind raw (Some (i, j))
    → Passed src t kind raw i j
passed s f (looks_plain b x p) = inner_passed s (f b) x p

inner_inside : {raw : Bytes} {i j : ℕ} → Inner raw i j → (i ≤ j) × (j ≤ length raw)
inner_inside (unquoted e) = (omega arith, omega arith)
inner_inside (quoted o r k l) = (omega arith, omega arith)

pub looks_inside : {direct : Bool} {kind : Kind} {raw : Bytes} {i j : ℕ} → Looks direct kind raw (Some (i, j)) → (i ≤ j) × (j ≤ length raw)
looks_inside (looks_plain b x p) = inner_inside p

-- ---- how it is seen

pub quotes_inside : {raw : Bytes} {n : ℕ} → Quotes raw n → (n ≤ length raw) × (n ≤ length raw - n)
quotes_inside no_quotes = (omega arith, omega arith)
quotes_inside (a_quote h o k) = (omega arith, omega arith)

-- a byte that is plain in a text
plain_text_lem : (b : ℕ) → plain_text b ≡ true → is_plain QUOTE QUOTE QUOTE b ≡ true
unfolding plain_text is_plain
plain_text_lem b e =
    let d = and_true (is_clean QUOTE b) (not (b is 0xED)) e in
    let c = clean_is QUOTE b d.0 in
    rw (le-leb 0x20 b c.least, c.no_quote, c.no_backslash, d.1)

run_none : passing (is_plain QUOTE QUOTE QUOTE) [] ≡ 0
unfolding passing
run_none = refl

-- a quotation mark is not
quote_ends : (bs : Bytes) → passing (is_plain QUOTE QUOTE QUOTE) (QUOTE ∷ bs) ≡ 0
unfolding passing is_plain choose◌then◌else◌
quote_ends bs = refl

pub quotes_inner : {raw : Bytes} {n : ℕ} → Quotes raw n → AllIn plain_text raw n (length raw - n) → Inner raw n (length raw - n)
unfolding plain_run
quotes_inner {raw} no_quotes x =
    let n : length raw - 0 ≡ length raw = omega arith in
    let all : AllIn (is_plain QUOTE QUOTE QUOTE) raw 0 (length raw) = in_weaker plain_text (is_plain QUOTE QUOTE QUOTE) plain_text_lem (rw n at x) in
    let none : passing (is_plain QUOTE QUOTE QUOTE) (drop (length raw) raw) ≡ 0
    = (let past : drop (length raw) raw ≡ [] = drop_of_length-le raw (le_refl (length raw)) in rw past run_none) in
    let run = in_ends (is_plain QUOTE QUOTE QUOTE) all (omega arith) (omega arith) none in
    rw n (unquoted (run ∙ n))
quotes_inner {raw} (a_quote h o k) x =
    let all = in_weaker plain_text (is_plain QUOTE QUOTE QUOTE) plain_text_lem x in
    let next : drop (length raw - 1) raw ≡ QUOTE ∷ []
    = drop_next raw (length raw - 1) (length raw) (omega arith) (omega arith) ∙ rw (k, drop_of_length-le raw (le_refl (length raw))) in
    let none : passing (is_plain QUOTE QUOTE QUOTE) (drop (length raw - 1) raw) ≡ 0 = rw next (quote_ends []) in
    let run = in_ends (is_plain QUOTE QUOTE QUOTE) all (omega arith) (omega arith) none in
    quoted {j = length raw - 1} o (omega arith) k (omega arith)

-- 1 is the number of a text
pub text_number : is_text (kind_from 1) ≡ true
unfolding kind_named choose◌then◌else◌
text_number = refl
