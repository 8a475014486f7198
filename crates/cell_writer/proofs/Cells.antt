-- The text of a cell by its parts, and what is known of a cell of a file or of a content.
use mathlib.Core.Path.{◌≡◌, refl, sym, ap, ◌∙◌}
use mathlib.Core.Bool.{Bool, true, false, ◌&&◌, ◌||◌}
use mathlib.Core.List.{[], ◌∷◌, ◌++◌, append-nil}
use Prim.Native.Nat.{ℕ, ◌≤◌}
use native.Mathlib.Omega.{arith}
use lib.ListN.{length, get_or}
use Rattle.model.specs.declared.Settings.{Settings}
use Rattle.model.specs.declared.Dialect.{Dialect}
use Rattle.model.specs.declared.Dialect.TheVariants.{Csvj, Tdif, CsvPlus}
use Rattle.model.specs.declared.Kind.{Kind}
use Rattle.model.specs.declared.Kind.TheVariants.{Text, Number, True, False, Null}
use Rattle.model.specs.rules.Base.{Bytes, choose◌then◌else◌, ◌is◌, holds, is_empty, QUOTE}
use Rattle.model.specs.rules.Dialect.{quote_of, is_csvj}
use Rattle.model.specs.rules.Report.{MAXRECORD}
use Rattle.model.specs.rules.Cell.{is_digit}
use Rattle.model.specs.rules.Decode.{kind_of, content_of}
use Rattle.model.specs.rules.Text.{Value, is_text, special, begins_bom, doubled, json_cell, quoted_text, cell_text, has_quotes}
use Rattle.model.proofs.Tests.{split, split_on, impossible}
use Rattle.model.proofs.cell_laws.Utf8.{quote_ascii}
use Rattle.model.proofs.file_laws.Lengths.{content_length}
use Rattle.buffer.specs.Writes.{Room, WrittenAt}
use Rattle.buffer.proofs.WriteProgress.{Emitting, emitting, put_next, put_whole, same_long}
use Rattle.cell_decoder.specs.FirstByte.{spelling_by, content_in}
use Rattle.cell_decoder.specs.Sources.{spelling_in, content_by, Encoded, in_file, as_content}
use Rattle.cell_decoder.specs.declared.source.Source.{Source}
use Rattle.cell_decoder.specs.declared.first_byte.Spelling.{Spelling}
use Rattle.cell_decoder.specs.declared.first_byte.Spelling.TheVariants.{Doubled}
use Rattle.cell_decoder.proofs.FirstByte.{content_first}
use Rattle.cell_writer.specs.declared.cell.WrittenForm.{WrittenForm}
use Rattle.cell_writer.specs.declared.cell.WrittenForm.TheVariants.{AsText, AsNumber, AsWord}
use Rattle.cell_writer.specs.Units.{body_text}
use Rattle.cell_writer.specs.Contents.{Legible}
use Rattle.cell_writer.specs.Cells.{is_quoted, quote_by, text_cell, number_in, written_as, word_for}
use Rattle.cell_writer.proofs.QuoteDecision.{cell_by}

-- ---- a text: a quote, the body and a quote

first_false : (x y : Bool) → (x || y) ≡ false → x ≡ false
first_false true y e = impossible (sym e)
first_false false y e = refl

second_false : (x y : Bool) → (x || y) ≡ false → y ≡ false
second_false true y e = impossible (sym e)
second_false false y e = e

-- content that needs no quotes holds no quote
nothing_doubled : (s : Settings) (bs : Bytes) → holds (special s) bs ≡ false → doubled (quote_of (CsvPlus s)) bs ≡ bs
unfolding holds doubled choose◌then◌else◌
nothing_doubled s [] e = refl
nothing_doubled s (b ∷ bs) e =
    let f : special s b ≡ false = first_false (special s b) (holds (special s) bs) e in
    let g : (b is quote_of (CsvPlus s)) ≡ false = first_false _ _ (first_false _ _ (first_false _ _ f)) in
    rw g (ap (λ (l : Bytes). b ∷ l) (nothing_doubled s bs (second_false (special s b) (holds (special s) bs) e)))

plus_parts : (s : Settings) (bs : Bytes) (q only first : Bool) → has_quotes s only first bs ≡ q
    → (choose q then quoted_text (quote_of (CsvPlus s)) bs else bs) ≡ quote_by (CsvPlus s) q ++ (doubled (quote_of (CsvPlus s)) bs ++ quote_by (CsvPlus s) q)
unfolding quoted_text choose◌then◌else◌
plus_parts s bs true only first e = refl
plus_parts s bs false only first e =
    let f : holds (special s) bs ≡ false =
    first_false (holds (special s) bs) (only && is_empty bs) (first_false (holds (special s) bs || only && is_empty bs) (first && begins_bom bs) e) in
    sym (append-nil (doubled (quote_of (CsvPlus s)) bs) ∙ nothing_doubled s bs f)

pub text_parts : (t : Dialect) (only first : Bool) (bs : Bytes)
    → let q = quote_by t (is_quoted t only first bs) in text_cell t only first bs ≡ q ++ (body_text t bs ++ q)
unfolding json_cell quoted_text
text_parts Csvj only first bs = refl
text_parts Tdif only first bs = refl
text_parts (CsvPlus s) only first bs = cell_by s only first bs ∙ plus_parts s bs (has_quotes s only first bs) only first refl

pub quote_is : (t : Dialect) {quoted : Bool} {b : ℕ} → quoted ≡ true → b ≡ quote_of t → b ∷ [] ≡ quote_by t quoted
quote_is t e f = rw (e, f)

pub quote_none : (t : Dialect) {quoted : Bool} → quoted ≡ false → quote_by t quoted ≡ []
quote_none t e = rw e

-- ---- writing

pub written_long : (write : Bool) {old : Bytes} {o : ℕ} {w new : Bytes} {r : ℕ} → Room write o w old → WrittenAt write old o w new r → length new ≡ length old
written_long write {old} {o} {w} h p = let q : Emitting write old o w old o (w ++ []) = rw (append-nil w) (emitting write h) in same_long (put_next w q p)

-- nothing is written
pub written_nothing : (write : Bool) {old : Bytes} {o : ℕ} → Room write o [] old → WrittenAt write old o [] old o
written_nothing write r = put_whole (emitting write r)

-- ---- a cell, by its written form

no_number_tdif : (k : Kind) → AsNumber ≡ written_as Tdif k → ⊥
no_number_tdif Text e = let z : ◌≡◌ {A = ℕ} 0 1 = cc in omega arith
no_number_tdif Number e = let z : ◌≡◌ {A = ℕ} 0 1 = cc in omega arith
no_number_tdif True e = let z : ◌≡◌ {A = ℕ} 0 1 = cc in omega arith
no_number_tdif False e = let z : ◌≡◌ {A = ℕ} 0 1 = cc in omega arith
no_number_tdif Null e = let z : ◌≡◌ {A = ℕ} 0 1 = cc in omega arith

module _ (only first : Bool) where
  pub cell_as_text : (t : Dialect) (v : Value) → AsText ≡ written_as t v.kind → cell_text t only first v ≡ text_cell t only first v.content
  unfolding cell_text json_cell choose◌then◌else◌
  cell_as_text Csvj v e = go v.kind e
    where
      go : (k : Kind) → AsText ≡ written_as Csvj k → json_cell k v.content ≡ json_cell Text v.content
      go Text e = refl
      go Number e = let z : ◌≡◌ {A = ℕ} 0 1 = cc in absurd (omega arith)
      go True e = let z : ◌≡◌ {A = ℕ} 0 1 = cc in absurd (omega arith)
      go False e = let z : ◌≡◌ {A = ℕ} 0 1 = cc in absurd (omega arith)
      go Null e = let z : ◌≡◌ {A = ℕ} 0 1 = cc in absurd (omega arith)
  cell_as_text Tdif v e = go v.kind e
    where
      go : (k : Kind) → AsText ≡ written_as Tdif k → (choose is_text k then quoted_text QUOTE v.content else word_for Tdif k) ≡ quoted_text QUOTE v.content
      go Text e = refl
      go Number e = let z : ◌≡◌ {A = ℕ} 0 1 = cc in absurd (omega arith)
      go True e = let z : ◌≡◌ {A = ℕ} 0 1 = cc in absurd (omega arith)
      go False e = let z : ◌≡◌ {A = ℕ} 0 1 = cc in absurd (omega arith)
      go Null e = let z : ◌≡◌ {A = ℕ} 0 1 = cc in absurd (omega arith)
  cell_as_text (CsvPlus s) v e = refl

  pub cell_as_number : (t : Dialect) (v : Value) → AsNumber ≡ written_as t v.kind → cell_text t only first v ≡ v.content
  unfolding cell_text json_cell
  cell_as_number Csvj v e = go v.kind e
    where
      go : (k : Kind) → AsNumber ≡ written_as Csvj k → json_cell k v.content ≡ v.content
      go Text e = let z : ◌≡◌ {A = ℕ} 0 1 = cc in absurd (omega arith)
      go Number e = refl
      go True e = let z : ◌≡◌ {A = ℕ} 0 1 = cc in absurd (omega arith)
      go False e = let z : ◌≡◌ {A = ℕ} 0 1 = cc in absurd (omega arith)
      go Null e = let z : ◌≡◌ {A = ℕ} 0 1 = cc in absurd (omega arith)
  cell_as_number Tdif v e = absurd (no_number_tdif v.kind e)
  cell_as_number (CsvPlus s) v e = let z : ◌≡◌ {A = ℕ} 0 1 = cc in absurd (omega arith)

  pub cell_as_word : (t : Dialect) (v : Value) → AsWord ≡ written_as t v.kind → cell_text t only first v ≡ word_for t v.kind
  unfolding cell_text json_cell choose◌then◌else◌
  cell_as_word Csvj v e = go v.kind e
    where
      go : (k : Kind) → AsWord ≡ written_as Csvj k → json_cell k v.content ≡ word_for Csvj k
      go Text e = let z : ◌≡◌ {A = ℕ} 0 1 = cc in absurd (omega arith)
      go Number e = let z : ◌≡◌ {A = ℕ} 0 1 = cc in absurd (omega arith)
      go True e = refl
      go False e = refl
      go Null e = refl
  cell_as_word Tdif v e = go v.kind e
    where
      go : (k : Kind) → AsWord ≡ written_as Tdif k → (choose is_text k then quoted_text QUOTE v.content else word_for Tdif k) ≡ word_for Tdif k
      go Text e = let z : ◌≡◌ {A = ℕ} 0 1 = cc in absurd (omega arith)
      go Number e = refl
      go True e = refl
      go False e = refl
      go Null e = refl
  cell_as_word (CsvPlus s) v e = let z : ◌≡◌ {A = ℕ} 0 1 = cc in absurd (omega arith)

-- a target that can't represent a lone surrogate writes every text as a text
pub text_way : (t : Dialect) (k : Kind) (w : WrittenForm) → w ≡ written_as t k → is_text k ≡ true → is_csvj t ≡ false → w ≡ AsText
text_way Csvj k w e x y = impossible (sym y)
text_way Tdif Text w e x y = e
text_way Tdif Number w e x y = impossible x
text_way Tdif True w e x y = impossible x
text_way Tdif False w e x y = impossible x
text_way Tdif Null w e x y = impossible x
text_way (CsvPlus s) k w e x y = e

-- only CSVJ writes a number verbatim
pub number_way : (t : Dialect) (k : Kind) → AsNumber ≡ written_as t k → k ≡ Number
number_way Csvj Text e = let z : ◌≡◌ {A = ℕ} 0 1 = cc in absurd (omega arith)
number_way Csvj Number e = refl
number_way Csvj True e = let z : ◌≡◌ {A = ℕ} 0 1 = cc in absurd (omega arith)
number_way Csvj False e = let z : ◌≡◌ {A = ℕ} 0 1 = cc in absurd (omega arith)
number_way Csvj Null e = let z : ◌≡◌ {A = ℕ} 0 1 = cc in absurd (omega arith)
number_way Tdif k e = absurd (no_number_tdif k e)
number_way (CsvPlus s) k e = let z : ◌≡◌ {A = ℕ} 0 1 = cc in absurd (omega arith)

pub number_no_text : {A : Type 0} → AsNumber ≡ AsText → A
number_no_text e = let z : ◌≡◌ {A = ℕ} 0 1 = cc in absurd (omega arith)

no_null : {A : Type 0} → Number ≡ Null → A
no_null e = let z : ◌≡◌ {A = ℕ} 0 1 = cc in absurd (omega arith)

pub word_no_text : {A : Type 0} → AsWord ≡ AsText → A
word_no_text e = let z : ◌≡◌ {A = ℕ} 0 1 = cc in absurd (omega arith)

-- ---- a cell of a file

pub legible_as : {c c' : Spelling} {raw : Bytes} → c ≡ c' → Legible c' raw → Legible c raw
legible_as e p = rw e p

same_quote : {p q : ℕ} → Doubled p ≡ Doubled q → p ≡ q
same_quote e = cc

-- the quote of an encoding is one of the dialect
encoded_quote : (d : Dialect) (b q : ℕ) → spelling_by d b ≡ Doubled q → q ≤ 0x7F
unfolding spelling_by
encoded_quote Csvj b q =
    let P : Spelling → Type 0 = λ (c : Spelling). c ≡ Doubled q → q ≤ 0x7F in
    split P (b is QUOTE) (λ _ e. let z : ◌≡◌ {A = ℕ} 0 1 = cc in absurd (omega arith)) λ _.
    split P (b is 0x2D || is_digit b) (λ _ e. let z : ◌≡◌ {A = ℕ} 0 1 = cc in absurd (omega arith)) λ _ e. let z : ◌≡◌ {A = ℕ} 0 1 = cc in absurd (omega arith)
encoded_quote Tdif b q =
    let P : Spelling → Type 0 = λ (c : Spelling). c ≡ Doubled q → q ≤ 0x7F in
    split P (b is QUOTE) (λ _ e. let f : QUOTE ≡ q = same_quote e in omega arith) λ _ e. let z : ◌≡◌ {A = ℕ} 0 1 = cc in absurd (omega arith)
encoded_quote (CsvPlus s) b q =
    let P : Spelling → Type 0 = λ (c : Spelling). c ≡ Doubled q → q ≤ 0x7F in
    let m : quote_of (CsvPlus s) ≤ 0x7F = quote_ascii (CsvPlus s) in
    split P (b is quote_of (CsvPlus s)) (λ _ e. let f : quote_of (CsvPlus s) ≡ q = same_quote e in omega arith) λ _ e. let z : ◌≡◌ {A = ℕ} 0 1 =
    cc in absurd (omega arith)

pub encoded_legible : {src : Source} {k : Kind} {raw : Bytes} → Encoded src k raw → Legible (spelling_in src raw) raw
encoded_legible (in_file {d} {raw} h j e) =
    let c : Spelling = spelling_by d (get_or raw 0 0) in
    let short : length (content_in c raw) ≤ MAXRECORD = rw (content_first d raw) (omega (arith, content_length d raw)) in
    λ _ _. (λ q f. encoded_quote d (get_or raw 0 0) q f, short, j)
encoded_legible as_content = λ _ a. absurd (a refl)

-- the content of a number is the raw cell, if it begins like a number
no_text : {A : Type 0} → Number ≡ Text → A
no_text e = let z : ◌≡◌ {A = ℕ} 0 1 = cc in absurd (omega arith)

number_in_csvj : (raw : Bytes) → Number ≡ kind_of Csvj raw → content_of Csvj raw ≡ number_in (spelling_by Csvj (get_or raw 0 0)) raw
unfolding content_of kind_of spelling_by choose◌then◌else◌
number_in_csvj [] e = refl
number_in_csvj (b ∷ bs) e = split_on (b is QUOTE) (λ p. no_text (rw p at e)) λ p. split_on (b is 0x2D || is_digit b) (λ q. rw (p, q)) λ q. rw (p, q)

number_content : (d : Dialect) (raw : Bytes) → Number ≡ kind_of d raw → content_of d raw ≡ number_in (spelling_by d (get_or raw 0 0)) raw
unfolding kind_of
number_content Csvj raw e = number_in_csvj raw e
number_content Tdif raw e =
    split (λ (k : Kind). Number ≡ k → content_of Tdif raw ≡ number_in (spelling_by Tdif (get_or raw 0 0)) raw) _ (λ _ f. no_text f) (λ _ f. no_null f) e
number_content (CsvPlus s) raw e = no_text e

pub encoded_number : {src : Source} {k : Kind} {raw : Bytes} → Encoded src k raw → k ≡ Number → content_by src raw ≡ number_in (spelling_in src raw) raw
encoded_number (in_file {d} {raw} h j e) f = number_content d raw (sym f ∙ e)
encoded_number as_content f = refl
