-- The decoder accepts the text of every cell that a table may hold and the target can represent, with its kind and content: one case
-- for each kind, by the files for strings and texts.
use Prim.Native.Nat.{ℕ}
use mathlib.Core.Path.{◌≡◌, refl, sym, ◌∙◌}
use mathlib.Core.Bool.{Bool, true, false, ◌&&◌, ◌||◌}
use mathlib.Core.List.{[], ◌∷◌}
use Rattle.model.specs.rules.Types.{Kind, Text, Number, True, False, Null, Settings, Dialect, Csvj, Tdif, CsvPlus, Cell, Fresh, CellStep, More}
use Rattle.model.specs.rules.Types.{CellCheck, Ok, Err}
use Rattle.model.specs.rules.Base.{Bytes, QUOTE, ◌is◌, holds, choose◌then◌else◌, is_empty}
use Rattle.model.specs.rules.Dialect.{quote_of}
use Rattle.model.specs.rules.Utf8.{holds_lone, is_content}
use Rattle.model.specs.rules.Cell.{is_digit, first_byte, cell_step, is_whole}
use Rattle.model.specs.rules.Decode.{validate_from, validate_cell, kind_of, content_of}
use Rattle.model.specs.rules.Text.{Value, begins_bom, special, quoted_text, csv_plus_cell, json_cell, cell_text}
use Rattle.model.specs.rules.Records.{has_kind, loses_surrogate}
use Rattle.model.specs.rules.Api.{is_number, is_value}
use Rattle.model.specs.laws.RoundTrips.{Back, CellTrip}
use Rattle.model.proofs.Tests.{split, impossible, is→eq}
use Rattle.model.proofs.cell_laws.CellRuns.{Runs, there, sound_runs}
use Rattle.model.proofs.cell_laws.CellContent.{Doubles, d_tdif, d_plus, no_more}
use Rattle.model.proofs.round_trip.TextBack.{or_false, content_text, quoted_sound, quoted_content, quoted_kind, plain_sound, plain_content}
use Rattle.model.proofs.round_trip.JsonRuns.{json_sound, json_content}
use Rattle.model.specs.rules.Types.{cell_fault}

-- ---- the cells that a table can hold

pub data Valid : Kind → Bytes → Type 0 where
  v_text : {bs : Bytes} → is_content bs ≡ true → Valid Text bs
  v_number : {bs : Bytes} → kind_of Csvj bs ≡ Number → validate_cell Csvj bs ≡ Ok tt → Valid Number bs
  v_true : Valid True []
  v_false : Valid False []
  v_null : Valid Null []

number_case : (bs : Bytes) (k : Kind) (j : CellCheck) → kind_of Csvj bs ≡ k → validate_cell Csvj bs ≡ j → is_number k j ≡ true → Valid Number bs
number_case bs Text j e f h = impossible h
number_case bs Number (Ok _) e f h = v_number e f
number_case bs Number (Err u) e f h = impossible h
number_case bs True j e f h = impossible h
number_case bs False j e f h = impossible h
number_case bs Null j e f h = impossible h

pub valid_cases : (k : Kind) (bs : Bytes) → is_value k bs ≡ true → Valid k bs
valid_cases Text bs e = v_text e
valid_cases Number bs e = number_case bs (kind_of Csvj bs) (validate_cell Csvj bs) refl refl e
valid_cases True [] e = v_true
valid_cases True (b ∷ bs) e = impossible e
valid_cases False [] e = v_false
valid_cases False (b ∷ bs) e = impossible e
valid_cases Null [] e = v_null
valid_cases Null (b ∷ bs) e = impossible e

pub valid_value : {k : Kind} {bs : Bytes} → Valid k bs → is_value k bs ≡ true
valid_value (v_text e) = e
valid_value (v_number e j) = rw (e, j)
valid_value v_true = refl
valid_value v_false = refl
valid_value v_null = refl

-- ---- a number is its own text

no_kind : {A : Type 0} (k : Kind) → is_number k (Ok tt) ≡ false → k ≡ Number → A
no_kind k f e = impossible (sym f ∙ number e)
  where
    number : k ≡ Number → is_number k (Ok tt) ≡ true
    number e = rw e

or_right : (x y : Bool) → y ≡ true → (x || y) ≡ true
or_right true y e = refl
or_right false y e = e

module _ (b : ℕ) (bs : Bytes) (c : Cell) (k : kind_of Csvj (b ∷ bs) ≡ Number) where
  no_text : (b is QUOTE) ≡ false
  unfolding kind_of choose◌then◌else◌
  no_text = go (b is QUOTE) refl
    where
      go : (t : Bool) → (b is QUOTE) ≡ t → t ≡ false
      go false q = refl
      go true q = no_kind Text refl (rw q at k)

  abbrev Digit : CellStep → Type 0
  Digit a = a ≡ More c → (b is 0x2D || is_digit b) ≡ true

  first_digit : Digit (cell_step Csvj Fresh b)
  unfolding cell_step first_byte kind_of
  first_digit =
      split Digit (b is QUOTE) (λ q _. impossible (sym no_text ∙ q)) λ q.
      split Digit (b is 0x2D) (λ p _. rw p) λ p.
      split Digit (b is 0x30) (λ z _. rw (is→eq b 0x30 z)) λ z.
      split Digit (is_digit b) (λ w _. or_right (b is 0x2D) (is_digit b) w) λ w.
      split Digit (b is 0x74) (λ t _. unfold choose◌then◌else◌ in no_kind True refl (rw (q, t) at k)) λ t.
      split Digit (b is 0x66) (λ f _. unfold choose◌then◌else◌ in no_kind False refl (rw (q, t, f) at k)) λ f.
      split Digit (b is 0x6E) (λ n _. unfold choose◌then◌else◌ in no_kind Null refl (rw (q, t, f, n) at k)) λ n y. no_more y

pub number_content : (bs : Bytes) → kind_of Csvj bs ≡ Number → validate_cell Csvj bs ≡ Ok tt → content_of Csvj bs ≡ bs
unfolding content_of validate_cell choose◌then◌else◌
number_content [] k j = refl
number_content (b ∷ bs) k j = let w = sound_runs Csvj Fresh 0 (b ∷ bs) j in go w.runs
  where
    go : {e : Cell} → Runs Csvj Fresh (b ∷ bs) e → content_of Csvj (b ∷ bs) ≡ b ∷ bs
    go (there {c'} x r) = rw (no_text b bs c' k, first_digit b bs c' k x)

-- ---- a cell's text is read back

abbrev pub cell_value : (from upto : ℕ) → Kind → Bytes → Value
cell_value f u k bs = record { from = f; upto = u; kind = k; content = bs }

json_cell_lem : (only first : Bool) (f u : ℕ) {k : Kind} {bs : Bytes} → Valid k bs → Back Csvj (cell_text Csvj only first (cell_value f u k bs)) (cell_value f u k bs)
unfolding cell_text json_cell kind_of content_of validate_cell validate_from cell_step first_byte is_whole choose◌then◌else◌
json_cell_lem only first f u (v_text {bs} e) = record { sound = json_sound bs e; kind = refl; content = json_content bs e }
json_cell_lem only first f u (v_number {bs} e j) = record { sound = j; kind = e; content = number_content bs e j }
json_cell_lem only first f u v_true = record { sound = refl; kind = refl; content = refl }
json_cell_lem only first f u v_false = record { sound = refl; kind = refl; content = refl }
json_cell_lem only first f u v_null = record { sound = refl; kind = refl; content = refl }

quoted_back :
    {d : Dialect} (f u : ℕ) (bs : Bytes) → Doubles d → is_content bs ≡ true → holds_lone bs ≡ false →
    Back d (quoted_text (quote_of d) bs) (cell_value f u Text bs)
quoted_back {d} f u bs k e n = record { sound = quoted_sound d k bs (content_text bs e n); kind = quoted_kind bs k; content = quoted_content bs k }

tdif_cell :
    (only first : Bool) (f u : ℕ) {k : Kind} {bs : Bytes} → Valid k bs → has_kind Tdif k ≡ true →
    loses_surrogate Tdif (cell_value f u k bs) ≡ false → Back Tdif (cell_text Tdif only first (cell_value f u k bs)) (cell_value f u k bs)
unfolding cell_text kind_of content_of validate_cell validate_from cell_step first_byte is_whole choose◌then◌else◌
tdif_cell only first f u (v_text {bs} e) c n = quoted_back f u bs d_tdif e n
tdif_cell only first f u (v_number e j) c n = impossible c
tdif_cell only first f u v_true c n = impossible c
tdif_cell only first f u v_false c n = impossible c
tdif_cell only first f u v_null c n = record { sound = refl; kind = refl; content = refl }

plus_text :
    (s : Settings) (only first : Bool) (f u : ℕ) (bs : Bytes) → is_content bs ≡ true → holds_lone bs ≡ false →
    Back (CsvPlus s) (csv_plus_cell s only first bs) (cell_value f u Text bs)
unfolding csv_plus_cell kind_of
plus_text s only first f u bs e n =
    split (λ t. Back (CsvPlus s) t (cell_value f u Text bs)) _ (λ _. quoted_back f u bs d_plus e n) λ q.
    let h : holds (special s) bs ≡ false
    = (or_false (holds (special s) bs) (only && is_empty bs)
    (or_false (holds (special s) bs || only && is_empty bs) (first && begins_bom bs) q).0).0 in
    record { sound = plain_sound s bs (content_text bs e n) h; kind = refl; content = plain_content s bs h }

plus_cell_lem :
    (s : Settings) (only first : Bool) (f u : ℕ) {k : Kind} {bs : Bytes} → Valid k bs → has_kind (CsvPlus s) k ≡ true →
    loses_surrogate (CsvPlus s) (cell_value f u k bs) ≡ false →
    Back (CsvPlus s) (cell_text (CsvPlus s) only first (cell_value f u k bs)) (cell_value f u k bs)
unfolding cell_text
plus_cell_lem s only first f u (v_text {bs} e) c n = plus_text s only first f u bs e n
plus_cell_lem s only first f u (v_number e j) c n = impossible c
plus_cell_lem s only first f u v_true c n = impossible c
plus_cell_lem s only first f u v_false c n = impossible c
plus_cell_lem s only first f u v_null c n = impossible c

-- the decoder accepts the text of any such cell, with its kind and content, in every dialect
pub cell_back : CellTrip
cell_back Csvj only first v c = json_cell_lem only first v.from v.upto (valid_cases v.kind v.content c.value)
cell_back Tdif only first v c = tdif_cell only first v.from v.upto (valid_cases v.kind v.content c.value) c.has_kind_lem c.keeps_text
cell_back (CsvPlus s) only first v c = plus_cell_lem s only first v.from v.upto (valid_cases v.kind v.content c.value) c.has_kind_lem c.keeps_text
