-- The content of every cell that the decoder accepts has the form that the rules give it, over the dialect.
use Prim.Native.Nat.{ℕ}
use mathlib.Core.Path.{◌≡◌, refl, ◌∙◌}
use mathlib.Core.Bool.{Bool, true, false, ◌||◌}
use mathlib.Core.List.{[], ◌∷◌}
use Rattle.model.specs.rules.Types.{Dialect, Csvj, Tdif, CsvPlus, Whole, Cell, Fresh, Quoted, More, Ok}
use Rattle.model.specs.rules.Base.{Bytes, QUOTE, ◌is◌, choose◌then◌else◌}
use Rattle.model.specs.rules.Utf8.{wide_from, is_content}
use Rattle.model.specs.rules.Cell.{first_byte, cell_step, is_whole, is_digit}
use Rattle.model.specs.rules.Decode.{validate_cell, content_of}
use Rattle.model.proofs.cell_laws.Utf8.{text_content}
use Rattle.model.proofs.cell_laws.CellRuns.{Runs, there, WholeRun, sound_runs}
use Rattle.model.proofs.cell_laws.CellContent.{tdif_content, plus_content, same_more, number_step, number_text, ascii_text, first_number}
use Rattle.model.proofs.cell_laws.JsonContent.{string_content}

csvj_first :
    (b : ℕ) (bs : Bytes) (c' : Cell) {e : Cell} → cell_step Csvj Fresh b ≡ More c' → Runs Csvj c' bs e → is_whole Csvj e ≡ true →
    is_content (content_of Csvj (b ∷ bs)) ≡ true
unfolding content_of is_content wide_from choose◌then◌else◌
csvj_first b bs c' {e} x r w = go (b is QUOTE) (b is 0x2D || is_digit b) refl refl
  where
    opens : (b is QUOTE) ≡ true → Quoted Whole ≡ c'
    opens p = same_more (unfold cell_step first_byte in (rw p at x))

    number : (b is QUOTE) ≡ false → (b is 0x2D || is_digit b) ≡ true → is_content (b ∷ bs) ≡ true
    number p q = let s = number_step (first_number b p q) x in text_content (b ∷ bs) (ascii_text b bs s.0 ∙ number_text s.1 r)

    go : (p q : Bool) → (b is QUOTE) ≡ p → (b is 0x2D || is_digit b) ≡ q → is_content (content_of Csvj (b ∷ bs)) ≡ true
    go true q h k =
        let r' : Runs Csvj (Quoted Whole) bs e = rw (← (opens h)) at r in
        rw h (string_content bs r' w)
    go false true h k = rw (h, k) (number h k)
    go false false h k = rw (h, k)

csvj_content : (raw : Bytes) → WholeRun Csvj Fresh raw → is_content (content_of Csvj raw) ≡ true
unfolding content_of is_content wide_from
csvj_content [] w = refl
csvj_content (b ∷ bs) w = first w.runs w.whole
  where
    first : {e : Cell} → Runs Csvj Fresh (b ∷ bs) e → is_whole Csvj e ≡ true → is_content (content_of Csvj (b ∷ bs)) ≡ true
    first (there {c'} x r) w = csvj_first b bs c' x r w

pub content_form : (d : Dialect) (raw : Bytes) → validate_cell d raw ≡ Ok tt → is_content (content_of d raw) ≡ true
unfolding validate_cell
content_form Csvj raw j = csvj_content raw (sound_runs Csvj Fresh 0 raw j)
content_form Tdif raw j = text_content (content_of Tdif raw) (tdif_content raw (sound_runs Tdif Fresh 0 raw j))
content_form (CsvPlus s) raw j = text_content (content_of (CsvPlus s) raw) (plus_content s raw (sound_runs (CsvPlus s) Fresh 0 raw j))
