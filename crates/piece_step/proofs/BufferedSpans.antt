-- Cells that are buffered one after another, each a span of the file, are encoded as in the file; and so they are in every file that
-- begins with it.
use Prim.Native.Nat.{ℕ, ◌+◌, ◌-◌, ◌≤◌}
use native.Mathlib.Omega.{arith}
use mathlib.Core.Path.{◌≡◌, refl, sym, ap, subst, ◌∙◌}
use mathlib.Core.List.{List, [], ◌∷◌, ◌++◌, map, append_assoc}
use lib.ListN.{length, take, drop, length-append, length-drop, take-append-drop}
use lib.Seq.{take-append-le, drop-append-le}
use Rattle.model.specs.rules.Base.{Bytes}
use Rattle.model.specs.rules.Text.{Value}
use Rattle.model.specs.rules.Api.{slice}
use Rattle.model.specs.laws.Laws.{All, all_none, all_cons}
use Rattle.model.specs.rules.Records.{Rec}
use Rattle.model.specs.laws.Scans.{RawCell, Scan, value_of}
use Rattle.model.specs.laws.Places.{SpanIn, ScanIn, buffered_bytes, buffered_ends}
use Rattle.model.proofs.Spans.{part_is}
use Rattle.piece_state.specs.CurrentRecord.{CurrentRecord}
use Rattle.piece_step.specs.Types.{Dialect}
use Rattle.piece_step.specs.Steps.{EncodedInFile, all_encoded, next_encoded}
use Rattle.piece_step.specs.Calls.{Named}

-- ---- buffered cells

-- more ends may follow
encoded_more :
    {file bytes : Bytes} {at : ℕ} {ends : List ℕ} {vs : List Value} (more : List ℕ) → EncodedInFile file bytes at ends vs →
    EncodedInFile file bytes at (ends ++ more) vs
encoded_more more all_encoded = all_encoded
encoded_more more (next_encoded on room forward inside same rest) = next_encoded on room forward inside same (encoded_more more rest)

module _ (file : Bytes) (d : Dialect) where
  spelt_from :
      (cs : List RawCell) (pre post : Bytes) (at : ℕ) → length pre ≡ at → All (SpanIn file) cs →
      EncodedInFile file (pre ++ (buffered_bytes cs ++ post)) at (buffered_ends at cs) (map (value_of d) cs)
  unfolding buffered_bytes buffered_ends
  spelt_from [] pre post at e all = all_encoded
  spelt_from (c ∷ cs) pre post at e (all_cons h hs) =
      let one : pre ++ ((c.bytes ++ buffered_bytes cs) ++ post) ≡ pre ++ (c.bytes ++ (buffered_bytes cs ++ post)) =
      ap (λ (l : Bytes). pre ++ l) (append_assoc c.bytes (buffered_bytes cs) post) in
      let two : pre ++ c.bytes ++ (buffered_bytes cs ++ post) ≡ pre ++ (c.bytes ++ (buffered_bytes cs ++ post)) =
      append_assoc pre c.bytes (buffered_bytes cs ++ post) in
      let long : length (pre ++ c.bytes) ≡ at + length c.bytes = length-append pre c.bytes ∙ ap (λ (n : ℕ). n + length c.bytes) e in
      let more = length-append (pre ++ c.bytes) (buffered_bytes cs ++ post) in
      let room : at + length c.bytes ≤ length (pre ++ c.bytes ++ (buffered_bytes cs ++ post)) = omega arith in
      let on : at ≤ at + length c.bytes = omega arith in
      let here : slice (pre ++ (c.bytes ++ (buffered_bytes cs ++ post))) at (at + length c.bytes) ≡ c.bytes =
      part_is pre c.bytes (buffered_bytes cs ++ post) at (at + length c.bytes) e refl in
      let rest : EncodedInFile file (pre ++ c.bytes ++ (buffered_bytes cs ++ post)) (at + length c.bytes)
      (buffered_ends (at + length c.bytes) cs) (map (value_of d) cs) =
      spelt_from cs (pre ++ c.bytes) post (at + length c.bytes) long hs in
      rw one (next_encoded on (rw two at room) h.forward h.within (here ∙ h.raw) (rw two at rest))

-- the current arrays hold the encoded cells
pub encoded_buffered :
    {bytes : Bytes} {fill : ℕ} {ends : List ℕ} {cells : List RawCell} {raw : Bytes} → CurrentRecord bytes fill ends cells raw →
    (d : Dialect) (file : Bytes) → All (SpanIn file) cells →
    EncodedInFile file bytes 0 ends (map (value_of d) cells)
encoded_buffered {bytes} {fill} {ends} {cells} {raw} h d file all =
    let whole : buffered_bytes cells ++ (raw ++ drop fill bytes) ≡ bytes =
    sym (append_assoc (buffered_bytes cells) raw (drop fill bytes)) ∙ ap (λ (l : Bytes). l ++ drop fill bytes) (sym h.held) ∙ take-append-drop fill bytes in
    let all_ends : buffered_ends 0 cells ++ drop (length cells) ends ≡ ends =
    ap (λ (l : List ℕ). l ++ drop (length cells) ends) (sym h.ended) ∙ take-append-drop (length cells) ends in
    let z : EncodedInFile file (buffered_bytes cells ++ (raw ++ drop fill bytes)) 0 (buffered_ends 0 cells) (map (value_of d) cells) =
    spelt_from file d cells [] (raw ++ drop fill bytes) 0 refl all in
    subst (λ (l : List ℕ). EncodedInFile file bytes 0 l (map (value_of d) cells)) all_ends
    (encoded_more (drop (length cells) ends) (subst (λ (b : Bytes). EncodedInFile file b 0 (buffered_ends 0 cells) (map (value_of d) cells)) whole z))

-- before the header is complete there is no name
pub named_none : (file : Bytes) (names ends : List ℕ) (done : List Rec) → length done ≡ 0 → Named file names ends done
named_none file names ends [] e = tt
named_none file names ends (x ∷ done) e = absurd (omega arith)

-- ---- a file that grows

-- a span does not move
slice_grows : (a b : Bytes) (i j : ℕ) → i ≤ j → j ≤ length a → slice (a ++ b) i j ≡ slice a i j
slice_grows a b i j f l =
    let n : length (drop i a) ≡ length a - i = length-drop i a in
    ap (take (j - i)) (drop-append-le i a b (omega arith)) ∙ take-append-le (j - i) (drop i a) b (omega arith)

module _ (file more : Bytes) where
  stretch_grows : (c : RawCell) → SpanIn file c → SpanIn (file ++ more) c
  stretch_grows c h =
      record {
        raw = h.raw ∙ sym (slice_grows file more c.from c.upto h.forward h.within);
        forward = h.forward;
        within = omega (arith, h.within, length-append file more);
      }

  cells_grow : (cs : List RawCell) → All (SpanIn file) cs → All (SpanIn (file ++ more)) cs
  cells_grow [] all_none = all_none
  cells_grow (c ∷ cs) (all_cons h hs) = all_cons (stretch_grows c h) (cells_grow cs hs)

  pub scan_grows : (s : Scan) → ScanIn file s → ScanIn (file ++ more) s
  scan_grows s h =
      record {
        raw = h.raw ∙ sym (slice_grows file more s.opened s.offset h.forward h.within);
        forward = h.forward;
        within = omega (arith, h.within, length-append file more);
        cells = cells_grow s.cells h.cells;
      }

  spelt_grows : {bytes : Bytes} {at : ℕ} {ends : List ℕ} {vs : List Value} → EncodedInFile file bytes at ends vs → EncodedInFile (file ++ more) bytes at ends vs
  spelt_grows all_encoded = all_encoded
  spelt_grows (next_encoded {v = v} on room forward inside same rest) =
      next_encoded on room forward (omega (arith, length-append file more)) (same ∙ sym (slice_grows file more v.from v.upto forward inside))
      (spelt_grows rest)

  pub named_grows : (names ends : List ℕ) (done : List Rec) → Named file names ends done → Named (file ++ more) names ends done
  named_grows names ends [] n = tt
  named_grows names ends (x ∷ done) n = spelt_grows n
