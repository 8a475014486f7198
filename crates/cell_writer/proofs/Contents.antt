-- The content of a cell by offset: a run, the unit there, and the end.
use Rattle.std.proofs.Common.{◌⊎◌, inl, inr}
use mathlib.Core.Path.{◌≡◌, refl, sym, ap, ◌∙◌}
use mathlib.Core.Bool.{false, and-false}
use mathlib.Core.List.{[], ◌∷◌, ◌++◌}
use Prim.Native.Nat.{ℕ, ◌+◌, ◌-◌, ◌≤◌, ◌<◌}
use native.Mathlib.Omega.{arith}
use lib.ListN.{length, take, drop, get_or, length-drop, drop_of_length-le}
use lib.Seq.{drop-drop}
use lib.Dec.{ltb}
use borrow.Author.Tests.{lt-leb, eq-eqb, ltb-true, ltb-false}
use Rattle.model.specs.rules.Base.{Bytes, QUOTE, BACKSLASH, ◌is◌}
use Rattle.model.specs.rules.Decode.{undouble}
use Rattle.model.proofs.Tests.{split_on, impossible, is→eq}
use Rattle.buffer.proofs.WriteProgress.{drop_next}
use Rattle.cell_decoder.specs.Units.{one}
use Rattle.cell_decoder.specs.DoubledQuotes.{UndoubledThere}
use Rattle.cell_decoder.specs.Followed.{EdFollows, EdFollowed}
use Rattle.cell_decoder.specs.declared.first_byte.Spelling.{Spelling}
use Rattle.cell_decoder.specs.declared.first_byte.Spelling.TheVariants.{Nothing, AsItStands, Doubled, Escaped}
use Rattle.cell_decoder.proofs.DoubledQuotes as undoubled
use Rattle.cell_decoder.proofs.Strings.{string_end, string_quote, string_byte}
use Rattle.cell_writer.specs.PlainRuns.{plain_run}
use Rattle.cell_writer.specs.Units.{paired}
use Rattle.cell_writer.specs.Contents.{content_on, content_from, source_quote, Decoded, by_doubled, by_string, Legible, Part}
use Rattle.cell_writer.proofs.PlainRuns.{run_inside, content_run}
use Rattle.cell_writer.proofs.Units.{no_surrogate}

pub content_end : (c : Spelling) (raw : Bytes) (i : ℕ) → length raw ≤ i → content_from c raw i ≡ []
content_end Nothing raw i h = drop_of_length-le raw h
content_end AsItStands raw i h = drop_of_length-le raw h
content_end (Doubled q) raw i h = undoubled.at_end q false raw i h
content_end Escaped raw i h = string_end raw i h

-- it also ends at the quote that closes the cell
pub closed_doubled : (q : ℕ) (raw : Bytes) (i : ℕ) → i < length raw → get_or raw i 0 ≡ q → length raw ≤ i + 1 → content_from (Doubled q) raw i ≡ []
closed_doubled q raw i h e k = undoubled.at_last q raw i h e k

pub closed_string : (raw : Bytes) (i : ℕ) → i < length raw → get_or raw i 0 ≡ QUOTE → content_from Escaped raw i ≡ []
closed_string raw i h e = string_quote raw i h e

-- ---- runs

module _ (raw : Bytes) (i j p q r : ℕ) (k : j ≡ i + plain_run p q r (drop i raw)) where
  pub part_inside : i ≤ length raw → j ≤ length raw
  part_inside h = omega (arith, run_inside p q r (drop i raw), length-drop i raw)

  -- the content from i on is the run and then the rest of the content
  pub content_part : (c : Spelling) → q ≡ source_quote c → content_from c raw i ≡ take (plain_run p q r (drop i raw)) (drop i raw) ++ content_from c raw j
  content_part c e =
      let n : ℕ = plain_run p q r (drop i raw) in
      content_run p q r c e (drop i raw)
      ∙ ap (λ (l : Bytes). take n (drop i raw) ++ content_on c l) (drop-drop n i raw ∙ ap (λ (m : ℕ). drop m raw) (sym k))

-- ---- units

part_byte : (c : Spelling) (raw : Bytes) (i b next : ℕ) → content_from c raw i ≡ b ∷ content_from c raw next → i < next
    → next ≤ length raw → get_or raw (next - 1) 0 ≡ b
    → Part c raw i (b ∷ []) next
part_byte c raw i b next e h k f =
    record { stands = e; on = h; inside = k; unit = λ _. one b; single = λ g. f ∙ ap (λ (l : Bytes). get_or l 0 0) g }

part_end : (c : Spelling) (raw : Bytes) (i : ℕ) → i < length raw → content_from c raw i ≡ [] → Part c raw i [] (length raw)
part_end c raw i h e =
    record {
      stands = e ∙ sym (content_end c raw (length raw) (omega arith));
      on = h;
      inside = omega arith;
      unit = λ z. absurd (omega arith);
      single = λ f. let z : ◌≡◌ {A = ℕ} 0 1 = ap length f in absurd (omega arith);
    }

-- the same part by equations
pub part_as : {c : Spelling} {raw : Bytes} {i : ℕ} {text text' : Bytes} {next next' : ℕ} → (text' ≡ text) × (next' ≡ next) → Part c raw i text next
    → Part c raw i text' next'
part_as e p = rw (e.0, e.1) p

module _ (raw : Bytes) (i : ℕ) (h : i < length raw) where
  at_before : get_or raw (i + 1 - 1) 0 ≡ get_or raw i 0
  at_before = let e : i + 1 - 1 ≡ i = omega arith in rw e

  itself_part : Part AsItStands raw i (get_or raw i 0 ∷ []) (i + 1)
  itself_part = part_byte AsItStands raw i (get_or raw i 0) (i + 1) (drop_next raw i (i + 1) h refl) (omega arith) (omega arith) at_before

  pub verbatim_part : {c : Spelling} → (c ≡ Nothing) ⊎ (c ≡ AsItStands) → Part c raw i (get_or raw i 0 ∷ []) (i + 1)
  verbatim_part (inl e) =
      let p = itself_part in
      rw e (record { stands = p.stands; on = p.on; inside = p.inside; unit = p.unit; single = p.single })
  verbatim_part (inr e) = rw e itself_part

  -- text with doubled quotes: a byte, or the end
  pub doubled_part : (q : ℕ) {b next : ℕ} → UndoubledThere q raw i b next → Part (Doubled q) raw i (b ∷ []) next
  doubled_part q {b} {next} t = part_byte (Doubled q) raw i b next t.stands t.on t.inside t.last

  pub doubled_end : (q : ℕ) → undouble q false (drop i raw) ≡ [] → Part (Doubled q) raw i [] (length raw)
  doubled_end q e = part_end (Doubled q) raw i h e

  pub quote_part : get_or raw i 0 ≡ QUOTE → Part Escaped raw i [] (length raw)
  quote_part e = part_end Escaped raw i h (closed_string raw i h e)

  pub char_part : (get_or raw i 0 ≡ QUOTE → ⊥) → (get_or raw i 0 ≡ BACKSLASH → ⊥) → Part Escaped raw i (get_or raw i 0 ∷ []) (i + 1)
  char_part q b = part_byte Escaped raw i (get_or raw i 0) (i + 1) (string_byte raw i h q b) (omega arith) (omega arith) at_before

-- ---- a single byte begins no lone surrogate in a cell that is decoded

pub legible_decoded : {c : Spelling} {raw : Bytes} → Legible c raw → ((q : ℕ) × (c ≡ Doubled q)) ⊎ (c ≡ Escaped) → Decoded c raw
legible_decoded {c} {raw} h (inl e) =
    let d : c ≡ Doubled e.0 = e.1 in
    let p = h (λ f. let z : ◌≡◌ {A = ℕ} 0 1 = cc in absurd (omega arith)) (λ f. let z : ◌≡◌ {A = ℕ} 0 1 = cc in absurd (omega arith)) in
    rw d (by_doubled (p.0 e.0 d) (rw d at p.1) p.2)
legible_decoded {c} {raw} h (inr e) =
    let p = h (λ f. let z : ◌≡◌ {A = ℕ} 0 1 = cc in absurd (omega arith)) (λ f. let z : ◌≡◌ {A = ℕ} 0 1 = cc in absurd (omega arith)) in
    rw e (by_string (rw e at p.1) p.2)

decoded_ed : {c : Spelling} {raw : Bytes} → Decoded c raw → EdFollowed raw
decoded_ed (by_doubled h l e) = e
decoded_ed (by_string l e) = e

-- a byte from 80 hex on is verbatim
high_byte : {c : Spelling} {raw : Bytes} (i : ℕ) → Decoded c raw → i < length raw → 0x80 ≤ get_or raw i 0
    → content_from c raw i ≡ get_or raw i 0 ∷ content_from c raw (i + 1)
high_byte {raw} i (by_doubled {q} h l e) k m = undoubled.at_other q raw i k λ f. omega arith
high_byte {raw} i (by_string l e) k m = string_byte raw i k (λ f. omega arith) λ f. omega arith

paired_low : (a b : ℕ) (bs : Bytes) → b < 0xA0 → paired (a ∷ b ∷ bs) ≡ false
paired_low a b bs h = rw (lt-leb 0xA0 b h) (and-false (a is 0xED))

paired_none : (a : ℕ) (bs : Bytes) → (a ≡ 0xED → ⊥) → paired (a ∷ bs) ≡ false
paired_none a [] h = refl
paired_none a (b ∷ bs) h = no_surrogate a b h

one_byte : (u : Bytes) → length u ≡ 1 → u ≡ get_or u 0 0 ∷ []
one_byte [] e = absurd (omega arith)
one_byte (a ∷ []) e = refl
one_byte (a ∷ b ∷ u) e = absurd (omega arith)

-- after ED comes a byte with which it begins no lone surrogate, or nothing
ed_apart : {c : Spelling} {raw : Bytes} (i : ℕ) → Decoded c raw → get_or raw i 0 ≡ 0xED → paired (0xED ∷ content_from c raw (i + 1)) ≡ false
ed_apart {c} {raw} i d e =
    split_on (ltb (i + 1) (length raw))
    (λ f.
    let l : i + 1 < length raw = ltb-true (i + 1) (length raw) f in
    let w : EdFollows raw i = decoded_ed d i l e in
    ap (λ (bs : Bytes). paired (0xED ∷ bs)) (high_byte (i + 1) d l w.least)
    ∙ paired_low 0xED (get_or raw (i + 1) 0) (content_from c raw (i + 1 + 1)) w.most) λ f.
    ap (λ (bs : Bytes). paired (0xED ∷ bs)) (content_end c raw (i + 1) (ltb-false (i + 1) (length raw) f))

pub part_apart : {c : Spelling} {raw : Bytes} {i : ℕ} {text : Bytes} {next : ℕ} → Decoded c raw → Part c raw i text next
    → length text ≡ 1 → paired (content_from c raw i) ≡ false
part_apart {c} {raw} {i} {text} {next} d p e =
    let b : ℕ = get_or text 0 0 in
    let whole : content_from c raw i ≡ b ∷ content_from c raw next =
    p.stands ∙ ap (λ (l : Bytes). l ++ content_from c raw next) (one_byte text e) in
    split_on (b is 0xED)
    (λ f.
    let back : next - 1 + 1 ≡ next = omega (arith, p.on) in
    let ed : text ≡ 0xED ∷ [] = one_byte text e ∙ ap (λ (n : ℕ). n ∷ []) (is→eq b 0xED f) in
    let apart : paired (0xED ∷ content_from c raw next) ≡ false = rw back at (ed_apart (next - 1) d (p.single ed)) in
    ap paired whole ∙ rw (is→eq b 0xED f) apart) λ f.
    ap paired whole ∙ paired_none b (content_from c raw next) λ z. impossible (sym f ∙ eq-eqb b 0xED z)
