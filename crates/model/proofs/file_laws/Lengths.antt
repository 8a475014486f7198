-- The lengths of content and text: content is at most as long as its raw cell, the text of a string has at most 6 bytes for each byte
-- of its content, doubled text is at most twice its content.
use Prim.Native.Nat.{ℕ, suc, ◌+◌, ◌*◌, ◌≤◌}
use native.Mathlib.Omega.{arith}
use mathlib.Core.Bool.{Bool, true, false}
use mathlib.Core.List.{List, [], ◌∷◌, ◌++◌}
use lib.ListN.{length, length-append}
use Rattle.model.specs.rules.Types.{Dialect, Csvj, Tdif, CsvPlus, HexLeft, Four, Three, Two, One}
use Rattle.model.specs.rules.Base.{Bytes, QUOTE}
use Rattle.model.specs.rules.Dialect.{quote_of}
use Rattle.model.specs.rules.Utf8.{pack, joined}
use Rattle.model.specs.rules.Decode.{content_of, undouble, Unit16, byte, unit, InString, between, escape, digits, units, text_of, hex_of}
use Rattle.model.specs.rules.Text.{escaped, json_body, doubled, quoted_text}
use Rattle.model.proofs.Tests.{split}

-- ---- content

undouble_length : (q : ℕ) (seen : Bool) (bs : Bytes) → length (undouble q seen bs) ≤ length bs
unfolding undouble
undouble_length q seen [] = omega arith
undouble_length q false (b ∷ bs) =
    let h : length (undouble q true bs) ≤ length bs = undouble_length q true bs in
    let k : length (undouble q false bs) ≤ length bs = undouble_length q false bs in
    split (λ (l : Bytes). length l ≤ suc (length bs)) _ (λ _. omega arith) λ _. omega arith
undouble_length q true (b ∷ bs) =
    let k : length (undouble q false bs) ≤ length bs = undouble_length q false bs in
    split (λ (l : Bytes). length l ≤ suc (length bs)) _ (λ _. omega arith) λ _. omega arith

pack_length : (u : ℕ) → length (pack u) ≤ 4
unfolding pack
pack_length u =
    let P : Bytes → Type 0 = λ l. length l ≤ 4 in
    split P _ (λ _. omega arith) λ _. split P _ (λ _. omega arith) λ _. split P _ (λ _. omega arith) λ _. omega arith

-- a byte is one byte of text, and an escape at most four
abbrev weight : List Unit16 → ℕ
weight [] = 0
weight (byte b ∷ us) = suc (weight us)
weight (unit u ∷ us) = 4 + weight us

packed : (u : ℕ) (bs : Bytes) → length (pack u ++ bs) ≤ 4 + length bs
packed u bs = let h : length (pack u) ≤ 4 = pack_length u in omega (arith, length-append (pack u) bs)

text_length : (us : List Unit16) → length (text_of us) ≤ weight us
unfolding text_of
text_length [] = omega arith
text_length (byte b ∷ us) = let h : length (text_of us) ≤ weight us = text_length us in omega arith
text_length (unit h ∷ []) = let k : length (pack h) ≤ 4 = pack_length h in omega arith
text_length (unit h ∷ byte b ∷ us) =
    let k : length (text_of us) ≤ weight us = text_length us in
    let m : length (pack h ++ (b ∷ text_of us)) ≤ 4 + suc (length (text_of us)) = packed h (b ∷ text_of us) in
    omega arith
text_length (unit h ∷ unit l ∷ us) =
    let k : length (text_of us) ≤ weight us = text_length us in
    let m : length (text_of (unit l ∷ us)) ≤ 4 + weight us = text_length (unit l ∷ us) in
    let p : length (pack (joined h l) ++ text_of us) ≤ 4 + length (text_of us) = packed (joined h l) (text_of us) in
    let q : length (pack h ++ text_of (unit l ∷ us)) ≤ 4 + length (text_of (unit l ∷ us)) = packed h (text_of (unit l ∷ us)) in
    split (λ (x : Bytes). length x ≤ 4 + (4 + weight us)) _ (λ _. omega arith) λ _. omega arith

abbrev digits_left : HexLeft → ℕ
digits_left Four = 4
digits_left Three = 3
digits_left Two = 2
digits_left One = 1

-- a bound for the n bytes to come, less what the bytes of an open escape have already paid for
abbrev Paid : InString → ℕ → ℕ → Type 0
Paid between w n = w ≤ n
Paid escape w n = w ≤ n + 1
Paid (digits k u) w n = w + digits_left k ≤ n + 6

units_paid : (e : InString) (bs : Bytes) → Paid e (weight (units e bs)) (length bs)
unfolding units
units_paid between [] = omega arith
units_paid escape [] = omega arith
units_paid (digits Four u) [] = omega arith
units_paid (digits Three u) [] = omega arith
units_paid (digits Two u) [] = omega arith
units_paid (digits One u) [] = omega arith
units_paid between (b ∷ bs) =
    let h : weight (units between bs) ≤ length bs = units_paid between bs in
    let k : weight (units escape bs) ≤ length bs + 1 = units_paid escape bs in
    let P : List Unit16 → Type 0 = λ us. weight us ≤ suc (length bs) in
    split P _ (λ _. omega arith) λ _. split P _ (λ _. omega arith) λ _. omega arith
units_paid escape (b ∷ bs) =
    let h : weight (units between bs) ≤ length bs = units_paid between bs in
    let k : weight (units (digits Four 0) bs) + 4 ≤ length bs + 6 = units_paid (digits Four 0) bs in
    let P : List Unit16 → Type 0 = λ us. weight us ≤ suc (length bs) + 1 in
    split P _ (λ _. omega arith) λ _. omega arith
units_paid (digits Four u) (b ∷ bs) = let h = units_paid (digits Three (u * 0x10 + hex_of b)) bs in omega arith
units_paid (digits Three u) (b ∷ bs) = let h = units_paid (digits Two (u * 0x10 + hex_of b)) bs in omega arith
units_paid (digits Two u) (b ∷ bs) = let h = units_paid (digits One (u * 0x10 + hex_of b)) bs in omega arith
units_paid (digits One u) (b ∷ bs) = let h = units_paid between bs in omega arith

-- content is at most as long as its raw cell
pub content_length : (d : Dialect) (raw : Bytes) → length (content_of d raw) ≤ length raw
unfolding content_of
content_length Csvj [] = omega arith
content_length Csvj (b ∷ bs) =
    let P : Bytes → Type 0 = λ l. length l ≤ suc (length bs) in
    let h : weight (units between bs) ≤ length bs = units_paid between bs in
    let k : length (text_of (units between bs)) ≤ weight (units between bs) = text_length (units between bs) in
    split P _ (λ _. omega arith) λ _. split P _ (λ _. omega arith) λ _. omega arith
content_length Tdif [] = omega arith
content_length Tdif (b ∷ bs) =
    let P : Bytes → Type 0 = λ l. length l ≤ suc (length bs) in
    let h : length (undouble QUOTE false bs) ≤ length bs = undouble_length QUOTE false bs in
    split P _ (λ _. omega arith) λ _. omega arith
content_length (CsvPlus s) [] = omega arith
content_length (CsvPlus s) (b ∷ bs) =
    let P : Bytes → Type 0 = λ l. length l ≤ suc (length bs) in
    let h : length (undouble (quote_of (CsvPlus s)) false bs) ≤ length bs = undouble_length (quote_of (CsvPlus s)) false bs in
    split P _ (λ _. omega arith) λ _. omega arith

-- ---- text

escaped_length : (b : ℕ) → length (escaped b) ≤ 6
escaped_length b =
    let P : Bytes → Type 0 = λ l. length l ≤ 6 in
    split P _ (λ _. omega arith) λ _. split P _ (λ _. omega arith) λ _. split P _ (λ _. omega arith) λ _. split P _ (λ _. omega arith) λ _.
    split P _ (λ _. omega arith) λ _. split P _ (λ _. omega arith) λ _. split P _ (λ _. omega arith) λ _. split P _ (λ _. omega arith) λ _. omega arith

escaped_more : (a n : ℕ) (bs : Bytes) → length bs ≤ 6 * n → length (escaped a ++ bs) ≤ 6 * suc n
escaped_more a n bs h = let k : length (escaped a) ≤ 6 = escaped_length a in omega (arith, length-append (escaped a) bs)

pub body_length : (bs : Bytes) → length (json_body bs) ≤ 6 * length bs
unfolding json_body
body_length [] = omega arith
body_length (a ∷ []) = let k : length (escaped a) ≤ 6 = escaped_length a in omega arith
body_length (a ∷ b ∷ []) = escaped_more a 1 (escaped b) (body_length (b ∷ []))
body_length (a ∷ b ∷ c ∷ bs) =
    let h : length (json_body bs) ≤ 6 * length bs = body_length bs in
    split (λ (l : Bytes). length l ≤ 6 * suc (suc (suc (length bs)))) _ (λ _. omega arith) λ _.
    escaped_more a (suc (suc (length bs))) (json_body (b ∷ c ∷ bs)) (body_length (b ∷ c ∷ bs))

doubled_length : (q : ℕ) (bs : Bytes) → length (doubled q bs) ≤ 2 * length bs
unfolding doubled
doubled_length q [] = omega arith
doubled_length q (b ∷ bs) =
    let h : length (doubled q bs) ≤ 2 * length bs = doubled_length q bs in
    split (λ (l : Bytes). length l ≤ 2 * suc (length bs)) _ (λ _. omega arith) λ _. omega arith

pub quoted_length : (q : ℕ) (bs : Bytes) → length (quoted_text q bs) ≤ 2 * length bs + 2
unfolding quoted_text
quoted_length q bs = let h : length (doubled q bs) ≤ 2 * length bs = doubled_length q bs in omega (arith, length-append (doubled q bs) (q ∷ []))
