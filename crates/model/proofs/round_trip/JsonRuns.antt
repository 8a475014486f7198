-- The decoder accepts the text of a CSVJ string, with its content: each escape, raw byte and surrogate runs from between characters
-- to the state of content after it.
use Prim.Native.Nat.{ℕ, ◌+◌, ◌-◌, ◌*◌, ◌/◌, ◌%◌, ◌≤◌, ◌<◌}
use native.Mathlib.Omega.{arith}
use mathlib.Core.Path.{◌≡◌, refl}
use mathlib.Core.Bool.{Bool, true, false, ◌&&◌}
use Rattle.std.specs.Prelude.{Option, None, Some}
use mathlib.Core.List.{[], ◌∷◌, ◌++◌, append_assoc}
use lib.Dec.{leb}
use borrow.Author.Tests.{leb-true, leb-false, le-leb, lt-leb, ne_eqb, le-ltb}
use Rattle.model.specs.rules.Types.{Csvj, Dialect, Inner, Char, Whole, Within, Option, HexLeft, Four, Three, Two, One, Text, Cell, Fresh}
use Rattle.model.specs.rules.Types.{Quoted, Escape, Hex, Complete, More, Ok}
use Rattle.model.specs.rules.Base.{Bytes, QUOTE, ◌is◌, choose◌then◌else◌}
use Rattle.model.specs.rules.Utf8.{char_step, is_surrogate, Wide, gap, ed, lone, inner, wide_step, wide_from, is_content}
use Rattle.model.specs.rules.Cell.{first_byte, quoted_byte, cell_step, is_whole}
use Rattle.model.specs.rules.Decode.{validate_cell, content_of}
use Rattle.model.specs.rules.Text.{escaped, hex_digit, surrogate, json_body, json_cell}
use Rattle.model.proofs.Tests.{split, impossible, is→eq}
use Rattle.model.proofs.cell_laws.Utf8.{ascii_whole, inner_high}
use Rattle.model.proofs.cell_laws.CellRuns.{Runs, here, there, runs_sound}
use Rattle.model.proofs.round_trip.TextBack.{char_of, Apart, pair, Steps, steps, step_apart}
use Rattle.model.proofs.round_trip.JsonBack.{json_back, found, Lone, high, low, inner_ed}

pub runs_append : {d : Dialect} {c c' c'' : Cell} {xs ys : Bytes} → Runs d c xs c' → Runs d c' ys c'' → Runs d c (xs ++ ys) c''
runs_append here r = r
runs_append (there e q) r = there e (runs_append q r)

-- ---- a byte, escaped or not

-- a hexadecimal digit
hex_step : (m : HexLeft) (n : ℕ) → n < 16 → cell_step Csvj (Hex m) (hex_digit n) ≡ cell_step Csvj (Hex m) 0x30
unfolding cell_step choose◌then◌else◌
hex_step m n h = go (leb n 9) refl
  where
    go : (t : Bool) → leb n 9 ≡ t → cell_step Csvj (Hex m) (hex_digit n) ≡ cell_step Csvj (Hex m) 0x30
    go true e = let k : n ≤ 9 = leb-true n 9 e in rw (e, le-leb 0x30 (0x30 + n) (omega arith), le-leb (0x30 + n) 0x39 (omega arith))
    go false e =
        let k : 9 < n = leb-false n 9 e in
        rw (
          e,
          lt-leb (0x57 + n) 0x39 (omega arith),
          lt-leb (0x57 + n) 0x46 (omega arith),
          le-leb 0x61 (0x57 + n) (omega arith),
          le-leb (0x57 + n) 0x66 (omega arith),
          le-leb 0x30 (0x57 + n) (omega arith),
          le-leb 0x41 (0x57 + n) (omega arith),
        )

-- \u and four digits
coded :
    (a b c d : ℕ) → a < 16 → b < 16 → c < 16 → d < 16 →
    Runs Csvj (Quoted Whole) (0x5C ∷ 0x75 ∷ hex_digit a ∷ hex_digit b ∷ hex_digit c ∷ hex_digit d ∷ []) (Quoted Whole)
unfolding cell_step quoted_byte choose◌then◌else◌
coded a b c d i j k l =
    there {c' = Escape} refl
    (there {c' = Hex Four} refl
    (there {c' = Hex Three} (hex_step Four a i)
    (there {c' = Hex Two} (hex_step Three b j)
    (there {c' = Hex One} (hex_step Two c k) (there {c' = Quoted Whole} (hex_step One d l) here)))))

-- a backslash and a letter
short : (b : ℕ) → cell_step Csvj Escape b ≡ More (Quoted Whole) → Runs Csvj (Quoted Whole) (0x5C ∷ b ∷ []) (Quoted Whole)
unfolding cell_step quoted_byte choose◌then◌else◌
short b e = there {c' = Escape} refl (there {c' = Quoted Whole} e here)

-- a byte written as it is
raw_byte :
    (a : ℕ) (c : Char) → (a is QUOTE) ≡ false → (a is 0x5C) ≡ false → leb 0x20 a ≡ true → char_step Whole a ≡ Some c →
    Runs Csvj (Quoted Whole) (a ∷ []) (Quoted c)
unfolding cell_step quoted_byte choose◌then◌else◌
raw_byte a c q s l e =
    let k : 0x20 ≤ a = leb-true 0x20 a l in
    let x : cell_step Csvj (Quoted Whole) a ≡ More (Quoted c) = rw (q, s, le-ltb a 0x20 k, e) in there x here

same_char : {x y : Char} {o : Option Char} → o ≡ Some x → o ≡ Some y → x ≡ y
same_char p q = cc

escaped_runs : (a : ℕ) (c : Char) → char_step Whole a ≡ Some c → Runs Csvj (Quoted Whole) (escaped a) (Quoted c)
escaped_runs a c e =
    let P : Bytes → Type 0 = λ l. Runs Csvj (Quoted Whole) l (Quoted c) in
    split P _ (λ k. let p : Whole ≡ c = ascii 0x22 (is→eq a _ k) (omega arith) in rw (← p) (short 0x22 (unfold cell_step choose◌then◌else◌ in refl))) λ q.
    split P _ (λ k. let p : Whole ≡ c = ascii 0x5C (is→eq a _ k) (omega arith) in rw (← p) (short 0x5C (unfold cell_step choose◌then◌else◌ in refl))) λ s.
    split P _ (λ k. raw_byte a c q s k e) λ l.
    let m : a < 0x20 = leb-false 0x20 a l in
    let p : Whole ≡ c = same_char (ascii_whole a (omega arith)) e in
    rw (← p)
    (let Q : Bytes → Type 0 = λ l. Runs Csvj (Quoted Whole) l (Quoted Whole) in
    split Q _ (λ _. short 0x62 (unfold cell_step choose◌then◌else◌ in refl)) λ _.
    split Q _ (λ _. short 0x74 (unfold cell_step choose◌then◌else◌ in refl)) λ _.
    split Q _ (λ _. short 0x6E (unfold cell_step choose◌then◌else◌ in refl)) λ _.
    split Q _ (λ _. short 0x66 (unfold cell_step choose◌then◌else◌ in refl)) λ _.
    split Q _ (λ _. short 0x72 (unfold cell_step choose◌then◌else◌ in refl)) λ _.
    unfold choose◌then◌else◌ in coded 0 0 (a / 0x10) (a % 0x10) (omega arith) (omega arith) (omega arith) (omega arith))
  where
    ascii : (x : ℕ) → a ≡ x → x < 0x80 → Whole ≡ c
    ascii x p h = same_char (ascii_whole a (omega arith)) e

raw_escaped : (a : ℕ) → 0x80 ≤ a → escaped a ≡ a ∷ []
unfolding choose◌then◌else◌
raw_escaped a h = rw (ne_eqb a QUOTE (omega arith), ne_eqb a 0x5C (omega arith), le-leb 0x20 a (omega arith))

later_runs : (i : Inner) (a : ℕ) (c : Char) → char_step (Within i) a ≡ Some c → Runs Csvj (Quoted (Within i)) (escaped a) (Quoted c)
unfolding cell_step
later_runs i a c e =
    let x : cell_step Csvj (Quoted (Within i)) a ≡ More (Quoted c) = rw e in
    rw (raw_escaped a (inner_high i a c e)) (there x here)

byte_runs : (x : Char) (a : ℕ) (c : Char) → char_step x a ≡ Some c → Runs Csvj (Quoted x) (escaped a) (Quoted c)
byte_runs Whole a c e = escaped_runs a c e
byte_runs (Within i) a c e = later_runs i a c e

-- ---- a lone surrogate

surrogate_runs : (b c : ℕ) → 0xA0 ≤ b → b ≤ 0xBF → 0x80 ≤ c → c ≤ 0xBF → Runs Csvj (Quoted Whole) (surrogate b c) (Quoted Whole)
unfolding choose◌then◌else◌
surrogate_runs b c p q r t =
    coded 0xD ((b - 0x80) % 0x40 / 4) ((b - 0x80) % 0x40 % 4 * 4 + (c - 0x80) / 0x10) (c % 0x10) (omega arith) (omega arith) (omega arith) (omega arith)

-- ---- a content

abbrev close : Bytes
close = QUOTE ∷ []

close_runs : Runs Csvj (Quoted Whole) close Complete
unfolding cell_step quoted_byte choose◌then◌else◌
close_runs = there refl here

end_whole : (w : Wide) → wide_from w [] ≡ true → char_of w ≡ Whole
unfolding wide_from char_of
end_whole (gap h) e = refl
end_whole (ed h) e = impossible e
end_whole (lone h) e = impossible e
end_whole (inner i) e = impossible e

-- the rest of a content is written so that it runs to the closing quote
abbrev Writes : Bytes → Type 0
Writes bs = (w : Wide) → wide_from w bs ≡ true → Apart w bs → Runs Csvj (Quoted (char_of w)) (json_body bs ++ close) Complete

nil_writes : Writes []
unfolding json_body
nil_writes w e a = rw (end_whole w e) close_runs

-- one byte that begins no surrogate
byte_writes :
    (w : Wide) (a : ℕ) (bs : Bytes) → Steps w a bs → pair a bs ≡ false → Writes bs →
    Runs Csvj (Quoted (char_of w)) (escaped a ++ (json_body bs ++ close)) Complete
byte_writes w a bs (steps w' e h k) n ih = runs_append (byte_runs (char_of w) a (char_of w') e) (ih w' h (k n))

ed_end : {A : Type 0} (h : Bool) (y : ℕ) → 0xA0 ≤ y → wide_from (ed h) (y ∷ []) ≡ true → A
unfolding wide_from wide_step choose◌then◌else◌
ed_end h y k e = go (leb y 0xAF) (leb y 0xBF) h refl refl (rw (le-leb 0x80 y (omega arith), lt-leb y 0x9F (omega arith), le-leb 0xA0 y k, wide_from) at e)
  where
    B : Bool → Bool → Bool → Option Wide
    B s t h = choose s then Some (lone true) else (choose (leb 0xB0 y && t) then (choose h then None else Some (lone false)) else None)

    go :
        {A : Type 0} (s t h : Bool) → leb y 0xAF ≡ s → leb y 0xBF ≡ t →
        (elim (B (leb y 0xAF) (leb y 0xBF) h) as (λ _. Bool) [ None ↦ false | Some w' ↦ wide_from w' [] ]) ≡ true → A
    go true t h p q x = impossible (rw p at x)
    go false true true p q x = let m : 0xAF < y = leb-false y 0xAF p in impossible (rw (p, le-leb 0xB0 y (omega arith), q) at x)
    go false true false p q x = let m : 0xAF < y = leb-false y 0xAF p in impossible (rw (p, le-leb 0xB0 y (omega arith), q) at x)
    go false false h p q x = let m : 0xAF < y = leb-false y 0xAF p in impossible (rw (p, le-leb 0xB0 y (omega arith), q) at x)

ed_last : {A : Type 0} (w : Wide) (y : ℕ) → 0xA0 ≤ y → wide_from w (0xED ∷ y ∷ []) ≡ true → A
unfolding wide_from wide_step choose◌then◌else◌
ed_last (gap h) y k e = ed_end h y k e
ed_last (ed h) y k e = impossible e
ed_last (lone h) y k e = impossible e
ed_last (inner i) y k e = impossible (rw (inner_ed i, wide_from) at e)

no_pair : (w : Wide) (x y : ℕ) → wide_from w (x ∷ y ∷ []) ≡ true → (is_surrogate x y) ≡ false
no_pair w x y e = go (x is 0xED) (leb 0xA0 y) refl refl
  where
    go : (s t : Bool) → (x is 0xED) ≡ s → leb 0xA0 y ≡ t → (s && t) ≡ false
    go false t p q = refl
    go true false p q = refl
    go true true p q = ed_last w y (leb-true 0xA0 y q) (rw (is→eq x 0xED p) at e)

abbrev Surrogated : Wide → ℕ → ℕ → Bytes → Type 0
Surrogated w y z bs = Runs Csvj (Quoted (char_of w)) (surrogate y z ++ (json_body bs ++ close)) Complete

pair_writes : (h : Bool) (y z : ℕ) (bs : Bytes) → Lone h y z bs → Writes bs → Surrogated (gap h) y z bs
unfolding char_of
pair_writes h y z bs (high p q r t k) ih = runs_append (surrogate_runs y z p (omega arith) r t) (ih (gap true) k tt)
pair_writes h y z bs (low f p q r t k) ih = runs_append (surrogate_runs y z (omega arith) q r t) (ih (gap false) k tt)

body_writes : (bs : Bytes) → Writes bs
unfolding json_body
body_writes [] w e a = nil_writes w e a
body_writes (x ∷ []) w e a = byte_writes w x [] (step_apart w x [] e a) refl nil_writes
body_writes (x ∷ y ∷ []) w e a = rw append_assoc (byte_writes w x (y ∷ []) (step_apart w x (y ∷ []) e a) (no_pair w x y e) (body_writes (y ∷ [])))
body_writes (x ∷ y ∷ z ∷ bs) w e a =
    split (λ l. Runs Csvj (Quoted (char_of w)) (l ++ close) Complete) (is_surrogate x y)
    (λ t. let r = found w x y z bs t e in rw append_assoc (rw r.1.1 (pair_writes r.1.0 y z bs r.1.2 (body_writes bs))))
    (λ t. rw append_assoc (byte_writes w x (y ∷ z ∷ bs) (step_apart w x (y ∷ z ∷ bs) e a) t (body_writes (y ∷ z ∷ bs))))

pub json_sound : (bs : Bytes) → is_content bs ≡ true → validate_cell Csvj (json_cell Text bs) ≡ Ok tt
unfolding validate_cell json_cell is_content char_of cell_step first_byte is_whole choose◌then◌else◌
json_sound bs e = let x : cell_step Csvj Fresh QUOTE ≡ More (Quoted Whole) = refl in runs_sound 0 (there x (body_writes bs (gap false) e tt)) refl

pub json_content : (bs : Bytes) → is_content bs ≡ true → content_of Csvj (json_cell Text bs) ≡ bs
unfolding json_cell is_content content_of choose◌then◌else◌
json_content bs e = json_back (gap false) bs e
