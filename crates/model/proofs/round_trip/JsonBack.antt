-- A content written as a JSON string is read back: each byte that was escaped, and each lone surrogate. A high surrogate is never
-- joined with what follows it, since content holds no low one there (`body_not_low`).
use Prim.Native.Nat.{ℕ, ◌+◌, ◌-◌, ◌*◌, ◌/◌, ◌%◌, ◌≤◌, ◌<◌}
use native.Mathlib.Omega.{arith}
use mathlib.Core.Path.{◌≡◌, refl, sym, ap, ◌∙◌}
use mathlib.Core.Bool.{Bool, true, false}
use Rattle.std.specs.Prelude.{Option, None, Some}
use mathlib.Core.List.{List, [], ◌∷◌, ◌++◌, append-nil, append_assoc}
use lib.Dec.{leb}
use borrow.Author.Tests.{leb-true, leb-false, le-leb, lt-leb}
use Rattle.model.specs.rules.Types.{Second, LastTwo, Last, Within, Inner, C2ToDf, E0, E1ToEc, Ed, EeToEf, F0, F1ToF3, F4}
use Rattle.model.specs.rules.Base.{Bytes, choose◌then◌else◌, ◌is◌, QUOTE, within}
use Rattle.model.specs.rules.Utf8.{pack, is_high, is_low, is_surrogate, char_step, inner_step, row_of, Wide, gap, ed, lone, inner, wide_step, wide_from}
use Rattle.model.specs.rules.Decode.{Unit16, byte, unit, units, between, text_of, hex_of}
use Rattle.model.specs.rules.Text.{escaped, hex_digit, surrogate, json_body}
use Rattle.model.proofs.Tests.{split, split_on, impossible, and_true, is→eq}

-- a code unit that is no high surrogate is decoded alone
unit_alone : (h : ℕ) (us : List Unit16) → is_high h ≡ false → text_of (unit h ∷ us) ≡ pack h ++ text_of us
unfolding text_of choose◌then◌else◌
unit_alone h [] e = sym (append-nil (pack h))
unit_alone h (byte b ∷ us) e = refl
unit_alone h (unit l ∷ us) e = rw (e, text_of)

small_low : (a : ℕ) → a < 0x20 → is_high a ≡ false
small_low a h = rw (lt-leb 0xD800 a (omega arith))

small_pack : (a : ℕ) → a < 0x20 → pack a ≡ a ∷ []
unfolding pack choose◌then◌else◌
small_pack a h = rw (le-leb a 0x7F (omega arith), pack)

hex_back : (n : ℕ) → n < 16 → hex_of (hex_digit n) ≡ n
unfolding choose◌then◌else◌
hex_back n h = go (leb n 9) refl
  where
    go : (t : Bool) → leb n 9 ≡ t → hex_of (hex_digit n) ≡ n
    go true e = let k : n ≤ 9 = leb-true n 9 e in rw (e, le-leb (0x30 + n) 0x39 (omega arith)) (omega arith)
    go false e = let k : 9 < n = leb-false n 9 e in rw (e, lt-leb (0x57 + n) 0x39 (omega arith), lt-leb (0x57 + n) 0x46 (omega arith)) (omega arith)

-- \u00 and two digits
coded :
    (a : ℕ) (rest : Bytes) → a < 0x20 →
    text_of (units between (0x5C ∷ 0x75 ∷ 0x30 ∷ 0x30 ∷ hex_digit (a / 0x10) ∷ hex_digit (a % 0x10) ∷ rest))
    ≡ a ∷ text_of (units between rest)
unfolding units choose◌then◌else◌
coded a rest h =
    rw (hex_back (a / 0x10) (omega arith), hex_back (a % 0x10) (omega arith))
    (alone ((0 + a / 0x10) * 0x10 + a % 0x10) (omega arith))
  where
    alone : (u : ℕ) → u ≡ a → text_of (unit u ∷ units between rest) ≡ a ∷ text_of (units between rest)
    alone u e = rw e (unit_alone a (units between rest) (small_low a h) ∙ ap (λ (l : Bytes). l ++ text_of (units between rest)) (small_pack a h))

pub escape_back : (a : ℕ) (rest : Bytes) → text_of (units between (escaped a ++ rest)) ≡ a ∷ text_of (units between rest)
unfolding units text_of
escape_back a rest =
    let P : Bytes → Type 0 = λ l. text_of (units between (l ++ rest)) ≡ a ∷ text_of (units between rest) in
    split P _ (λ e. unfold choose◌then◌else◌ in rw (is→eq a _ e)) λ q.
    split P _ (λ e. unfold choose◌then◌else◌ in rw (is→eq a _ e)) λ s.
    split P _ (λ e. unfold choose◌then◌else◌ in rw (q, s)) λ l.
    split P _ (λ e. unfold choose◌then◌else◌ in rw (is→eq a _ e)) λ _.
    split P _ (λ e. unfold choose◌then◌else◌ in rw (is→eq a _ e)) λ _.
    split P _ (λ e. unfold choose◌then◌else◌ in rw (is→eq a _ e)) λ _.
    split P _ (λ e. unfold choose◌then◌else◌ in rw (is→eq a _ e)) λ _.
    split P _ (λ e. unfold choose◌then◌else◌ in rw (is→eq a _ e)) λ _.
    coded a rest (leb-false 0x20 a l)

-- ---- a lone surrogate

-- the code unit of ED b c
abbrev unit_of : ℕ → ℕ → ℕ
unit_of b c = 0xD000 + (b - 0x80) * 0x40 + (c - 0x80)

module _ (b c : ℕ) (hb : 0xA0 ≤ b) (hb' : b ≤ 0xBF) (hc : 0x80 ≤ c) (hc' : c ≤ 0xBF) where
  pack_surrogate : pack (unit_of b c) ≡ 0xED ∷ b ∷ c ∷ []
  unfolding pack choose◌then◌else◌
  pack_surrogate =
      rw (lt-leb (unit_of b c) 0x7F (omega arith), lt-leb (unit_of b c) 0x7FF (omega arith), le-leb (unit_of b c) 0xFFFF (omega arith), pack)
      (three (omega arith) (omega arith) (omega arith))
    where
      three : {x y z x' y' z' : ℕ} → x ≡ x' → y ≡ y' → z ≡ z' → ◌≡◌ {A = Bytes} (x ∷ y ∷ z ∷ []) (x' ∷ y' ∷ z' ∷ [])
      three p q r = cc

  digits_surrogate : (rest : Bytes) → units between (surrogate b c ++ rest) ≡ unit (unit_of b c) ∷ units between rest
  unfolding units choose◌then◌else◌
  digits_surrogate rest =
      rw (
        hex_back ((b - 0x80) % 0x40 / 4) (omega arith),
        hex_back ((b - 0x80) % 0x40 % 4 * 4 + (c - 0x80) / 0x10) (omega arith),
        hex_back (c % 0x10) (omega arith),
      )
      (ap (λ (u : ℕ). unit u ∷ units between rest) (omega arith))

-- ---- a content

-- a content continues after its first byte
pub data Onward (bs : Bytes) : Option Wide → Type 0 where
  onward : {w : Wide} → wide_from w bs ≡ true → Onward bs (Some w)

step_on : (w : Wide) (b : ℕ) (bs : Bytes) → wide_from w (b ∷ bs) ≡ true → Onward bs (wide_step w b)
unfolding wide_from
step_on w b bs h = go (wide_step w b) h
  where
    go : (o : Option Wide) → (elim o as (λ _. Bool) [ None ↦ false | Some w' ↦ wide_from w' bs ]) ≡ true → Onward bs o
    go None e = impossible e
    go (Some w') e = onward e

-- no content has none ahead
nothing_ahead : {A : Type 0} {bs : Bytes} → Onward bs None → A
nothing_ahead o = absurd (elim o [ ])

ahead : {w : Wide} {bs : Bytes} → Onward bs (Some w) → wide_from w bs ≡ true
ahead (onward e) = e

lone_end : (h : Bool) (c : ℕ) (bs : Bytes) → wide_from (lone h) (c ∷ bs) ≡ true → (0x80 ≤ c) × (c ≤ 0xBF) × (wide_from (gap h) bs ≡ true)
unfolding wide_step choose◌then◌else◌
lone_end h c bs e =
    let o : Onward bs (wide_step (lone h) c) = step_on (lone h) c bs e in
    split_on (leb 0x80 c)
    (λ p. split_on (leb c 0xBF)
    (λ q. (leb-true 0x80 c p, leb-true c 0xBF q, ahead (rw (p, q) at o)))
    (λ q. nothing_ahead (rw (p, q) at o)))
    (λ p. nothing_ahead (rw p at o))

pub data Lone (h : Bool) (b c : ℕ) (bs : Bytes) : Type 0 where
  high : 0xA0 ≤ b → b ≤ 0xAF → 0x80 ≤ c → c ≤ 0xBF → wide_from (gap true) bs ≡ true → Lone h b c bs
  low : h ≡ false → 0xB0 ≤ b → b ≤ 0xBF → 0x80 ≤ c → c ≤ 0xBF → wide_from (gap false) bs ≡ true → Lone h b c bs

lone_after : (h : Bool) (b c : ℕ) (bs : Bytes) → 0xA0 ≤ b → wide_from (ed h) (b ∷ c ∷ bs) ≡ true → Lone h b c bs
unfolding wide_step choose◌then◌else◌
lone_after h b c bs k e =
    let o : Onward (c ∷ bs) (wide_step (ed h) b) = step_on (ed h) b (c ∷ bs) e in
    let o₁ : Onward (c ∷ bs) (choose within 0xA0 0xAF b then Some (lone true) else choose within 0xB0 0xBF b then (choose h then None else Some (lone false)) else None)
    = rw (le-leb 0x80 b (omega arith), lt-leb b 0x9F (omega arith)) at o in
    split_on (leb b 0xAF)
    (λ p. let r = lone_end true c bs (ahead (rw (le-leb 0xA0 b k, p) at o₁)) in high k (leb-true b 0xAF p) r.0 r.1 r.2)
    (λ p.
    let m : 0xAF < b = leb-false b 0xAF p in
    split_on (leb b 0xBF)
    (λ q. last h m (leb-true b 0xBF q) (rw (le-leb 0xA0 b k, p, le-leb 0xB0 b (omega arith), q) at o₁))
    (λ q. nothing_ahead (rw (le-leb 0xA0 b k, p, le-leb 0xB0 b (omega arith), q) at o₁)))
  where
    last : (h : Bool) → 0xAF < b → b ≤ 0xBF → Onward (c ∷ bs) (choose h then None else Some (lone false)) → Lone h b c bs
    last true m n o = nothing_ahead o
    last false m n o = let r = lone_end false c bs (ahead o) in low refl (omega arith) n r.0 r.1 r.2

-- ED is in no character but as its first byte
pub inner_ed : (i : Inner) → char_step (Within i) 0xED ≡ None
unfolding char_step inner_step row_of choose◌then◌else◌
inner_ed (Second C2ToDf) = refl
inner_ed (Second E0) = refl
inner_ed (Second E1ToEc) = refl
inner_ed (Second Ed) = refl
inner_ed (Second EeToEf) = refl
inner_ed (Second F0) = refl
inner_ed (Second F1ToF3) = refl
inner_ed (Second F4) = refl
inner_ed LastTwo = refl
inner_ed Last = refl

inner_ed_none : (i : Inner) → wide_step (inner i) 0xED ≡ None
unfolding wide_step
inner_ed_none i = rw (inner_ed i)

-- ED begins a character, and with a byte from A0 a lone surrogate
pub at_ed : (w : Wide) (b c : ℕ) (bs : Bytes) → 0xA0 ≤ b → wide_from w (0xED ∷ b ∷ c ∷ bs) ≡ true → (h : Bool) × (w ≡ gap h) × Lone h b c bs
unfolding wide_step choose◌then◌else◌
at_ed (gap h) b c bs k e = (h, refl, lone_after h b c bs k (ahead (step_on (gap h) 0xED (b ∷ c ∷ bs) e)))
at_ed (ed h) b c bs k e = nothing_ahead (step_on (ed h) 0xED (b ∷ c ∷ bs) e)
at_ed (lone h) b c bs k e = nothing_ahead (step_on (lone h) 0xED (b ∷ c ∷ bs) e)
at_ed (inner i) b c bs k e = nothing_ahead (rw (inner_ed_none i) at (step_on (inner i) 0xED (b ∷ c ∷ bs) e))

-- the first code unit is no low surrogate
abbrev NotLow : List Unit16 → Type 0
NotLow [] = Unit {0}
NotLow (byte b ∷ us) = Unit {0}
NotLow (unit l ∷ us) = is_low l ≡ false

high_alone : (u : ℕ) (us : List Unit16) → NotLow us → text_of (unit u ∷ us) ≡ pack u ++ text_of us
unfolding text_of choose◌then◌else◌
high_alone u [] n = sym (append-nil (pack u))
high_alone u (byte b ∷ us) n = refl
high_alone u (unit l ∷ us) n = split_on (is_high u) (λ e. rw (e, n, text_of)) (λ e. rw (e, text_of))

coded_not_low : (a : ℕ) (xs : Bytes) → a < 0x20 → NotLow (units between (0x5C ∷ 0x75 ∷ 0x30 ∷ 0x30 ∷ hex_digit (a / 0x10) ∷ hex_digit (a % 0x10) ∷ xs))
unfolding units choose◌then◌else◌
coded_not_low a xs h =
    rw (hex_back (a / 0x10) (omega arith), hex_back (a % 0x10) (omega arith)) (rw (lt-leb 0xDC00 ((0 + a / 0x10) * 0x10 + a % 0x10) (omega arith)))

escaped_not_low : (a : ℕ) (xs : Bytes) → NotLow (units between (escaped a ++ xs))
unfolding units
escaped_not_low a xs =
    let P : Bytes → Type 0 = λ l. NotLow (units between (l ++ xs)) in
    split P _ (λ e. unfold choose◌then◌else◌ in tt) λ q.
    split P _ (λ e. unfold choose◌then◌else◌ in tt) λ s.
    split P _ (λ e. unfold choose◌then◌else◌ in rw (q, s) tt) λ l.
    split P _ (λ e. unfold choose◌then◌else◌ in tt) λ _.
    split P _ (λ e. unfold choose◌then◌else◌ in tt) λ _.
    split P _ (λ e. unfold choose◌then◌else◌ in tt) λ _.
    split P _ (λ e. unfold choose◌then◌else◌ in tt) λ _.
    split P _ (λ e. unfold choose◌then◌else◌ in tt) λ _.
    coded_not_low a xs (leb-false 0x20 a l)

abbrev close : Bytes
close = QUOTE ∷ []

-- ED b c, as the two tests found it in a content
pub found :
    (w : Wide) (a b c : ℕ) (bs : Bytes) → is_surrogate a b ≡ true → wide_from w (a ∷ b ∷ c ∷ bs) ≡ true →
    (a ≡ 0xED) × ((h : Bool) × (w ≡ gap h) × Lone h b c bs)
found w a b c bs t e =
    let r = and_true (a is 0xED) (leb 0xA0 b) t in
    let p : a ≡ 0xED = is→eq a 0xED r.0 in
    (p, at_ed w b c bs (leb-true 0xA0 b r.1) (rw p at e))

high_not_low : (b c : ℕ) → b ≤ 0xAF → c ≤ 0xBF → is_low (unit_of b c) ≡ false
high_not_low b c p q = rw (lt-leb 0xDC00 (unit_of b c) (omega arith))

low_not_high : (b c : ℕ) → 0xB0 ≤ b → is_high (unit_of b c) ≡ false
low_not_high b c p = rw (le-leb 0xD800 (unit_of b c) (omega arith), lt-leb (unit_of b c) 0xDBFF (omega arith))

-- the first character of a content after a high surrogate is no low one
body_not_low : (bs : Bytes) → wide_from (gap true) bs ≡ true → NotLow (units between (json_body bs ++ close))
unfolding json_body
body_not_low [] e = unfold units choose◌then◌else◌ in tt
body_not_low (a ∷ []) e = escaped_not_low a close
body_not_low (a ∷ b ∷ []) e = rw append_assoc (escaped_not_low a (escaped b ++ close))
body_not_low (a ∷ b ∷ c ∷ bs) e =
    split (λ l. NotLow (units between (l ++ close))) (is_surrogate a b)
    (λ t. let r = found (gap true) a b c bs t e in first r.1.0 r.1.1 r.1.2)
    (λ t. rw append_assoc (escaped_not_low a (json_body (b ∷ c ∷ bs) ++ close)))
  where
    first : (h : Bool) → gap true ≡ gap h → Lone h b c bs → NotLow (units between ((surrogate b c ++ json_body bs) ++ close))
    first h p (high x y z v k) =
        rw append_assoc (rw (digits_surrogate b c x (omega arith) z v (json_body bs ++ close)) (high_not_low b c y v))
    first h p (low f x y z v k) = let q : true ≡ false = cc in impossible (sym q)

close_back : text_of (units between close) ≡ []
unfolding units text_of choose◌then◌else◌
close_back = refl

-- what was written is read back
pub json_back : (w : Wide) (bs : Bytes) → wide_from w bs ≡ true → text_of (units between (json_body bs ++ close)) ≡ bs
unfolding json_body
json_back w [] e = close_back
json_back w (a ∷ []) e = escape_back a close ∙ ap (λ (l : Bytes). a ∷ l) close_back
json_back w (a ∷ b ∷ []) e =
    rw append_assoc (escape_back a (escaped b ++ close) ∙ ap (λ (l : Bytes). a ∷ l) (escape_back b close ∙ ap (λ (l : Bytes). b ∷ l) close_back))
json_back w (a ∷ b ∷ c ∷ bs) e =
    split (λ l. text_of (units between (l ++ close)) ≡ a ∷ b ∷ c ∷ bs) (is_surrogate a b)
    (λ t. let r = found w a b c bs t e in rw r.0 (first r.1.0 r.1.2 (λ v k. json_back v bs k)))
    (λ t.
    rw append_assoc
    (escape_back a (json_body (b ∷ c ∷ bs) ++ close)
    ∙ ap (λ (l : Bytes). a ∷ l) (next (wide_step w a) (step_on w a (b ∷ c ∷ bs) e) (λ v k. json_back v (b ∷ c ∷ bs) k))))
  where
    next :
        (o : Option Wide) → Onward (b ∷ c ∷ bs) o →
        ((v : Wide) → wide_from v (b ∷ c ∷ bs) ≡ true → text_of (units between (json_body (b ∷ c ∷ bs) ++ close)) ≡ b ∷ c ∷ bs) →
        text_of (units between (json_body (b ∷ c ∷ bs) ++ close)) ≡ b ∷ c ∷ bs
    next (Some v) (onward k) ih = ih v k
    next None x6 ih = elim x6 [ ]

    first :
        (h : Bool) → Lone h b c bs → ((v : Wide) → wide_from v bs ≡ true → text_of (units between (json_body bs ++ close)) ≡ bs) →
        text_of (units between ((surrogate b c ++ json_body bs) ++ close)) ≡ 0xED ∷ b ∷ c ∷ bs
    first h (high x y z v k) ih =
        rw append_assoc (rw (
          digits_surrogate b c x (omega arith) z v (json_body bs ++ close),
          high_alone (unit_of b c) (units between (json_body bs ++ close)) (body_not_low bs k),
          pack_surrogate b c x (omega arith) z v,
          ih (gap true) k,
        ))
    first h (low f x y z v k) ih =
        rw append_assoc (rw (
          digits_surrogate b c (omega arith) y z v (json_body bs ++ close),
          unit_alone (unit_of b c) (units between (json_body bs ++ close)) (low_not_high b c x),
          pack_surrogate b c (omega arith) y z v,
          ih (gap false) k,
        ))
