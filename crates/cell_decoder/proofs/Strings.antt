-- Strings of CSVJ by offset: the definition's content of the bytes from an offset on, by the bytes there.
use mathlib.Core.Path.{◌≡◌, refl, sym, ap, ◌∙◌}
use mathlib.Core.Bool.{true, false, and-false}
use mathlib.Core.List.{List, [], ◌∷◌, ◌++◌, append-nil}
use Prim.Native.Nat.{ℕ, ◌+◌, ◌-◌, ◌*◌, ◌<◌, ◌≤◌}
use native.Mathlib.Omega.{arith}
use lib.ListN.{length, drop, get_or, drop_of_length-le, length-drop}
use borrow.Author.Tests.{ne_eqb, le-leb, lt-leb}
use Rattle.model.specs.rules.Base.{choose◌then◌else◌, Bytes, ◌is◌, within, QUOTE, BACKSLASH}
use Rattle.model.specs.rules.Utf8.{pack, joined, is_high, is_low}
use Rattle.model.specs.rules.Decode.{Unit16, byte, unit, short_of, hex_of, InString, between, escape, digits, units, text_of}
use Rattle.model.specs.declared.HexLeft.TheVariants.{Four}
use Rattle.model.proofs.Tests.{split, is→eq, within_true}
use Rattle.buffer.specs.Writes.{written}
use Rattle.buffer.proofs.WriteProgress.{drop_next, Writing, put}
use Rattle.utf8.specs.Codes.{packed, Joins}
use Rattle.utf8.proofs.Codes.{packed_is, packed_most}
use Rattle.cell_decoder.specs.Strings.{string_from, unit_at, Lone, UnitThere, LowThere, Proceeds}
use Rattle.cell_decoder.specs.Units.{one}
use Rattle.cell_decoder.proofs.Units.{packed_unit, packed_no_ed, short_ed}

-- ---- the bytes at an offset

module _ (raw : Bytes) (i j : ℕ) (h : i < length raw) (n : i + 1 ≡ j) where
  pub at_quote : get_or raw i 0 ≡ QUOTE → units between (drop i raw) ≡ []
  unfolding units choose◌then◌else◌
  at_quote e = rw (drop_next raw i j h n, e)

  pub at_backslash : get_or raw i 0 ≡ BACKSLASH → units between (drop i raw) ≡ units escape (drop j raw)
  unfolding units choose◌then◌else◌
  at_backslash e = rw (drop_next raw i j h n, e)

  pub at_byte : (get_or raw i 0 ≡ QUOTE → ⊥) → (get_or raw i 0 ≡ BACKSLASH → ⊥) → units between (drop i raw) ≡ byte (get_or raw i 0) ∷ units between (drop j raw)
  unfolding units choose◌then◌else◌
  at_byte q b = rw (drop_next raw i j h n, ne_eqb (get_or raw i 0) QUOTE q, ne_eqb (get_or raw i 0) BACKSLASH b)

  pub at_short : (get_or raw i 0 ≡ 0x75 → ⊥) → units escape (drop i raw) ≡ byte (short_of (get_or raw i 0)) ∷ units between (drop j raw)
  unfolding units choose◌then◌else◌
  at_short e = rw (drop_next raw i j h n, ne_eqb (get_or raw i 0) 0x75 e)

  pub at_u : get_or raw i 0 ≡ 0x75 → units escape (drop i raw) ≡ units (digits Four 0) (drop j raw)
  unfolding units choose◌then◌else◌
  at_u e = rw (drop_next raw i j h n, e)

pub at_end : (e : InString) (raw : Bytes) (i : ℕ) → length raw ≤ i → units e (drop i raw) ≡ []
unfolding units
at_end e raw i h = rw (drop_of_length-le raw h)

-- the digits of a \u escape

four_digits : (raw : Bytes) (i : ℕ) → i + 4 ≤ length raw
    → drop i raw ≡ get_or raw i 0 ∷ get_or raw (i + 1) 0 ∷ get_or raw (i + 2) 0 ∷ get_or raw (i + 3) 0 ∷ drop (i + 4) raw
four_digits raw i h =
    let a = drop_next raw i (i + 1) (omega arith) (omega arith) in
    let b = drop_next raw (i + 1) (i + 2) (omega arith) (omega arith) in
    let c = drop_next raw (i + 2) (i + 3) (omega arith) (omega arith) in
    let d = drop_next raw (i + 3) (i + 4) (omega arith) (omega arith) in
    rw (a, b, c, d)

at_digits : (raw : Bytes) (i j : ℕ) → i + 4 ≤ length raw → i + 4 ≡ j → units (digits Four 0) (drop i raw) ≡ unit (unit_at raw i) ∷ units between (drop j raw)
unfolding units
at_digits raw i j h n =
    let first : 0 * 0x10 + hex_of (get_or raw i 0) ≡ hex_of (get_or raw i 0) = omega arith in
    rw (← n)
    (ap (units (digits Four 0)) (four_digits raw i h)
    ∙ ap (λ (u : ℕ). unit (((u * 0x10 + hex_of (get_or raw (i + 1) 0)) * 0x10 + hex_of (get_or raw (i + 2) 0)) * 0x10 + hex_of
    (get_or raw (i + 3) 0)) ∷ units between (drop (i + 4) raw)) first)

cut_digits : (bs : Bytes) → length bs < 4 → units (digits Four 0) bs ≡ []
unfolding units
cut_digits [] h = refl
cut_digits (a ∷ []) h = refl
cut_digits (a ∷ b ∷ []) h = refl
cut_digits (a ∷ b ∷ c ∷ []) h = refl
cut_digits (a ∷ b ∷ c ∷ d ∷ bs) h = absurd (omega arith)

-- ---- surrogates

pub lone_nil : Lone []
unfolding text_of
lone_nil h = sym (append-nil (pack h))

pub lone_byte : (b : ℕ) (us : List Unit16) → Lone (byte b ∷ us)
unfolding text_of
lone_byte b us h = refl

pub lone_unit : (l : ℕ) (us : List Unit16) → is_low l ≡ false → Lone (unit l ∷ us)
unfolding text_of choose◌then◌else◌
lone_unit l us e h = rw (e, and-false (is_high h))

-- a unit that is no high surrogate joins no other
pub calm : (h : ℕ) (us : List Unit16) → is_high h ≡ false → text_of (unit h ∷ us) ≡ pack h ++ text_of us
unfolding text_of choose◌then◌else◌
calm h [] e = sym (append-nil (pack h))
calm h (byte b ∷ us) e = refl
calm h (unit l ∷ us) e = rw e

pub pair : (h l : ℕ) (us : List Unit16) → is_high h ≡ true → is_low l ≡ true → text_of (unit h ∷ unit l ∷ us) ≡ pack (joined h l) ++ text_of us
unfolding text_of choose◌then◌else◌
pair h l us eh el = rw (eh, el)

-- too few bytes are left for an escape of a code unit
lone_cut : (bs : Bytes) → length bs < 6 → Lone (units between bs)
unfolding units
lone_cut [] h = lone_nil
lone_cut (b ∷ bs) h =
    split Lone (b is QUOTE) (λ _. lone_nil) λ _. split Lone (b is BACKSLASH) (λ _. escaped bs (omega arith)) λ _. lone_byte b (units between bs)
  where
    escaped : (bs : Bytes) → length bs < 5 → Lone (units escape bs)
    escaped [] h = lone_nil
    escaped (c ∷ cs) h = split Lone (c is 0x75) (λ _. rw (cut_digits cs (omega arith)) lone_nil) λ _. lone_byte (short_of c) (units between cs)

-- ---- a \u escape at an offset

-- a whole \u escape is at i
module _ (raw : Bytes) (i : ℕ) (u : UnitThere raw i) where
  pub at_unit : units between (drop i raw) ≡ unit (unit_at raw (i + 2)) ∷ units between (drop (i + 6) raw)
  at_unit =
      at_backslash raw i (i + 1) (omega (arith, u.inside)) refl u.backslash
      ∙ at_u raw (i + 1) (i + 2) (omega (arith, u.inside)) (omega arith) u.letter
      ∙ at_digits raw (i + 2) (i + 6) (omega (arith, u.inside)) (omega arith)

-- ---- the low surrogate at an offset

pub low_cut : (raw : Bytes) (i : ℕ) → length raw - i < 6 → Lone (units between (drop i raw))
low_cut raw i h = lone_cut (drop i raw) (rw length-drop h)

lone_other : (b : ℕ) (bs : Bytes) → (b ≡ BACKSLASH → ⊥) → Lone (units between (b ∷ bs))
unfolding units
lone_other b bs e =
    split Lone (b is QUOTE) (λ _. lone_nil) λ _. split Lone (b is BACKSLASH) (λ t. absurd (e (is→eq b BACKSLASH t))) λ _. lone_byte b (units between bs)

pub low_other : (raw : Bytes) (i : ℕ) → i < length raw → (get_or raw i 0 ≡ BACKSLASH → ⊥) → Lone (units between (drop i raw))
low_other raw i h e = rw (drop_next raw i (i + 1) h refl) (lone_other (get_or raw i 0) (drop (i + 1) raw) e)

pub low_short : (raw : Bytes) (i : ℕ) → i + 1 < length raw → get_or raw i 0 ≡ BACKSLASH → (get_or raw (i + 1) 0 ≡ 0x75 → ⊥)
    → Lone (units between (drop i raw))
low_short raw i h e u =
    rw (at_backslash raw i (i + 1) (omega arith) refl e, at_short raw (i + 1) (i + 2) h (omega arith) u)
    (lone_byte (short_of (get_or raw (i + 1) 0)) (units between (drop (i + 2) raw)))

low_not : (raw : Bytes) (i : ℕ) → UnitThere raw i → is_low (unit_at raw (i + 2)) ≡ false → Lone (units between (drop i raw))
low_not raw i u e = rw (at_unit raw i u) (lone_unit (unit_at raw (i + 2)) (units between (drop (i + 6) raw)) e)

pub below : (lo hi u : ℕ) → u < lo → within lo hi u ≡ false
below lo hi u h = rw (lt-leb lo u h)

pub above : (lo hi u : ℕ) → lo ≤ u → hi < u → within lo hi u ≡ false
above lo hi u l h = rw (le-leb lo u l, lt-leb u hi h)

pub amid : (lo hi u : ℕ) → lo ≤ u → u ≤ hi → within lo hi u ≡ true
amid lo hi u l h = rw (le-leb lo u l, le-leb u hi h)

pub low_below : (raw : Bytes) (i : ℕ) → UnitThere raw i → unit_at raw (i + 2) < 0xDC00 → Lone (units between (drop i raw))
low_below raw i u h = low_not raw i u (below 0xDC00 0xDFFF (unit_at raw (i + 2)) h)

pub low_above : (raw : Bytes) (i : ℕ) → UnitThere raw i → 0xDFFF < unit_at raw (i + 2) → Lone (units between (drop i raw))
low_above raw i u h = low_not raw i u (above 0xDC00 0xDFFF (unit_at raw (i + 2)) (omega arith) h)

pub low_there : (raw : Bytes) (i r : ℕ) → UnitThere raw i → r ≡ unit_at raw (i + 2) → 0xDC00 ≤ r → r ≤ 0xDFFF → LowThere raw i r
low_there raw i r u e lo hi =
    record {
      low = amid 0xDC00 0xDFFF r lo hi;
      inside = u.inside;
      there = at_unit raw i u ∙ ap (λ (n : ℕ). unit n ∷ units between (drop (i + 6) raw)) (sym e);
    }

-- ---- parts of a string

-- the cell ends directly after a backslash, or before the last digit
pub cut_backslash : (raw : Bytes) (i : ℕ) → i < length raw → length raw - i < 2 → get_or raw i 0 ≡ BACKSLASH → units between (drop i raw) ≡ []
cut_backslash raw i h s e = at_backslash raw i (i + 1) h refl e ∙ at_end escape raw (i + 1) (omega arith)

pub cut_unit : (raw : Bytes) (i : ℕ) → i + 1 < length raw → length raw - i < 6 → get_or raw i 0 ≡ BACKSLASH → get_or raw (i + 1) 0 ≡ 0x75
    → units between (drop i raw) ≡ []
cut_unit raw i h s e u =
    at_backslash raw i (i + 1) (omega arith) refl e
    ∙ at_u raw (i + 1) (i + 2) h (omega arith) u
    ∙ cut_digits (drop (i + 2) raw) (rw length-drop (omega arith))

-- an escape that is cut short has no content
pub proceeds_cut : (raw : Bytes) (i : ℕ) {text : Bytes} {next : ℕ} → i < length raw → units between (drop i raw) ≡ []
    → (text ≡ []) × (next ≡ length raw) → Proceeds raw i text next
unfolding text_of
proceeds_cut raw i h e p =
    rw (p.0, p.1) (record {
      stands = rw (e, at_end between raw (length raw) (omega arith));
      on = omega arith;
      inside = omega arith;
      unit = λ z. absurd (omega arith);
      single = λ f. let z : ◌≡◌ {A = ℕ} 0 1 = ap length f in absurd (omega arith);
    })

pub proceeds_short : (raw : Bytes) (i b : ℕ) {text : Bytes} {next : ℕ} → i + 1 < length raw → get_or raw i 0 ≡ BACKSLASH
    → (get_or raw (i + 1) 0 ≡ 0x75 → ⊥) → b ≡ short_of (get_or raw (i + 1) 0)
    → (text ≡ b ∷ []) × (next ≡ i + 2) → Proceeds raw i text next
unfolding text_of
proceeds_short raw i b h e u s p =
    rw (p.0, p.1) (record {
      stands = rw (at_backslash raw i (i + 1) (omega arith) refl e, at_short raw (i + 1) (i + 2) h (omega arith) u, s);
      on = omega arith;
      inside = omega arith;
      unit = λ _. one b;
      single =
          λ f. let at : i + 2 - 1 ≡ i + 1 = omega arith in
          rw at (short_ed (get_or raw (i + 1) 0) (sym s ∙ ap (λ (l : Bytes). get_or l 0 0) f));
    })

-- a code point
proceeds_packed : (raw : Bytes) (i u : ℕ) {text : Bytes} (next : ℕ) → text ≡ packed u → u ≤ 0x10FFFF
    → string_from raw i ≡ pack u ++ string_from raw next → i + 4 < next → next ≤ length raw → Proceeds raw i text next
proceeds_packed raw i u next p k e on inside =
    rw p (record {
      stands = e ∙ ap (λ (l : Bytes). l ++ string_from raw next) (sym (packed_is u k));
      on = omega (arith, packed_most u);
      inside = inside;
      unit = λ _. packed_unit u k;
      single = λ f. absurd (packed_no_ed u k f);
    })

module _ (raw : Bytes) (i h : ℕ) (u : UnitThere raw i) (e : h ≡ unit_at raw (i + 2)) (most : h ≤ 733992) where
  from_unit : string_from raw i ≡ text_of (unit h ∷ units between (drop (i + 6) raw))
  from_unit = ap text_of (at_unit raw i u ∙ ap (λ (n : ℕ). unit n ∷ units between (drop (i + 6) raw)) (sym e))

  -- no high surrogate
  pub goes_calm : is_high h ≡ false → {text : Bytes} → text ≡ packed h → Proceeds raw i text (i + 6)
  goes_calm c p = proceeds_packed raw i h (i + 6) p (omega arith) (from_unit ∙ calm h (units between (drop (i + 6) raw)) c) (omega arith) u.inside

  -- a high surrogate that no low one follows
  pub goes_lone : Lone (units between (drop (i + 6) raw)) → {text : Bytes} → text ≡ packed h → Proceeds raw i text (i + 6)
  goes_lone w p = proceeds_packed raw i h (i + 6) p (omega arith) (from_unit ∙ w h) (omega arith) u.inside

  -- a surrogate pair
  pub goes_pair : (l v : ℕ) → is_high h ≡ true → LowThere raw (i + 6) l → Joins h l v → {text : Bytes} → text ≡ packed v → Proceeds raw i text (i + 12)
  goes_pair l v t w j p =
      let hs = within_true 0xD800 0xDBFF h t in
      let ls = within_true 0xDC00 0xDFFF l w.low in
      let whole : v ≡ joined h l = j.joins t w.low in
      let at : i + 6 + 6 ≡ i + 12 = omega arith in
      proceeds_packed raw i v (i + 12) p (omega arith)
      (from_unit
      ∙ ap (λ (us : List Unit16). text_of (unit h ∷ us)) w.there
      ∙ pair h l (units between (drop (i + 6 + 6) raw)) t w.low
      ∙ rw (at, whole))
      (omega arith) (rw at at w.inside)

-- ---- the content of a string at an offset

module _ (raw : Bytes) (i : ℕ) where
  pub string_end : length raw ≤ i → string_from raw i ≡ []
  unfolding text_of
  string_end h = ap text_of (at_end between raw i h)

  pub string_quote : i < length raw → get_or raw i 0 ≡ QUOTE → string_from raw i ≡ []
  unfolding text_of
  string_quote h e = ap text_of (at_quote raw i (i + 1) h refl e)

  pub string_byte : i < length raw → (get_or raw i 0 ≡ QUOTE → ⊥) → (get_or raw i 0 ≡ BACKSLASH → ⊥) → string_from raw i ≡ get_or raw i 0 ∷ string_from raw (i + 1)
  unfolding text_of
  string_byte h q b = ap text_of (at_byte raw i (i + 1) h refl q b)

-- a part of a string is written
pub stepped : {old : Bytes} {at : ℕ} {whole out : Bytes} {o : ℕ} (raw : Bytes) (i : ℕ) → Writing old at whole out o (string_from raw i)
    → {text : Bytes} {next : ℕ} → Proceeds raw i text next → {w : Bytes} → w ≡ text → {new : Bytes} {r : ℕ}
    → (r ≡ o + length w) × (new ≡ written out o w) → Writing old at whole new r (string_from raw next)
stepped raw i p {text} g e q = rw (q.1, q.0, e) (put text (rw g.stands at p))
