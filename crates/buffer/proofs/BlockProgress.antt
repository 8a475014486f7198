-- The progress of a writer as one record: what the buffer holds, and what remains to be written. A step of a loop is one law.
use mathlib.Core.Path.{◌≡◌, refl, sym, ap, ap₂, ◌∙◌}
use mathlib.Core.List.{List, [], ◌∷◌, ◌++◌, append_assoc, append-nil}
use Prim.Native.Nat.{ℕ, ◌+◌, ◌≤◌, ◌<◌}
use native.Mathlib.Nat.{add-zero, add_assoc}
use native.Mathlib.Numerals.{add-one}
use native.Mathlib.Omega.{arith}
use lib.ListN.{length, take, drop, get_or, set, length-append, length-take, length-drop, take-append-drop}
use lib.Seq.{take_at, drop_at, drop-drop, drop-cons, set_split}
use Rattle.model.specs.rules.Base.{Bytes, over}
use Rattle.buffer.specs.Written.{written}

-- a list from an index on, by its next element
pub drop_next : (xs : List ℕ) (i j : ℕ) → i < length xs → i + 1 ≡ j → drop i xs ≡ get_or xs i 0 ∷ drop j xs
drop_next xs i j h n = rw (← n, add-one, drop-cons xs i 0)

-- a list from which n elements can be taken has them
pub taken_whole : (n : ℕ) (l : Bytes) → length (take n l) ≡ n → n ≤ length l
taken_whole n l e = omega (arith, length-take n l, e)

pub length_written : (d : Bytes) (at : ℕ) (w : Bytes) → at + length w ≤ length d → length (written d at w) ≡ length d
length_written d at w h = simp (length-append, length-take, length-drop) (omega arith)

pub written_nil : (d : Bytes) (at : ℕ) → written d at [] ≡ d
written_nil d at = ap (λ (k : ℕ). take at d ++ drop k d) (add-zero at) ∙ take-append-drop at d

-- w written, then v: together w ++ v
pub written_more : (d : Bytes) (at : ℕ) (w v : Bytes) → at + length w ≤ length d → written (written d at w) (at + length w) v ≡ written d at (w ++ v)
written_more d at w v h =
    let n : ℕ = at + length w in
    let p : Bytes = take at d ++ w in
    let q : Bytes = drop n d in
    let long : length p ≡ n = simp (length-append, length-take) (omega arith) in
    let past : drop (n + length v) (p ++ q) ≡ drop (n + length v) d =
    sym (drop-drop (length v) n (p ++ q)) ∙ ap (drop (length v)) (drop_at p q n long) ∙ drop-drop (length v) n d in
    ap (λ (l : Bytes). written l n v) (sym (append_assoc (take at d) w q))
    ∙ ap₂ (λ (a b : Bytes). a ++ (v ++ b)) (take_at p q n long) past
    ∙ simp (append_assoc, length-append, add_assoc)

-- a store writes a text of one byte
pub set_written : (l : Bytes) (o x : ℕ) → o < length l → set l o x ≡ written l o (x ∷ [])
set_written l o x h = set_split l o x h ∙ ap (λ (k : ℕ). take o l ++ (x ∷ drop k l)) (sym (add-one o))

-- old is being overwritten from at with the text whole: out is the buffer now, o the next offset, rest what remains
pub record Writing (old : Bytes) (at : ℕ) (whole out : Bytes) (o : ℕ) (rest : Bytes) : Type 0 where
  pub w : Bytes
  pub place : o ≡ at + length w
  pub text : out ≡ written old at w
  pub left : w ++ rest ≡ whole
  pub room : at + length w + length rest ≤ length old
  pub long : length out ≡ length old

pub start : (old : Bytes) (at : ℕ) (whole : Bytes) → at + length whole ≤ length old → Writing old at whole old at whole
start old at whole h = record { w = []; place = omega arith; text = sym (written_nil old at); left = refl; room = omega arith; long = refl }

module _ {old : Bytes} {at : ℕ} {whole out : Bytes} {o : ℕ} where
  -- the first part of the rest is written
  pub put : (v : Bytes) {rest : Bytes} → Writing old at whole out o (v ++ rest) → Writing old at whole (written out o v) (o + length v) rest
  put v {rest} p =
      let fits : at + length p.w + (length v + length rest) ≤ length old = rw length-append at p.room in
      let e : written out o v ≡ written old at (p.w ++ v) = rw (p.text, p.place) (written_more old at p.w v (omega arith)) in
      record {
        w = p.w ++ v;
        place = simp length-append (omega (arith, p.place));
        text = e;
        left = append_assoc p.w v rest ∙ p.left;
        room = simp length-append (omega arith);
        long = length_written out o v (omega (arith, p.place, p.long)) ∙ p.long;
      }

  -- there is room for the next byte, and it is written
  pub here : {x : ℕ} {rest : Bytes} → Writing old at whole out o (x ∷ rest) → o < length out
  here p = omega (arith, p.place, p.long, p.room)

  pub store : {x : ℕ} {rest : Bytes} → Writing old at whole out o (x ∷ rest) → Writing old at whole (set out o x) (o + 1) rest
  store {x} p = rw (set_written out o x (here p)) (put (x ∷ []) p)

  -- room for the rest
  pub room_left : {rest : Bytes} → Writing old at whole out o rest → o + length rest ≤ length out
  room_left p = omega (arith, p.place, p.long, p.room)

  -- nothing remains
  pub done : Writing old at whole out o [] → (o ≡ at + length whole) × (out ≡ written old at whole)
  done p =
      let e : whole ≡ p.w = sym p.left ∙ append-nil p.w in
      rw e (p.place, p.text)

-- from offset 0
pub written_first : (old w : Bytes) → written old 0 w ≡ over w old
written_first old w = let from_zero : 0 + length w ≡ length w = omega arith in ap (λ (n : ℕ). w ++ drop n old) from_zero

pub filled : {old whole out : Bytes} {o : ℕ} → Writing old 0 whole out o [] → out ≡ over whole old
filled {old} {whole} p = (done p).1 ∙ written_first old whole
