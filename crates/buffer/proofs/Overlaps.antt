-- Blocks whose bytes are stored from the last to the first, and a last block that overlaps what was written before it.
use mathlib.Core.Path.{◌≡◌, refl, sym, ap, ap₂, ◌∙◌}
use mathlib.Core.List.{[], ◌∷◌, ◌++◌, append_assoc}
use Prim.Native.Nat.{ℕ, suc, ◌+◌, ◌-◌, ◌/◌, ◌≤◌, ◌<◌}
use native.Mathlib.Omega.{arith}
use lib.ListN.{length, take, drop, get_or, set, length-append, length-take, length-drop, take-append-drop}
use lib.Seq.{take_all, take-append-le, take-append-add, drop-append-add, drop-drop, take-set-lt, take-suc-set, set-append_left, set-set, length-take-le}
use Rattle.model.specs.rules.Base.{Bytes}
use Rattle.model.specs.rules.Api.{slice}
use Rattle.buffer.specs.Written.{written}
use Rattle.buffer.proofs.BlockProgress.{set_written, Writing, put}

-- ---- stores

-- a store directly before a written text
before_written : (l : Bytes) (o j x : ℕ) (w : Bytes) → o + 1 ≡ j → j + length w ≤ length l → set (written l j w) o x ≡ written l o (x ∷ w)
before_written l o j x w e h =
    let n : j ≡ suc o = omega arith in
    let rest : Bytes = w ++ drop (j + length w) l in
    let front : set (take j l) o x ≡ take o l ++ (x ∷ []) = rw n (sym (take-set-lt (suc o) l o x (omega arith)) ∙ take-suc-set l o x (omega arith)) in
    let end : j + length w ≡ o + length (x ∷ w) = omega arith in
    set-append_left (take j l) rest o x (omega (arith, length-take j l))
    ∙ ap (λ (p : Bytes). p ++ rest) front
    ∙ append_assoc (take o l) (x ∷ []) rest
    ∙ ap (λ (k : ℕ). take o l ++ (x ∷ (w ++ drop k l))) end

-- the first, the middle and the last of one to three bytes
pub few_stored : (l : Bytes) (o : ℕ) (s : Bytes) (m n : ℕ) → m ≡ length s / 2 → n ≡ length s - 1 → 0 < length s → length s ≤ 3 → o + length s ≤ length l
    → set (set (set l (o + n) (get_or s n 0)) (o + m) (get_or s m 0)) o (get_or s 0 0) ≡ written l o s
few_stored l o [] m n e f g h k = absurd (omega arith)
few_stored l o (a ∷ []) m n e f g h k =
    let i : m ≡ 0 = omega arith in
    let j : n ≡ 0 = omega arith in
    let z : o + 0 ≡ o = omega arith in
    rw (i, j, z) (simp set-set (set_written l o a (omega arith)))
few_stored l o (a ∷ b ∷ []) m n e f g h k =
    let i : m ≡ 1 = omega arith in
    let j : n ≡ 1 = omega arith in
    let e1 = set_written l (o + 1) b (omega arith) in
    let e0 = before_written l o (o + 1) a (b ∷ []) refl (omega arith) in
    rw (i, j, set-set, e1, e0)
few_stored l o (a ∷ b ∷ c ∷ []) m n e f g h k =
    let i : m ≡ 1 = omega arith in
    let j : n ≡ 2 = omega arith in
    let e2 = set_written l (o + 2) c (omega arith) in
    let e1 = before_written l (o + 1) (o + 2) b (c ∷ []) (omega arith) (omega arith) in
    let e0 = before_written l o (o + 1) a (b ∷ c ∷ []) refl (omega arith) in
    rw (i, j, e2, e1, e0)
few_stored l o (a ∷ b ∷ c ∷ d ∷ s) m n e f g h k = absurd (omega arith)

-- ---- overlaps

-- v over the end of w, from k on
over_end : (d : Bytes) (at : ℕ) (w : Bytes) (k : ℕ) (v : Bytes) → k ≤ length w → length w ≤ k + length v → at + k + length v ≤ length d
    → written (written d at w) (at + k) v ≡ written d at (take k w ++ v)
over_end d at w k v h j l =
    let n : ℕ = at + length w in
    let p : Bytes = take at d ++ w in
    let q : Bytes = drop n d in
    let m : ℕ = at + k + length v - n in
    let here : length (take at d) ≡ at = length-take-le at d (omega arith) in
    let long : length p ≡ n = length-append (take at d) w ∙ ap (λ (x : ℕ). x + length w) here in
    let front : take (at + k) (take at d ++ (w ++ q)) ≡ take at d ++ take k w =
    ap (λ (x : ℕ). take (x + k) (take at d ++ (w ++ q))) (sym here) ∙ take-append-add (take at d) (w ++ q) k
    ∙ ap (λ (x : Bytes). take at d ++ x) (take-append-le k w q h) in
    let past : at + k + length v ≡ length p + m = omega arith in
    let end : n + m ≡ at + length (take k w ++ v) = omega (arith, length-append (take k w) v, length-take-le k w h) in
    let back : drop (at + k + length v) (take at d ++ (w ++ q)) ≡ drop (at + length (take k w ++ v)) d =
    ap₂ drop past (sym (append_assoc (take at d) w q)) ∙ drop-append-add p q m ∙ drop-drop m n d ∙ ap (λ (x : ℕ). drop x d) end in
    ap₂ (λ (x y : Bytes). x ++ (v ++ y)) front back ∙ simp append_assoc

-- ---- a text block by block

-- the first i bytes of src are written
module _ {old : Bytes} {at : ℕ} {src out : Bytes} {o : ℕ} (i : ℕ) (p : Writing old at src out o (drop i src)) (n : ℕ) where
  -- the next n follow
  pub next_block : {new : Bytes} {r : ℕ} → i + n ≤ length src → o + n ≡ r → new ≡ written out o (slice src i (i + n))
      → Writing old at src new r (drop (i + n) src)
  next_block {r} h e f =
      let size : i + n - i ≡ n = omega arith in
      let left : length (drop i src) ≡ length src - i = length-drop i src in
      let long : length (slice src i (i + n)) ≡ n = rw size (length-take-le n (drop i src) (omega arith)) in
      let parts : drop i src ≡ slice src i (i + n) ++ drop (i + n) src = sym (take-append-drop n (drop i src)) ∙ rw (size, drop-drop) in
      let place : o + length (slice src i (i + n)) ≡ r = ap (λ (k : ℕ). o + k) long ∙ e in
      rw (f, ← place) (put (slice src i (i + n)) (rw parts at p))

  -- the last n follow from k on, some of them again
  pub last_block : {new : Bytes} (k : ℕ) → o ≡ at + i → k ≤ i → i ≤ length src → k + n ≡ length src
      → new ≡ written out (at + k) (slice src k (k + n)) → new ≡ written old at src
  last_block k e h j l f =
      let w : Bytes = p.w in
      let v : Bytes = drop k src in
      let long : length w ≡ i = omega (arith, p.place) in
      let room : at + length w + length (drop i src) ≤ length old = p.room in
      let size : length v ≡ length src - k = length-drop k src in
      let rest : length (drop i src) ≡ length src - i = length-drop i src in
      let whole : slice src k (k + n) ≡ v = take_all (k + n - k) v (omega arith) in
      let front : take k w ≡ take k src = sym (take-append-le k w (drop i src) (omega arith)) ∙ ap (take k) p.left in
      f
      ∙ ap₂ (λ (l x : Bytes). written l (at + k) x) p.text whole
      ∙ over_end old at w k v (omega arith) (omega arith) (omega arith)
      ∙ ap (written old at) (ap (λ (x : Bytes). x ++ v) front ∙ take-append-drop k src)
