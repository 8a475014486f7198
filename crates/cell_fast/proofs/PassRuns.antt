-- Laws of spans whose bytes pass a test: one byte more, one word more, and the bytes before the first flag of a word.
use Prim.Native.Nat.{ℕ, ◌+◌, ◌-◌, ◌≤◌, ◌<◌}
use native.Mathlib.Omega.{arith}
use mathlib.Core.Path.{◌≡◌, sym, ◌∙◌}
use mathlib.Core.Bool.{Bool, true}
use mathlib.Core.List.{[], ◌∷◌}
use lib.ListN.{length, take, drop, get_or}
use lib.Seq.{take-take}
use borrow.Author.Tests.{ne_eqb, le-leb, eqb-true, eqb-false}
use Rattle.model.specs.rules.Base.{Bytes, choose◌then◌else◌, ◌is◌}
use Rattle.model.specs.rules.Api.{slice}
use Rattle.model.proofs.Tests.{split_on}
use Rattle.swar.specs.Words.{clean_ascii, bytes_of, Word, all_pass, Flags, zero_bytes, passing}
use Rattle.swar.proofs.FlaggedPrefix.{slice_stops}
use Rattle.swar.proofs.AllPass.{all_join, passing_pass, word_all}
use Rattle.utf8.proofs.MultibyteRuns.{part_join}
use Rattle.cell_scanner.proofs.Runs.{part_next, part_end}
use Rattle.cell_fast.specs.TextRuns.{PassRun}

pub one_byte : (s : Bytes) (i : ℕ) → i < length s → slice s i (i + 1) ≡ get_or s i 0 ∷ []
one_byte s i h = part_next s i (i + 1) (omega arith) (omega arith) ∙ rw (part_end s (i + 1))

pub pass_none : {passes : ℕ → Bool} (s : Bytes) (at stop : ℕ) → at ≤ stop → PassRun passes s at stop at
unfolding all_pass
pass_none s at stop h = record { from = omega arith; upto = h; each = rw (part_end s at) }

pub pass_join : {passes : ℕ → Bool} {s : Bytes} {at i stop r : ℕ} → PassRun passes s at stop i → PassRun passes s i stop r → PassRun passes s at stop r
pass_join {passes} {s} {at} {i} {stop} {r} x y =
    let h : at ≤ i = x.from in
    let k : i ≤ r = y.from in
    record { from = omega arith; upto = y.upto; each = rw (part_join s at i r h k) (all_join passes (slice s at i) (slice s i r) x.each y.each) }

pub pass_byte : {passes : ℕ → Bool} {s : Bytes} {at i stop : ℕ} → PassRun passes s at stop i → i < stop → stop ≤ length s
    → passes (get_or s i 0) ≡ true → PassRun passes s at stop (i + 1)
unfolding all_pass
pass_byte {passes} {s} {at} {i} {stop} x h k e =
    let one : all_pass passes (slice s i (i + 1)) ≡ true = rw (one_byte s i (omega arith), e) in
    pass_join x (record { from = omega arith; upto = omega arith; each = one })

-- the word at i, and its flags
module _ {passes : ℕ → Bool} {s : Bytes} {at i stop w flags : ℕ} (x : PassRun passes s at stop i) (h : i + 8 ≤ stop)
    (is_word : Word (slice s i (i + 8)) w) (told : Flags passes w flags) where
  pub pass_word : flags ≡ 0 → PassRun passes s at stop (i + 8)
  pass_word e = pass_join x (record { from = omega arith; upto = h; each = word_all is_word told e })

  pub pass_flag : (n : ℕ) → ¬ (flags ≡ 0) → n ≡ zero_bytes (bytes_of 8 flags) → (n < 8) × PassRun passes s at stop (i + n)
  pass_flag n e z =
      let ends = slice_stops s i is_word told stop h e in
      let same : n ≡ passing passes (slice s i stop) = z ∙ ends.0 in
      let less : passing passes (slice s i stop) < 8 = ends.1 in
      let small : n < 8 = omega arith in
      let part : slice s i (i + n) ≡ take n (slice s i stop) =
      (let m : i + n - i ≡ n = omega arith in rw m (sym (take-take n (stop - i) (drop i s) (omega arith)))) in
      (small, pass_join x (record { from = omega arith; upto = omega arith; each = rw (part, same) (passing_pass passes (slice s i stop)) }))

  -- the bytes before the first flag, whether there is one or not
  pub pass_zeros : (n : ℕ) → n ≡ zero_bytes (bytes_of 8 flags) → (n ≤ 8) × PassRun passes s at stop (i + n)
  unfolding zero_bytes bytes_of choose◌then◌else◌
  pass_zeros n z =
      split_on (flags is 0)
      (λ t. let e : flags ≡ 0 = eqb-true flags 0 t in let m : n ≡ 8 = rw e at z in (omega arith, rw m (pass_word e)))
      λ t. let x = pass_flag n (eqb-false flags 0 t) z in let l : n < 8 = x.0 in (omega arith, x.1)

pub clean_byte : (p q b : ℕ) → 0x20 ≤ b → b ≤ 0x7F → ¬ (b ≡ 0x5C) → ¬ (b ≡ p) → ¬ (b ≡ q) → clean_ascii p q b ≡ true
unfolding clean_ascii
clean_byte p q b l h e np nq = rw (le-leb 0x20 b l, le-leb b 0x7F h, ne_eqb b p np, ne_eqb b q nq, ne_eqb b 0x5C e)
