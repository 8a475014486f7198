-- A text at the beginning of zeros is padded by them.
use Prim.Native.Nat.{ℕ, ◌+◌, ◌-◌, ◌≤◌}
use native.Mathlib.Omega.{arith}
use mathlib.Core.Path.{◌≡◌, sym, ap, ◌∙◌}
use mathlib.Core.List.{◌++◌}
use lib.ListN.{length, take, drop, replicate, length-append}
use lib.Seq.{take-append_seam}
use Rattle.std.proofs.lemmas.List.{drop-replicate, length-replicate}
use Rattle.model.specs.rules.Base.{Bytes}
use Rattle.buffer.specs.Writes.{written}
use Rattle.buffer.specs.Padded.{padded}

module _ (n r : ℕ) (text out : Bytes) (h : length text ≤ n) (e : (r ≡ 0 + length text) × (out ≡ written (replicate n 0) 0 text)) where
  over_zeros : out ≡ text ++ replicate (n - length text) 0
  over_zeros =
      let rest : drop (0 + length text) (replicate n 0) ≡ replicate (n - length text) 0 =
      ap (λ (k : ℕ). drop k (replicate n 0)) (omega arith) ∙ drop-replicate (length text) n 0 in
      e.1 ∙ ap (λ (z : Bytes). text ++ z) rest

  pub at_beginning : take r out ≡ text
  at_beginning =
      let size : r ≡ length text = e.0 ∙ omega arith in
      ap (λ (k : ℕ). take k out) size ∙ ap (λ (z : Bytes). take (length text) z) over_zeros ∙ take-append_seam text (replicate (n - length text) 0)

  pub is_padded : (r ≤ n) × (length out ≡ n) × (out ≡ padded n (take r out))
  is_padded =
      let size : r ≡ length text = e.0 ∙ omega arith in
      let long : length out ≡ length text + (n - length text) =
      ap length over_zeros ∙ length-append text (replicate (n - length text) 0) ∙ ap (λ (k : ℕ). length text + k) (length-replicate (n - length text) 0) in
      (omega (arith, size, h), omega (arith, long, h), over_zeros ∙ ap (padded n) (sym at_beginning))
