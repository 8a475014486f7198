-- Laws of bytes that all pass a test: such lists join, every prefix is one, and a word without a flag is one.
use Prim.Native.Nat.{ℕ}
use mathlib.Core.Path.{◌≡◌, refl, sym, ◌∙◌}
use mathlib.Core.Bool.{Bool, true}
use mathlib.Core.List.{[], ◌∷◌, ◌++◌}
use lib.ListN.{take}
use borrow.Author.Tests.{eq-eqb}
use Rattle.model.specs.rules.Base.{Bytes, choose◌then◌else◌}
use Rattle.model.proofs.Tests.{split_on, and_true}
use Rattle.swar.specs.Words.{Word, Flags, all_pass, passing}

module _ (passes : ℕ → Bool) where
  pub all_join : (xs ys : Bytes) → all_pass passes xs ≡ true → all_pass passes ys ≡ true → all_pass passes (xs ++ ys) ≡ true
  unfolding all_pass
  all_join [] ys e h = h
  all_join (b ∷ xs) ys e h = let k = and_true (passes b) (all_pass passes xs) e in rw (k.0, all_join xs ys k.1 h)

  pub passing_pass : (bs : Bytes) → all_pass passes (take (passing passes bs) bs) ≡ true
  unfolding all_pass passing choose◌then◌else◌
  passing_pass [] = refl
  passing_pass (b ∷ bs) = split_on (passes b) (λ t. rw (t, t, passing_pass bs)) λ t. rw t

  -- a weaker test passes too
  pub all_weaker : (other : ℕ → Bool) → ((b : ℕ) → passes b ≡ true → other b ≡ true) → (bs : Bytes) → all_pass passes bs ≡ true → all_pass other bs ≡ true
  unfolding all_pass
  all_weaker other f [] e = refl
  all_weaker other f (b ∷ bs) e = let k = and_true (passes b) (all_pass passes bs) e in rw (f b k.0, all_weaker other f bs k.1)

pub word_all : {passes : ℕ → Bool} {bs : Bytes} {w flags : ℕ} → Word bs w → Flags passes w flags → flags ≡ 0 → all_pass passes bs ≡ true
word_all {flags} is_word told e = sym (told.exact ∙ rw is_word.bytes) ∙ eq-eqb flags 0 e
