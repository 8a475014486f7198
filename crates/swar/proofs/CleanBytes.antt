-- What it means for a byte to be clean: at least 20 hex, not the quote, not a backslash.
use Prim.Native.Nat.{ℕ, ◌≤◌}
use mathlib.Core.Path.{◌≡◌}
use mathlib.Core.Bool.{true, false, not, ◌&&◌}
use lib.Dec.{leb}
use borrow.Author.Tests.{leb-true, not-true}
use Rattle.model.specs.rules.Base.{◌is◌, BACKSLASH}
use Rattle.model.proofs.Tests.{and_true}
use Rattle.swar.specs.Words.{is_clean}

pub record Clean (quote b : ℕ) : Type 0 where
  pub least : 0x20 ≤ b
  pub no_quote : (b is quote) ≡ false
  pub no_backslash : (b is BACKSLASH) ≡ false

pub clean_is : (quote b : ℕ) → is_clean quote b ≡ true → Clean quote b
unfolding is_clean
clean_is quote b e =
    let x = and_true (leb 0x20 b && not (b is quote)) (not (b is BACKSLASH)) e in
    let y = and_true (leb 0x20 b) (not (b is quote)) x.0 in
    record { least = leb-true 0x20 b y.0; no_quote = not-true (b is quote) y.1; no_backslash = not-true (b is BACKSLASH) x.1 }
