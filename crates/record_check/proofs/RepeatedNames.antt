-- The search for a repeated name, unrolled at the cell at one place.
use mathlib.Core.Path.{◌≡◌, refl, sym, ap}
use mathlib.Core.Bool.{true, false}
use mathlib.Core.List.{List, ◌∷◌}
use Prim.Native.Nat.{ℕ, ◌+◌, ◌<◌, ◌≤◌}
use native.Mathlib.Numerals.{add-one}
use lib.ListN.{length}
use Rattle.model.specs.declared.Dialect.{Dialect}
use Rattle.model.specs.declared.Fault.{Fault}
use Rattle.model.specs.rules.Types.{CheckResult}
use Rattle.std.specs.Prelude.{Ok, Err}
use Rattle.model.specs.rules.Base.{choose◌then◌else◌, Bytes}
use Rattle.model.specs.rules.Records.{among, repeat_from, repeat_fault}
use Rattle.cell_decoder.specs.declared.source.Source.{Source}
use Rattle.cell_decoder.specs.Sources.{cells_in}
use Rattle.cell_decoder.proofs.CellsIn.{cells_from, cells_next, cells_end}
use Rattle.record_check.specs.Keys.{keys_before}
use Rattle.record_check.proofs.Keys.{key_of}

module _ (src : Source) (rule : Dialect) (fault : ℕ → Fault) (s : Bytes) (starts ends kinds : List ℕ) where
  abbrev pub repeat_at : ℕ → CheckResult
  repeat_at n = repeat_from rule fault (keys_before src rule s starts ends n) (n + 1) (cells_from src s starts ends kinds n)

  pub repeat_start : repeat_fault rule fault (cells_in src s starts ends kinds) ≡ repeat_at 0
  unfolding repeat_fault keys_before
  repeat_start = refl

  keys_next : (n : ℕ) → keys_before src rule s starts ends (n + 1) ≡ key_of src rule s starts ends n ∷ keys_before src rule s starts ends n
  unfolding keys_before
  keys_next n = rw add-one

  module _ (p : length starts ≡ length ends) (q : length kinds ≡ length starts) (n : ℕ) where
    pub repeat_end : length starts ≤ n → repeat_at n ≡ Ok tt
    unfolding repeat_from
    repeat_end h = rw (cells_end src s starts ends kinds p (sym q) n h)

    module _ (h : n < length starts) where
      pub repeat_here : among (key_of src rule s starts ends n) (keys_before src rule s starts ends n) ≡ true → repeat_at n ≡ Err (fault (n + 1))
      unfolding repeat_from choose◌then◌else◌
      repeat_here e = rw (cells_next src s starts ends kinds p (sym q) n h, e)

      pub repeat_next : among (key_of src rule s starts ends n) (keys_before src rule s starts ends n) ≡ false → repeat_at n ≡ repeat_at (n + 1)
      unfolding repeat_from choose◌then◌else◌
      repeat_next e =
          rw (cells_next src s starts ends kinds p (sym q) n h, e, keys_next n)
          (ap
          (λ (k : ℕ).
          repeat_from rule fault (key_of src rule s starts ends n ∷ keys_before src rule s starts ends n) k
          (cells_from src s starts ends kinds (n + 1))) (sym (add-one (n + 1))))
