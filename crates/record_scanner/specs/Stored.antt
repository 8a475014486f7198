-- What the lent lists hold: each cell's start, end and kind at its index, as far as there is room (§10.2).
use Rattle.std.specs.Prelude.{ℕ, suc, Bool, List, [], ◌∷◌, set, ltb}
use Rattle.model.specs.rules.Base.{choose◌then◌else◌}

-- x at index k, if there is room for it
unfoldable pub store_at : (room k x : ℕ) → List ℕ → List ℕ
store_at room k x old = choose ltb k room then set old k x else old

-- the same, if a cell ends
unfoldable pub store_if : (closes : Bool) → (room k x : ℕ) → List ℕ → List ℕ
store_if closes room k x old = choose closes then store_at room k x old else old

-- all of these from index k on
unfoldable pub stored_from : (room k : ℕ) → List ℕ → List ℕ → List ℕ
stored_from room k [] old = old
stored_from room k (x ∷ xs) old = stored_from room (suc k) xs (store_at room k x old)
