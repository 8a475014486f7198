-- Faults 2 and 3 by the grammar: which byte may follow in a file, and which is refused.
use Rattle.std.specs.Prelude.{ℕ, ◌≡◌, ◌↔◌, false, List, [], ◌∷◌, ◌++◌, Option}
use Rattle.grammar.specs.rfc.Types.{Dialect, Target, ByteFault, Syntax, Byte}
use Rattle.model.specs.rules.Base.{Bytes}
use Rattle.model.specs.rules.Records.{Read, stopped, read_bytes}
use Rattle.model.specs.laws.Viable.{text_at, breaks}
use Rattle.grammar.specs.rfc.Derived.{Derived, Line}
use Rattle.grammar.specs.dialects.Derives.{Derives}

-- some derivation's text begins with these bytes, and this one after them
abbrev pub ProceedsOn : Dialect → Bytes → ℕ → Type 0
ProceedsOn d xs b = (ys : Bytes) × (ls : List (Line Derived)) × Derives d (xs ++ (b ∷ ys)) ls

-- the byte b after the bytes xs, which were read without fault, within the limits
pub record NextByte (d : Dialect) (target : Option Target) (xs : Bytes) (r : Read) (b : ℕ) : Type 0 where
  -- it is fault 2 or 3 exactly when no derivation's text begins so
  pub refused : ((e : ByteFault) × (read_bytes d target (xs ++ (b ∷ [])) ≡ stopped (Byte e) r)) ↔ ¬ (ProceedsOn d xs b)
  -- and 3 where it does not break the UTF-8 table in a text that it belongs to
  pub syntax_fault :
      (read_bytes d target (xs ++ (b ∷ [])) ≡ stopped (Byte Syntax) r) ↔ (¬ (ProceedsOn d xs b) × (breaks (text_at d r.state) b ≡ false))
