-- The grammar derives a raw cell exactly where the decoder accepts it, and then the derivation gives the decoder's kind and content:
-- over the dialect.
use mathlib.Core.Path.{◌≡◌}
use mathlib.Core.Logic.{◌↔◌}
use Rattle.grammar.specs.rfc.Types.{Dialect, Csvj, Tdif, CsvPlus, Fresh}
use Rattle.std.specs.Prelude.{Ok}
use Rattle.model.specs.rules.Base.{Bytes}
use Rattle.model.specs.rules.Decode.{validate_cell}
use Rattle.grammar.specs.rfc.Derived.{Derived, cell, raw_of}
use Rattle.grammar.specs.dialects.Derives.{DerivesCell}
use Rattle.grammar.specs.dialects.FormReads.{decoded}
use Rattle.grammar.proofs.rfc.WholeCells.{Spells, DerivedFrom, derived_from, spells_validated, validated_spells}
use Rattle.grammar.proofs.dialects.CsvjCells as csvj
use Rattle.grammar.proofs.dialects.TdifCells as tdif
use Rattle.grammar.proofs.dialects.PlusCells as plus

-- a derived cell is read
pub derived_spells : (d : Dialect) (c : Derived) → DerivesCell d c → Spells d Fresh (raw_of c)
derived_spells Csvj c v = csvj.value_spells v
derived_spells Tdif c v = tdif.field_spells v
derived_spells (CsvPlus s) c v = plus.field_spells s v

-- a derivation gives each cell's kind and content, and they are the decoder's
pub derived_content : (d : Dialect) (c : Derived) → DerivesCell d c → c ≡ decoded d (raw_of c)
derived_content Csvj c v = csvj.value_content v
derived_content Tdif c v = tdif.field_content v
derived_content (CsvPlus s) c v = plus.field_content s v

spells_some : (d : Dialect) (raw : Bytes) → Spells d Fresh raw → DerivedFrom (DerivesCell d) raw
spells_some Csvj raw m = csvj.spells_value m
spells_some Tdif raw m = tdif.spells_field m
spells_some (CsvPlus s) raw m = plus.spells_field s m

-- a cell that is read is derived
pub spells_derived : (d : Dialect) (raw : Bytes) → Spells d Fresh raw → DerivesCell d (decoded d raw)
spells_derived d raw m = go (spells_some d raw m)
  where
    go : DerivedFrom (DerivesCell d) raw → DerivesCell d (decoded d raw)
    go (derived_from {kind} {content} v) = rw (← (derived_content d (cell raw kind content) v)) v

-- ---- the theorem for a single cell

pub cell_exact : (d : Dialect) (raw : Bytes) → DerivesCell d (decoded d raw) ↔ (validate_cell d raw ≡ Ok tt)
cell_exact d raw = ((λ v. spells_validated (derived_spells d (decoded d raw) v)), (λ e. spells_derived d raw (validated_spells d raw e)))
