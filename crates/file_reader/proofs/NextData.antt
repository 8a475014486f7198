-- The next data record is the next record of the file, by whichever scan it was found.
use Prim.Native.Nat.{ℕ}
use mathlib.Core.Path.{◌≡◌, sym, ap, subst, ◌∙◌}
use mathlib.Core.List.{List, []}
use lib.ListN.{length, drop}
use Rattle.model.specs.declared.Dialect.{Dialect}
use Rattle.model.specs.declared.FileState.{FileState}
use Rattle.model.specs.rules.Base.{Bytes}
use Rattle.model.specs.rules.Records.{between_records}
use Rattle.model.specs.rules.Api.{starts_of, ends_of, kinds_of}
use Rattle.record_scanner.specs.Stored.{stored_from}
use Rattle.record_scanner.proofs.StoreLaws.{length_stored_from}
use Rattle.file_cursor.specs.Next.{Next, next_record, EventInBounds}
use Rattle.file_cursor.specs.declared.scan.FileScan.{FileScan}
use Rattle.file_cursor.proofs.WholeFile.{Out}
use Rattle.file_reader.specs.Passes.{data_scan}

module _ {d : Dialect} {file : Bytes} {f : FileState} {i room base : ℕ} {s₀ e₀ k₀ : List ℕ} {v : FileScan} {s e k : List ℕ}
    (o : Out d file f i room base s₀ e₀ k₀ v s e k) where
  abbrev Here : Next
  Here = next_record d (between_records [] f i) (drop i file)

  pub as_data :
      (x : FileScan) → v ≡ x →
      (data_scan (length file) x ≡ data_scan (length file) Here.event)
      × ((s ≡ stored_from room base (starts_of Here.cells) s₀)
      × ((e ≡ stored_from room base (ends_of Here.cells) e₀)
      × ((k ≡ stored_from room base (kinds_of Here.cells) k₀) × EventInBounds (length file) i base Here.event)))
  as_data x w =
      let z : x ≡ Here.event = sym w ∙ o.event in (
        ap (data_scan (length file)) z,
        (o.at_starts, (o.at_ends, (o.at_kinds, subst (EventInBounds (length file) i base) o.event o.bounds))),
      )

  pub as_long : (length s ≡ length s₀) × (length e ≡ length e₀) × (length k ≡ length k₀)
  as_long = (
    ap length o.at_starts ∙ length_stored_from room base (starts_of Here.cells) s₀,
    ap length o.at_ends ∙ length_stored_from room base (ends_of Here.cells) e₀,
    ap length o.at_kinds ∙ length_stored_from room base (kinds_of Here.cells) k₀,
  )
