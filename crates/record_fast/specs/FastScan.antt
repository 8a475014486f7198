-- The fast path over a record: the scanner's result, or fallback; and what the lists hold then.
use Rattle.std.specs.Prelude.{ℕ, ◌+◌, ◌<◌, ◌≡◌, true, false, Option, Some, None, Ok, List, ◌++◌, length, drop, get_or}
use Rattle.model.specs.declared.Dialect.{Dialect}
use Rattle.model.specs.declared.FileState.{FileState}
use Rattle.model.specs.declared.FileState.TheVariants.{Begin, Ended}
use Rattle.model.specs.rules.Base.{Bytes, ◌is◌, QUOTE, LF}
use Rattle.model.specs.rules.Dialect.{quote_of}
use Rattle.model.specs.rules.File.{after_cell}
use Rattle.model.specs.declared.FileState.TheVariants.{Cr}
use Rattle.model.specs.declared.ByteRole.TheVariants.{Tail, Ends}
use Rattle.model.specs.rules.Api.{slice}
use Rattle.model.specs.laws.Scans.{RawCell, fresh}
use Rattle.cell_fast.specs.Ends.{CleanCell}
use Rattle.record_scanner.specs.Parts.{Found, found_in, raw_starts, raw_ends, raw_kinds, ScanInBounds}
use Rattle.record_scanner.specs.Stored.{stored_from}
use Rattle.record_scanner.specs.declared.token.ScanOutcome.TheVariants as reached
use Rattle.record_fast.specs.declared.FastRecord.{FastRecord}

-- ---- the start of a record

-- where the first cell of a record starts, if the fast path takes it: here, or after the LF of a CRLF whose CR ended the record before
pub data FirstCellAt (first : FileState) (part : Bytes) (from : ℕ) : Option ℕ → Type 0 where
  here : first ≡ Begin → FirstCellAt first part from (Some from)
  after_cr : first ≡ Ended → (get_or part from 0 is LF) ≡ false → FirstCellAt first part from (Some from)
  after_pair : first ≡ Ended → from < length part → get_or part from 0 ≡ LF → FirstCellAt first part from (Some (from + 1))
  unknown : FirstCellAt first part from None

-- ---- the end of a record

-- what ends a record after its last cell, if it is found: one byte, or CR and LF
pub data RecordEndSound (d : Dialect) (part : Bytes) (e stop : ℕ) : Option (FileState × ℕ) → Type 0 where
  at_once : {f : FileState} → after_cell d true (get_or part e 0) ≡ Ok (f, Ends true) → RecordEndSound d part e stop (Some (f, e + 1))
  by_pair : e + 1 < stop → after_cell d true (get_or part e 0) ≡ Ok (Cr, Tail true) → get_or part (e + 1) 0 ≡ LF
      → RecordEndSound d part e stop (Some (Begin, e + 2))
  nowhere : RecordEndSound d part e stop None

-- ---- records

-- the scanner's result on this part, from an offset between records on
abbrev pub next_found : Dialect → (limit : ℕ) → (part : Bytes) → (from : ℕ) → FileState → Found
next_found d limit part from f = found_in d limit (fresh f 0 from) (drop from part)

-- these cells are stored in the lists, from index base on, as far as there is room
pub record StoredCells (d : Dialect) (room base : ℕ) (cs : List RawCell) (starts₀ ends₀ kinds₀ starts ends kinds : List ℕ) : Type 0 where
  pub at_starts : starts ≡ stored_from room base (raw_starts cs) starts₀
  pub at_ends : ends ≡ stored_from room base (raw_ends cs) ends₀
  pub at_kinds : kinds ≡ stored_from room base (raw_kinds d cs) kinds₀

-- the first n cells in the lists from index base on are verbatim, and the quote is the quotation mark
pub record Clean (d : Dialect) (part : Bytes) (room base n : ℕ) (starts ends : List ℕ) : Type 0 where
  pub quotes : quote_of d ≡ QUOTE
  pub each : (k : ℕ) → k < n → base + k < room → CleanCell d (slice part (get_or starts (base + k) 0) (get_or ends (base + k) 0))

-- soundness of the fast path: a record that is found is the scanner's. On fallback (`None`) its first cells may be in the lists
pub data FastScanSound (d : Dialect) (limit : ℕ) (part : Bytes) (from : ℕ) (f : FileState) (room base : ℕ)
    (starts₀ ends₀ kinds₀ starts ends kinds : List ℕ) : Option FastRecord → Type 0 where
  is_found :
      {r : FastRecord} (cs : List RawCell) →
      next_found d limit part from f ≡ record { answer = reached.Completed r.start r.cells r.state r.next; cells = cs } →
      ScanInBounds (length part) from limit base (reached.Completed r.start r.cells r.state r.next) →
      StoredCells d room base cs starts₀ ends₀ kinds₀ starts ends kinds → (r.clean ≡ true → Clean d part room base r.cells starts ends) →
      FastScanSound d limit part from f room base starts₀ ends₀ kinds₀ starts ends kinds (Some r)
  is_fallback :
      (cs more : List RawCell) → (next_found d limit part from f).cells ≡ cs ++ more → StoredCells d room base cs starts₀ ends₀ kinds₀ starts ends kinds →
      FastScanSound d limit part from f room base starts₀ ends₀ kinds₀ starts ends kinds None
