-- Soundness of the fast path: a record that it returns is the one that the cursor returns. Of a fallback nothing is claimed.
use Rattle.std.specs.Prelude.{ℕ, ◌≡◌, Bool, true, false, List, take, Option, None, Some, Ok}
use Rattle.model.specs.declared.Dialect.{Dialect}
use Rattle.model.specs.declared.FileState.{FileState}
use Rattle.model.specs.rules.Base.{Bytes, is_empty}
use Rattle.model.specs.rules.Text.{Value}
use Rattle.model.specs.rules.Records.{Rec}
use Rattle.cell_fast.specs.Ends.{CleanIn}
use Rattle.file_cursor.specs.declared.Cursor.{Cursor}
use Rattle.file_cursor.specs.NextRecord.{RecordChecked, Next}
use Rattle.file_cursor.specs.declared.fast.FastNext.{FastNext}

-- a complete record with these cells, after the records rs
pub data FastCheckSound (d : Dialect) (target : Option Dialect) (rs : List Rec) (vs : List Value) (start : ℕ) (f : FileState) (o : ℕ) (clean : Bool) : Option FastNext → Type 0 where
  sound : {v : Cursor} → RecordChecked d target rs vs start f o (Ok (Some v)) → FastCheckSound d target rs vs start f o clean (Some (record { cursor = v; clean = clean }))
  unsure : FastCheckSound d target rs vs start f o clean None

-- the record from i on, after the records rs
pub data FastNextSound (d : Dialect) (target : Option Dialect) (file : Bytes) (rs : List Rec) (f : FileState) (i : ℕ) (starts ends kinds : List ℕ) : Option FastNext → Type 0 where
  a_record :
      {v : Cursor} {clean : Bool} → is_empty rs ≡ false → Next d target file rs f i starts ends kinds v →
      (clean ≡ true → CleanIn d file (take v.columns starts) (take v.columns ends)) → FastNextSound d target file rs f i starts ends kinds (Some (record { cursor = v; clean = clean }))
  nothing : FastNextSound d target file rs f i starts ends kinds None
