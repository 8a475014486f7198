-- The laws of the definitions, as statements over any dialect, with a target or without. Proved in proofs/Laws.antt.
use Rattle.std.specs.Prelude.{ℕ, ◌+◌, ◌*◌, ◌≤◌, ◌≡◌, ◌↔◌, Bool, true, false, List, [], ◌∷◌, ◌++◌, length, Option}
use Rattle.model.specs.rules.Types.{Dialect, Target, FileState, ByteFault, Encoding, Syntax, Fault, Byte, Ok}
use Rattle.model.specs.rules.Base.{Bytes}
use Rattle.model.specs.rules.Utf8.{is_content}
use Rattle.model.specs.rules.Decode.{kind_of, content_of, validate_cell}
use Rattle.model.specs.rules.Text.{Value, record_text, ending}
use Rattle.model.specs.rules.Records.{Rec, Read, going, stopped, file_full, record_full, read_from, read_bytes, read_file, records_of}
use Rattle.model.specs.laws.Viable.{Completes, CanGoOn, text_at, breaks}

-- ---- terms

-- helper: P holds of each member of a list
pub data All {ℓ κ} {A : Type ℓ} (P : A → Type κ) : List A → Type (ℓ ⊔ κ) where
  all_none : All P []
  all_cons : {x : A} {xs : List A} → P x → All P xs → All P (x ∷ xs)

-- b is a with something appended: the records completed grow and are never taken back (§16.7)
pub record Grows {ℓ} {A : Type ℓ} (a b : List A) : Type ℓ where
  pub added : List A
  pub sum : b ≡ a ++ added

-- a cell that was read is a raw cell that the decoder accepts, with this kind and content (§11.1)
pub record SoundCell (d : Dialect) (v : Value) : Type 0 where
  pub raw : Bytes
  pub sound : validate_cell d raw ≡ Ok tt
  pub kind : v.kind ≡ kind_of d raw
  pub content : v.content ≡ content_of d raw

-- the decoder accepts every cell of a record (§11.1)
abbrev pub SoundRecord : Dialect → Rec → Type 0
SoundRecord d r = All (SoundCell d) r.cells

-- the bound of a written record with its ending, in every target, as a header or not (§15.10)
abbrev pub Bounded : (size : ℕ) → List Value → Type 0
Bounded size vs = (t : Target) (header : Bool) → length (record_text t header vs ++ ending t.dialect) ≤ 6 * (size + 1)

-- the same for a record that was read, by its counted bytes (§15.10)
abbrev pub BoundedRecord : Rec → Type 0
BoundedRecord r = Bounded r.size r.cells

-- ---- laws

-- a file may be cut anywhere: what was read of the bytes consumed stays when more bytes join them (§15.10 §16.4 §16.5)
pub record ReadingLaws (d : Dialect) (target : Option Target) : Type 0 where
  -- reading continues from its state
  pub append : (xs ys : Bytes) → read_bytes d target (xs ++ ys) ≡ read_from d target (read_bytes d target xs) ys
  -- a fault, and the records before it, are the same for every file that begins with the bytes read so far
  pub fault_stays :
      (e : Fault) (r : Read) (xs ys : Bytes) → read_bytes d target xs ≡ stopped e r →
      (read_bytes d target (xs ++ ys) ≡ stopped e r) × (read_file d target (xs ++ ys) ≡ stopped e r)
  -- a complete record stays, with all before it
  pub records_stay : (xs ys : Bytes) → Grows (records_of (read_bytes d target xs)) (records_of (read_bytes d target (xs ++ ys)))
  -- the decoder accepts every cell that was read, with the same kind and content
  pub cells_sound : (xs : Bytes) → All (SoundRecord d) (records_of (read_bytes d target xs)) × All (SoundRecord d) (records_of (read_file d target xs))
  -- every record that was read is bounded when written
  pub records_bounded : (xs : Bytes) → All BoundedRecord (records_of (read_bytes d target xs)) × All BoundedRecord (records_of (read_file d target xs))

-- faults 2 and 3 are given exactly when the table says: for the byte b after the bytes xs, which were read without a fault, within
-- the limits (§6.2 §6.3 §6.24)
pub record NextByteLaws (d : Dialect) (target : Option Target) (xs : Bytes) (r : Read) (b : ℕ) : Type 0 where
  -- fault 2 or 3, exactly where no file continues with it
  pub refused : ((e : ByteFault) × (read_bytes d target (xs ++ (b ∷ [])) ≡ stopped (Byte e) r)) ↔ ¬ (CanGoOn d xs b)
  -- fault 2, exactly where it breaks the UTF-8 table
  pub encoding : (read_bytes d target (xs ++ (b ∷ [])) ≡ stopped (Byte Encoding) r) ↔ (breaks (text_at d r.state) b ≡ true)
  -- fault 3, exactly where no file continues with it and it does not break the table
  pub syntax_fault : (read_bytes d target (xs ++ (b ∷ [])) ≡ stopped (Byte Syntax) r) ↔ (¬ (CanGoOn d xs b) × (breaks (text_at d r.state) b ≡ false))

-- the laws, over every dialect (§19.8)
pub record Laws : Type 0 where
  pub reading : (d : Dialect) (target : Option Target) → ReadingLaws d target
  -- every state can be completed to a record, by form alone
  pub completion : (d : Dialect) (f : FileState) → (bs : Bytes) × Completes d f bs
  pub next_byte :
      (d : Dialect) (target : Option Target) (xs : Bytes) (r : Read) (b : ℕ) → read_bytes d target xs ≡ going r → file_full r ≡ false →
      record_full r b ≡ false → NextByteLaws d target xs r b
  -- decoded content has its form: UTF-8, lone surrogates, never a high one directly before a low one (§2.6 §2.9)
  pub content_form : (d : Dialect) (raw : Bytes) → validate_cell d raw ≡ Ok tt → is_content (content_of d raw) ≡ true
  -- decoded content is no longer than the raw cell
  pub content_length : (d : Dialect) (raw : Bytes) → length (content_of d raw) ≤ length raw
