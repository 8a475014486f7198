-- What the reader requires of a file beside its form, in the terms of the grammar: the limits and the record checks of the rules over
-- a derivation's records; and what it is for the reader's records to be these.
use Rattle.std.specs.Prelude.{ℕ, ◌+◌, ◌≤◌, ◌≡◌, ◌≢◌, List, [], ◌∷◌, ◌++◌, length}
use Rattle.grammar.specs.rfc.Types.{Text, Dialect}
use Rattle.model.specs.rules.Base.{Bytes}
use Rattle.model.specs.rules.Text.{Value}
use Rattle.model.specs.rules.Report.{MAXFILE, MAXRECORD, MAXCOLUMNS}
use Rattle.model.specs.rules.Records.{Rec, name_key}
use Rattle.grammar.specs.rfc.Derived.{Derived, raw_of, kind_in, content_in, Line, line, text_in, cells_in, Every, Each}
use Rattle.grammar.specs.dialects.Derives.{Derives}

-- the limits: of the file's bytes, of each record's counted bytes, which are its text, and of its columns (§7.1 §7.2 §7.3 §7.4)
pub record WithinLimits (xs : Bytes) (ls : List (Line Derived)) : Type 0 where
  pub file : length xs ≤ MAXFILE
  pub records : Every (λ l. length (text_in l) ≤ MAXRECORD) ls
  pub columns : Every (λ l. length (cells_in l) ≤ MAXCOLUMNS) ls

-- no two names are the same, by the dialect's rule (§3.11 §4.10 §5.10)
pub data Distinct (d : Dialect) : List Derived → Type 0 where
  no_names : Distinct d []
  a_name :
      {c : Derived} {cs : List Derived} → Every (λ x. name_key d (content_in x) ≢ name_key d (content_in c)) cs → Distinct d cs →
      Distinct d (c ∷ cs)

-- header cells are text, distinct; every data record has as many cells as the header (§2.2 §3.10 §4.9)
pub data ChecksHold (d : Dialect) : List (Line Derived) → Type 0 where
  checks_hold :
      {text : Bytes} {cells : List Derived} {ls : List (Line Derived)} → Every (λ c. kind_in c ≡ Text) cells → Distinct d cells →
      Every (λ l. length (cells_in l) ≡ length cells) ls → ChecksHold d (line text cells ∷ ls)

-- derived with these records, within the limits, and each record passes the checks: what the rules accept (§2.1 §19.2)
pub record Acceptable (d : Dialect) (xs : Bytes) (ls : List (Line Derived)) : Type 0 where
  pub derived : Derives d xs ls
  pub limits : WithinLimits xs ls
  pub checks : ChecksHold d ls

-- the cells of all records
abbrev pub cell_count : List (Line Derived) → ℕ
cell_count [] = 0
cell_count (l ∷ ls) = length (cells_in l) + cell_count ls

-- ---- the reader's records are these

-- a cell's kind and content, and its span in the file is its raw bytes
pub record ShowsCell (file : Bytes) (v : Value) (c : Derived) : Type 0 where
  pub kind : v.kind ≡ kind_in c
  pub content : v.content ≡ content_in c
  pub before : Bytes
  pub after : Bytes
  pub place : file ≡ before ++ (raw_of c ++ after)
  pub from : v.from ≡ length before
  pub upto : v.upto ≡ length before + length (raw_of c)

pub record ShowsRecord (file : Bytes) (r : Rec) (l : Line Derived) : Type 0 where
  pub size : r.size ≡ length (text_in l)
  pub cells : Each (ShowsCell file) r.cells (cells_in l)
