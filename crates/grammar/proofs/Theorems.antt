-- The theorems of this crate, each by its type; the proofs are in the files that they are taken from.
use Prim.Native.Nat.{ℕ, ◌+◌, ◌≤◌}
use mathlib.Core.Path.{◌≡◌}
use mathlib.Core.Logic.{◌↔◌}
use mathlib.Core.Bool.{true, false}
use Rattle.std.specs.Prelude.{Option, None, Some, Ok}
use mathlib.Core.List.{List, [], ◌∷◌, map}
use lib.ListN.{length}
use Rattle.grammar.specs.rfc.Types.{Dialect, Target, Whole}
use Rattle.model.specs.rules.Base.{Bytes, concat}
use Rattle.model.specs.rules.Dialect.{dialect_of, standard}
use Rattle.model.specs.rules.Utf8.{text_from}
use Rattle.model.specs.rules.Decode.{validate_cell}
use Rattle.model.specs.rules.Report.{accepted}
use Rattle.model.specs.rules.Records.{Read, going, file_full, record_full, read_bytes, read_file, report_of}
use Rattle.model.specs.laws.Viable.{CanGoOn}
use Rattle.model.specs.rules.Api.{reader}
use Rattle.grammar.specs.rfc.Rfc5234.{◌from◌to◌}
use Rattle.grammar.specs.rfc.Rfc3629.{UTF8-octets}
use Rattle.grammar.specs.dialects.CsvPlus.{TEXTDATA, NarrowTEXTDATA}
use Rattle.grammar.specs.rfc.Derived.{Derived, raw_of, Line, Each}
use Rattle.grammar.specs.dialects.Derives.{DerivesCell, Derives}
use Rattle.grammar.specs.dialects.FormReads.{decoded, ReadByForm}
use Rattle.grammar.specs.NextByte.{ProceedsOn, NextByte}
use Rattle.grammar.specs.dialects.Spans.{past, stretches, span_of, shown}
use Rattle.grammar.specs.Accepted.{Acceptable, cell_count, ShowsRecord}
use Rattle.grammar.proofs.rfc.Texts.{text_exact}
use Rattle.grammar.proofs.dialects.PlusCells.{textdata_exact}
use Rattle.grammar.proofs.dialects.CellGrammar.{cell_exact, derived_content}
use Rattle.grammar.proofs.dialects.FileGrammar.{grammar_exact, unambiguous}
use Rattle.grammar.specs.Exact.{Exact, ExactPlaces}
use Rattle.grammar.specs.FileMistakes.{Misplacements}
use Rattle.grammar.specs.Mistakes.{Mistakes}
use Rattle.grammar.proofs.Acceptance.{acceptance, accepted_records, reader_acceptance}
use Rattle.grammar.proofs.dialects.ReadsWithSpans.{past_length}
use Rattle.grammar.proofs.SameSpans.{same_spans, reader_spans}
use Rattle.grammar.proofs.ViablePrefixes.{can_go_on, next_byte_exact}
use Rattle.grammar.proofs.Refused.{refused, refused_places}

-- a text by the rules' table is UTF8-octets of RFC 3629
pub texts : (bs : Bytes) → UTF8-octets bs ↔ (text_from Whole bs ≡ true)
texts = text_exact

-- RFC 4180's own TEXTDATA is that of dialect 3 among the bytes 20 to 7E: all others are the departure that CsvPlus names
pub textdata : (b : ℕ) → NarrowTEXTDATA (b ∷ []) ↔ (TEXTDATA standard (b ∷ []) × (b from 0x20 to 0x7E))
textdata = textdata_exact

-- the decoder accepts a raw cell exactly when the grammar derives it
pub cells : (d : Dialect) (raw : Bytes) → DerivesCell d (decoded d raw) ↔ (validate_cell d raw ≡ Ok tt)
cells = cell_exact

-- a derivation's kind and content, by its own rules, are the decoder's
pub contents : (d : Dialect) (c : Derived) → DerivesCell d c → c ≡ decoded d (raw_of c)
contents = derived_content

-- the automaton reads a file by form with these records exactly when the grammar derives it with them
pub files : (d : Dialect) (xs : Bytes) (ls : List (Line Derived)) → Derives d xs ls ↔ ReadByForm d xs ls
files = grammar_exact

-- a file has at most one list of records
pub one_meaning : (d : Dialect) (xs : Bytes) (ls ms : List (Line Derived)) → Derives d xs ls → Derives d xs ms → ls ≡ ms
one_meaning = unambiguous

-- a file is accepted exactly when it is derived and the limits and the record checks hold
pub accepted_exactly : (d : Dialect) (xs : Bytes) → (report_of (read_file d None xs) ≡ accepted) ↔ ((ls : List (Line Derived)) × Acceptable d xs ls)
accepted_exactly = acceptance

-- the records that were read are then those of the derivation: kinds, contents, and spans that are the raw cells
pub same_records :
    (d : Dialect) (xs : Bytes) (ls : List (Line Derived)) → Derives d xs ls → (r : Read) → read_file d None xs ≡ going r →
    Each (ShowsRecord xs) r.done ls
same_records = accepted_records

-- and each cell lies where the derivation's texts place it: one position runs through all of them
pub spans_exactly :
    (d : Dialect) (xs : Bytes) (ls : List (Line Derived)) (k : Derives d xs ls) (r : Read) → read_file d None xs ≡ going r →
    shown r.done ≡ stretches d xs ls k
spans_exactly = same_spans

-- that position moves by the length of each text
pub positions : (xs : Bytes) (o : ℕ) → past xs o ≡ o + length xs
positions = past_length

-- the reader's call, by a dialect's number and with lists of this length
pub reader_exactly :
    (n : ℕ) (d : Dialect) (xs : Bytes) (room : ℕ) → dialect_of n ≡ Some d →
    ((reader n xs room).report ≡ accepted) ↔ ((ls : List (Line Derived)) × Acceptable d xs ls × (cell_count ls ≤ room))
reader_exactly = reader_acceptance

-- and the cells that it returns lie, in file order, where the derivation's texts place them
pub reader_places :
    (n : ℕ) (d : Dialect) (xs : Bytes) (room : ℕ) (ls : List (Line Derived)) (k : Derives d xs ls) → dialect_of n ≡ Some d →
    (reader n xs room).report ≡ accepted → map span_of (reader n xs room).cells ≡ concat (stretches d xs ls k)
reader_places = reader_spans

-- a byte can continue a file, by form alone, exactly when some derivation's text begins so
pub proceeds_on : (d : Dialect) (xs : Bytes) (b : ℕ) → CanGoOn d xs b ↔ ProceedsOn d xs b
proceeds_on = can_go_on

-- so faults 2 and 3 are for the byte with which no derivation's text begins
pub next_byte :
    (d : Dialect) (target : Option Target) (xs : Bytes) (r : Read) (b : ℕ) → read_bytes d target xs ≡ going r → file_full r ≡ false →
    record_full r b ≡ false → NextByte d target xs r b
next_byte = next_byte_exact

-- so the grammars are exact, and make none of the mistakes
pub exact : Exact
exact = record { files = files; contents = contents; acceptance = accepted_exactly; next_byte = next_byte }

pub mistakes : Mistakes
mistakes = refused exact

pub exact_places : ExactPlaces
exact_places = record { stretches = spans_exactly }

pub misplacements : Misplacements
misplacements = refused_places exact_places
