-- Acceptance by the grammar. The reader accepts a file exactly when the grammar derives it and the limits and the record checks hold
-- (`acceptance`), and its records are then those of the derivation (`accepted_records`).
use Prim.Native.Nat.{ℕ, ◌+◌, ◌≤◌}
use native.Mathlib.Omega.{arith}
use mathlib.Core.Path.{◌≡◌, refl, sym, ap, ap₂, ◌∙◌}
use mathlib.Core.Logic.{◌↔◌}
use mathlib.Core.Bool.{Bool, true, false}
use Rattle.std.specs.Prelude.{None}
use Rattle.std.specs.declared.option.Option.TheVariants as option
use mathlib.Core.List.{List, [], ◌∷◌, ◌++◌, map}
use lib.ListN.{length, length-append}
use lib.Dec.{ltb}
use borrow.Author.Tests.{ltb-false, le-ltb}
use Rattle.grammar.specs.rfc.Types.{Dialect, Encoding, Syntax}
use Rattle.grammar.specs.rfc.Types as types
use Rattle.model.specs.declared.Report.{Report}
use Rattle.model.specs.rules.Base.{Bytes, choose◌then◌else◌, concat}
use Rattle.model.specs.rules.Dialect.{dialect_of}
use Rattle.model.specs.rules.Text.{Value}
use Rattle.model.specs.rules.Api.{answered, read_answer, reader}
use Rattle.model.specs.rules.Report.{number_of, accepted, refusal, MAXFILE, MAXRECORD}
use Rattle.model.specs.rules.Records.{Rec, rows, Read, Progress, going, stopped, nothing_read, read_bytes, read_file, report_of}
use Rattle.grammar.specs.rfc.Derived.{Derived, Line, line, text_in, cells_in, spelling, Every, every_none, every_cons, Each, each_none, each_cons}
use Rattle.grammar.specs.dialects.Derives.{Derives}
use Rattle.grammar.specs.dialects.FormReads.{decoded_line}
use Rattle.grammar.specs.Accepted.{Acceptable, cell_count, ShowsRecord}
use Rattle.grammar.proofs.dialects.FileGrammar.{LinesDerived, lines_derived, file_derived, some_decoded, derived_reads, reads_derived, unambiguous}
use Rattle.grammar.proofs.RecordChecks.{each_length, checks_all, all_checks}
use Rattle.grammar.proofs.DerivationState.{joined, joined_rest, fit_rest, rest_fit, Lies, tidy_rest}
use Rattle.grammar.proofs.AcceptedIf.{Some, some, Accepted, accepted as accepted_with, Ready, reads_accepted}
use Rattle.grammar.proofs.AcceptedOnly.{stopped_going, Facts, Outcome, outcome, accepted_comes}

-- ---- the beginning

begins : (d : Dialect) (xs : Bytes) → Lies d xs [] nothing_read [] [] [] []
unfolding nothing_read
begins d xs =
    record {
      done = each_none;
      complete = each_none;
      raw_is = refl;
      size = refl;
      fits = omega arith;
      before = [];
      held = refl;
      opened = refl;
      offset = refl;
      short = omega arith;
      tidy = tidy_rest;
    }

-- ---- the record limit, over raw lines and over derived ones

encoded_fit : {ls : List (Line Derived)} → Every (λ l. length (text_in l) ≤ MAXRECORD) ls → Every (λ l. length (text_in l) ≤ MAXRECORD) (map spelling ls)
unfolding spelling
encoded_fit every_none = every_none
encoded_fit (every_cons {x = line text cells} h k) = every_cons h (encoded_fit k)

decoded_fit :
    (d : Dialect) {ls : List (Line Bytes)} → Every (λ l. length (text_in l) ≤ MAXRECORD) ls →
    Every (λ l. length (text_in l) ≤ MAXRECORD) (map (decoded_line d) ls)
unfolding decoded_line
decoded_fit d every_none = every_none
decoded_fit d (every_cons {x = line text cells} h k) = every_cons h (decoded_fit d k)

some_lines : {d : Dialect} {ls : List (Line Derived)} → LinesDerived d ls → Some ls
some_lines (lines_derived v k) = some

-- ---- an acceptable file is accepted

pub data ReadAs (d : Dialect) (xs : Bytes) (ls : List (Line Derived)) : Type 0 where
  read_as : (end : Read) → read_file d None xs ≡ going end → Each (ShowsRecord xs) end.done ls → ReadAs d xs ls

pub acceptable_read : (d : Dialect) (xs : Bytes) (ls : List (Line Derived)) → Acceptable d xs ls → ReadAs d xs ls
unfolding read_file read_bytes nothing_read
acceptable_read d xs ls a = go (reads_accepted d xs ls limit has_record (derived_reads d xs ls a.derived) nothing_read [] [] [] [] [] refl ready)
  where
    limit : length xs ≤ MAXFILE
    limit = a.limits.file

    has_record : Some ls
    has_record = some_lines (file_derived d xs ls a.derived)

    same : joined d [] [] [] (map spelling ls) ≡ ls
    same = joined_rest d (map spelling ls) ∙ some_decoded d (file_derived d xs ls a.derived)

    ready : Ready d xs ls limit has_record nothing_read xs (map spelling ls) [] [] [] [] []
    ready =
        record {
          stands = begins d xs;
          place = refl;
          fit = fit_rest (map spelling ls) (encoded_fit a.limits.records);
          checks = rw same (all_checks d a.checks a.limits.columns);
          sum = sym same;
        }

    go : Accepted d xs ls limit has_record nothing_read xs → ReadAs d xs ls
    go (accepted_with end e k) = read_as end e k

-- ---- an accepted file is acceptable

pub data AcceptedAs (d : Dialect) (xs : Bytes) (end : Read) : Type 0 where
  accepted_as : (ls : List (Line Derived)) → Acceptable d xs ls → Each (ShowsRecord xs) end.done ls → AcceptedAs d xs end

no_lines : {A : Type 0} → Some [] → A
no_lines = elim [ ]

pub read_acceptable : (d : Dialect) (xs : Bytes) (end : Read) → read_file d None xs ≡ going end → AcceptedAs d xs end
unfolding read_file read_bytes nothing_read
read_acceptable d xs end e = go (accepted_comes d xs end xs nothing_read [] [] [] [] [] (begins d xs) refl e)
  where
    lines : (ls : List (Line Bytes)) → Facts d xs end nothing_read xs [] [] [] [] ls → AcceptedAs d xs end
    lines [] y = no_lines y.has_record
    lines (l ∷ ls) y =
        let same : joined d [] [] [] (l ∷ ls) ≡ map (decoded_line d) (l ∷ ls) = joined_rest d (l ∷ ls) in
        let checks = checks_all d (rw same at y.checks) in
        accepted_as (map (decoded_line d) (l ∷ ls))
        (record {
          derived = reads_derived d y.reads;
          limits = record { file = y.limit; records = decoded_fit d (rest_fit y.fit); columns = checks.1 };
          checks = checks.0;
        })
        (rw same at y.shows)

    go : Outcome d xs end nothing_read xs [] [] [] [] → AcceptedAs d xs end
    go (outcome ls y) = lines ls y

-- ---- the theorems

fault_number : (e : types.Fault) → 1 ≤ number_of e
fault_number types.NoRecord = omega arith
fault_number (types.Byte Encoding) = omega arith
fault_number (types.Byte Syntax) = omega arith
fault_number types.CutShort = omega arith
fault_number types.CellCount = omega arith
fault_number (types.RepeatedName c) = omega arith
fault_number (types.HeaderKind c) = omega arith
fault_number types.FileTooLong = omega arith
fault_number types.RecordTooLong = omega arith
fault_number types.TooManyColumns = omega arith
fault_number types.NoCells = omega arith
fault_number (types.LacksKind c) = omega arith
fault_number (types.LoneSurrogate c) = omega arith
fault_number (types.Clash c) = omega arith
fault_number types.TextTooLong = omega arith
fault_number types.OutputTooLong = omega arith

-- acceptance is four zeros
pub accepted_going : (p : Progress) → report_of p ≡ accepted → (r : Read) × (p ≡ going r)
accepted_going (going r) e = (r, refl)
accepted_going (stopped x r) e =
    let h : 1 ≤ number_of x = fault_number x in
    let k : number_of x ≡ 0 = ap (λ (z : Report). z.number) e in
    absurd (omega arith)

-- demand 2's acceptance by the grammar: a file is accepted exactly when it is derived and the limits and the record checks hold
pub acceptance : (d : Dialect) (xs : Bytes) → (report_of (read_file d None xs) ≡ accepted) ↔ ((ls : List (Line Derived)) × Acceptable d xs ls)
acceptance d xs = (only, suffices)
  where
    only : report_of (read_file d None xs) ≡ accepted → (ls : List (Line Derived)) × Acceptable d xs ls
    only e = let r = accepted_going (read_file d None xs) e in go (read_acceptable d xs r.0 r.1)
      where
        go : {end : Read} → AcceptedAs d xs end → (ls : List (Line Derived)) × Acceptable d xs ls
        go (accepted_as ls a k) = (ls, a)

    suffices : (ls : List (Line Derived)) × Acceptable d xs ls → report_of (read_file d None xs) ≡ accepted
    suffices a = go (acceptable_read d xs a.0 a.1)
      where
        go : {ls : List (Line Derived)} → ReadAs d xs ls → report_of (read_file d None xs) ≡ accepted
        go (read_as end e k) = ap report_of e

-- and the reader's records are those of every derivation: cells in order, with their kinds and contents, and each span is the raw
-- cell
pub accepted_records :
    (d : Dialect) (xs : Bytes) (ls : List (Line Derived)) → Derives d xs ls → (r : Read) → read_file d None xs ≡ going r →
    Each (ShowsRecord xs) r.done ls
accepted_records d xs ls k r e = go (read_acceptable d xs r e)
  where
    go : AcceptedAs d xs r → Each (ShowsRecord xs) r.done ls
    go (accepted_as ms a m) = rw (unambiguous d xs ls ms k a.derived) m

-- ---- the reader's call

count_cells : {file : Bytes} {rs : List Rec} {ls : List (Line Derived)} → Each (ShowsRecord file) rs ls → length (concat (rows rs)) ≡ cell_count ls
unfolding rows concat
count_cells each_none = refl
count_cells (each_cons {x = r} {xs = rs} {y = l} {ys = ls} s k) =
    let e : length r.cells ≡ length (cells_in l) = each_length s.cells in
    let q : length (concat (rows rs)) ≡ cell_count ls = count_cells k in
    let a : length (r.cells ++ concat (rows rs)) ≡ length r.cells + length (concat (rows rs)) = length-append r.cells (concat (rows rs)) in
    a ∙ ap₂ ◌+◌ e q

-- a report of 10
pub ten : {A : Type 0} → refusal 10 ≡ accepted → A
ten e = let k : ◌≡◌ {A = ℕ} 10 0 = ap (λ (z : Report). z.number) e in absurd (omega arith)

-- an accepted file is reported so exactly where its cells have room
roomy :
    {file : Bytes} {rs : List Rec} {ls : List (Line Derived)} (vs : List Value) (room : ℕ) → Each (ShowsRecord file) rs ls → Some ls →
    (answered rs vs room).report ≡ accepted → length vs ≤ room
unfolding choose◌then◌else◌
roomy vs room (each_cons {x = h} {xs = rs} s k) some e = go (ltb room (length vs)) refl
  where
    go : (t : Bool) → ltb room (length vs) ≡ t → length vs ≤ room
    go true p = ten (rw p at e)
    go false p = ltb-false room (length vs) p
roomy vs room each_none x e = elim x [ ]

has_room :
    {file : Bytes} {rs : List Rec} {ls : List (Line Derived)} (vs : List Value) (room : ℕ) → Each (ShowsRecord file) rs ls →
    length vs ≤ room → (answered rs vs room).report ≡ accepted
unfolding choose◌then◌else◌
has_room vs room each_none h = refl
has_room vs room (each_cons s k) h = rw (le-ltb room (length vs) h)

-- the reader reports acceptance of a dialect's file exactly when it is acceptable and its cells have room in the lent lists
pub reader_acceptance :
    (n : ℕ) (d : Dialect) (xs : Bytes) (room : ℕ) → dialect_of n ≡ option.Some d →
    ((reader n xs room).report ≡ accepted) ↔ ((ls : List (Line Derived)) × Acceptable d xs ls × (cell_count ls ≤ room))
unfolding reader
reader_acceptance n d xs room dialect =
    (λ e. only (read_file d None xs) refl (rw (dialect, reader) at e), λ a. suffices a.2 (acceptable_read d xs a.0 a.1))
  where
    fits :
        {end : Read} → AcceptedAs d xs end → (answered end.done (concat (rows end.done)) room).report ≡ accepted →
        (ls : List (Line Derived)) × Acceptable d xs ls × (cell_count ls ≤ room)
    fits {end} (accepted_as ls a k) e =
        (ls, a, rw (count_cells k) at (roomy (concat (rows end.done)) room k (some_lines (file_derived d xs ls a.derived)) e))

    only :
        (p : Progress) → read_file d None xs ≡ p → (read_answer p room).report ≡ accepted →
        (ls : List (Line Derived)) × Acceptable d xs ls × (cell_count ls ≤ room)
    only (going r) q e = fits (read_acceptable d xs r q) e
    only (stopped x r) q e = let z = accepted_going (stopped x r) e in stopped_going z.1

    suffices : {ls : List (Line Derived)} → cell_count ls ≤ room → ReadAs d xs ls → (reader n xs room).report ≡ accepted
    suffices h (read_as end e k) = rw (dialect, reader, e) (has_room (concat (rows end.done)) room k (rw (count_cells k) h))
