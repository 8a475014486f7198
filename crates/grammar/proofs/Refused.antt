-- The theorems exclude the mistakes: from their statement alone (`Exact`), whatever the productions are. What a mistake allows would
-- make a file that is derived; the statement has it read; and the automaton, the decoder or the reader computes that it is not. No
-- production is analysed here, so a wider one leaves this file as it is.
use Prim.Native.Nat.{ℕ, zero, suc, ◌-◌, ◌≤◌}
use native.Mathlib.Omega.{arith}
use mathlib.Core.Path.{◌≡◌, refl, sym, ap, ◌∙◌}
use mathlib.Core.Logic.{◌≢◌}
use mathlib.Core.Bool.{Bool, true, false}
use Rattle.std.specs.Prelude.{None}
use mathlib.Core.List.{List, [], ◌∷◌, ◌++◌, map}
use lib.ListN.{length, replicate}
use Rattle.grammar.specs.rfc.Types.{Kind, Text, Dialect, Csvj, Tdif, CsvPlus, FileState, Top, Step, Ok, Err, Ending, Clean, Final, Cut}
use Rattle.grammar.specs.rfc.Types as types
use Rattle.model.specs.rules.Base.{Bytes}
use Rattle.model.specs.rules.Dialect.{standard}
use Rattle.model.specs.rules.File.{file_step, file_end}
use Rattle.model.specs.rules.Report.{accepted}
use Rattle.model.specs.rules.Records.{nothing_read, read_file, report_of}
use Rattle.model.specs.laws.Computes.{computes}
use Rattle.model.proofs.Tests.{impossible}
use Rattle.grammar.specs.rfc.Rfc5234.{HEXDIG, decimal, lower}
use Rattle.grammar.specs.rfc.Rfc3629.{UTF8-3, of_three}
use Rattle.grammar.specs.rfc.Derived.{Derived, cell, content_in, Line, line, text_in, every_none, every_cons}
use Rattle.grammar.specs.dialects.Derives.{Derives}
use Rattle.grammar.specs.dialects.FormReads.{Reads, between, ends, ends_clean, decoded, decoded_line, ReadByForm, read_by_form}
use Rattle.grammar.specs.rfc.Rfc8259 as json
use Rattle.grammar.specs.dialects.Csvj as csvj
use Rattle.grammar.specs.dialects.Tdif as tdif
use Rattle.grammar.specs.dialects.CsvPlus as plus
use Rattle.grammar.specs.Accepted.{no_names, a_name, WithinLimits, ChecksHold, checks_hold}
use Rattle.grammar.specs.Exact.{Exact, ExactPlaces}
use Rattle.grammar.specs.RfcMistakes.{RfcMistakes}
use Rattle.grammar.specs.FileMistakes.{FileMistakes, Misplacements, three_lines, three_records, three_derived}
use Rattle.grammar.specs.Mistakes.{Mistakes, name_a, two_names, too_long}
use Rattle.grammar.specs.NextByte.{ProceedsOn}
use Rattle.grammar.specs.dialects.Spans.{span, stretches}
use Rattle.grammar.proofs.rfc.Ranges.{range}
use Rattle.grammar.proofs.dialects.FormSteps.{Finishes, clean, final, Takes, by_bytes, reads_once}
use Rattle.grammar.proofs.dialects.FormSteps as steps
use Rattle.grammar.proofs.AcceptedOnly.{stopped_going}

-- ---- a file that is read by form takes the automaton to its end

ended : Ending → Bool
ended Clean = true
ended Final = true
ended Cut = false

taken : (FileState → Bool) → Step → Bool
taken k (Ok (f, p)) = k f
taken k (Err e) = false

passes : Dialect → Bytes → FileState → Bool
passes d [] f = ended (file_end d f)
passes d (b ∷ bs) f = taken (passes d bs) (file_step d f b)

finish_passes : {x : Ending} {ls : List (Line Bytes)} → Finishes x ls → ended x ≡ true
unfolding ended
finish_passes clean = refl
finish_passes final = refl

take_passes : {k : FileState → Bool} {b : ℕ} {s : Step} {ls : List (Line Bytes)} → Takes (λ f ls. k f ≡ true) b s ls → taken k s ≡ true
unfolding taken
take_passes (steps.outside m) = m
take_passes (steps.passed m) = m
take_passes (steps.of_cell m) = m
take_passes (steps.between m) = m
take_passes (steps.between_closing m) = m
take_passes (steps.tail m) = m
take_passes (steps.tail_closing m) = m
take_passes (steps.ends m) = m
take_passes (steps.ends_closing m) = m

reads_pass : (d : Dialect) (xs : Bytes) (f : FileState) (ls : List (Line Bytes)) → Reads d f xs ls → passes d xs f ≡ true
unfolding passes
reads_pass d = by_bytes d (λ f xs ls. passes d xs f ≡ true) (λ f ls m. finish_passes m) (λ bs f b ls t. take_passes t)

form_passes : {d : Dialect} {xs : Bytes} {ls : List (Line Derived)} → ReadByForm d xs ls → passes d xs Top ≡ true
form_passes {d} {xs} (read_by_form l ls r) = reads_pass d xs Top (l ∷ ls) r

-- ---- the files that contain the mistakes

-- a CSVJ file of one value
one_value :
    {raw content : Bytes} {kind : Kind} → csvj.Value (cell raw kind content) →
    csvj.File (((raw ++ []) ++ (0x0A ∷ [])) ++ []) (line (raw ++ []) (cell raw kind content ∷ []) ∷ [])
one_value v = csvj.unmarked (csvj.csvj_file_lem (csvj.header_line (csvj.ended (csvj.filled csvj.no_ws (csvj.value v) csvj.no_ws) csvj.lf)) csvj.no_line)

-- a CSVJ string of one char
one_char : {cs : Bytes} → json.Unescaped cs → csvj.Value (cell (0x22 ∷ ((cs ++ []) ++ (0x22 ∷ []))) Text (cs ++ []))
one_char u = csvj.a_string (json.string json.a_quotation_mark (json.char (json.unescaped u) json.no_char) json.a_quotation_mark (json.as_they_lie json.nothing))

-- \ud83d and \ude00
small : (b : ℕ) → 0x61 ≤ b → b ≤ 0x66 → HEXDIG b (b - 0x57)
small b h k = lower (range h k)

numeric : (b : ℕ) → 0x30 ≤ b → b ≤ 0x39 → HEXDIG b (b - 0x30)
numeric b h k = decimal (range h k)

high : json.Char (0x5C ∷ 0x75 ∷ 0x64 ∷ 0x38 ∷ 0x33 ∷ 0x64 ∷ []) (json.unit 0xD83D)
high =
    json.uXXXX json.escape (small 0x64 (omega arith) (omega arith)) (numeric 0x38 (omega arith) (omega arith))
    (numeric 0x33 (omega arith) (omega arith)) (small 0x64 (omega arith) (omega arith))

low : json.Char (0x5C ∷ 0x75 ∷ 0x64 ∷ 0x65 ∷ 0x30 ∷ 0x30 ∷ []) (json.unit 0xDE00)
low =
    json.uXXXX json.escape (small 0x64 (omega arith) (omega arith)) (small 0x65 (omega arith) (omega arith))
    (numeric 0x30 (omega arith) (omega arith)) (numeric 0x30 (omega arith) (omega arith))

-- `"a","a"` and LF
value_a : csvj.Value name_a
value_a = one_char (json.above_backslash (range (omega arith) (omega arith)))

two_names_lem : csvj.File (two_names ++ (0x0A ∷ [])) (line two_names (name_a ∷ name_a ∷ []) ∷ [])
two_names_lem =
    csvj.unmarked
    (csvj.csvj_file_lem
    (csvj.header_line
    (csvj.ended (csvj.filled csvj.no_ws (csvj.values value_a (csvj.comma csvj.no_ws csvj.no_ws) (csvj.value value_a)) csvj.no_ws)
    csvj.lf)) csvj.no_line)

names_fit : WithinLimits (two_names ++ (0x0A ∷ [])) (line two_names (name_a ∷ name_a ∷ []) ∷ [])
names_fit =
    let l : Line Derived = line two_names (name_a ∷ name_a ∷ []) in
    record { file = omega arith; records = every_cons {x = l} (omega arith) every_none; columns = every_cons {x = l} (omega arith) every_none }

-- an unquoted field of n times a
plain : (n : ℕ) → plus.Non-escaped standard (replicate n 0x61)
plain zero = plus.no_textdata
plain (suc n) =
    plus.textdata
    (plus.ascii {b = 0x61} (range (omega arith) (omega arith)) (λ e. omega arith) (λ e. omega arith) (λ e. omega arith) (λ e. omega arith))
    (plain n)

long_file : plus.File standard too_long (line too_long (cell too_long Text too_long ∷ []) ∷ [])
long_file = plus.file unmarked (plus.header_unended (plus.a_name (plus.name (plus.a_non_escaped (plain 4097)))))
  where
    unmarked : ¬ plus.BeginsWithBom too_long
    unmarked m = elim m [ ]

-- two spaces and LF are read as a record whose text is the spaces
first_text : List (Line Derived) → Bytes
first_text [] = []
first_text (l ∷ ls) = text_in l

blanks_read : {ls : List (Line Derived)} → ReadByForm Csvj (0x20 ∷ 0x20 ∷ 0x0A ∷ []) ls → first_text ls ≡ 0x20 ∷ 0x20 ∷ []
unfolding computes decoded_line first_text
blanks_read (read_by_form l ls r) =
    let e : l ∷ ls ≡ line (0x20 ∷ 0x20 ∷ []) [] ∷ []
    = reads_once (0x20 ∷ 0x20 ∷ 0x0A ∷ []) Top (l ∷ ls) (line (0x20 ∷ 0x20 ∷ []) [] ∷ []) r
    (between refl (between refl (ends refl (ends_clean refl)))) in
    ap (λ ls. first_text (map (decoded_line Csvj) ls)) e

module _ (exact : Exact) where
  refuse : (d : Dialect) (xs : Bytes) (ls : List (Line Derived)) → passes d xs Top ≡ false → ¬ Derives d xs ls
  refuse d xs ls e k = impossible (sym e ∙ form_passes ((exact.files d xs ls).0 k))

  -- ---- by form

  empty_line : (ls : List (Line Derived)) → ¬ tdif.Lines (0x0A ∷ []) ls
  unfolding computes passes taken ended
  empty_line ls k =
      refuse Tdif (0x22 ∷ 0x61 ∷ 0x22 ∷ 0x0A ∷ 0x0A ∷ []) (line (0x22 ∷ 0x61 ∷ 0x22 ∷ []) (name_a ∷ []) ∷ ls) refl
      (tdif.header_first
      (tdif.header
      (tdif.ended
      (tdif.field (tdif.a_value (tdif.value (tdif.textdata (tdif.above_quote (range (omega arith) (omega arith))) tdif.nothing))))
      tdif.lf)) k)

  -- a CSV+ file of one field and no ending
  one_field :
      (b : ℕ) (bs : Bytes) (kind : Kind) (content : Bytes) → passes (CsvPlus standard) (b ∷ bs) Top ≡ false → ¬ plus.BeginsWithBom (b ∷ bs) →
      ¬ plus.Field standard (cell (b ∷ bs) kind content)
  one_field b bs kind content e n f =
      refuse (CsvPlus standard) (b ∷ bs) (line (b ∷ bs) (cell (b ∷ bs) kind content ∷ []) ∷ []) e
      (plus.file n (plus.header_unended (plus.a_name (plus.name f))))

  space_before : (kind : Kind) (content : Bytes) → ¬ plus.Field standard (cell (0x20 ∷ 0x22 ∷ 0x61 ∷ 0x22 ∷ []) kind content)
  unfolding computes passes taken ended
  space_before kind content = one_field 0x20 (0x22 ∷ 0x61 ∷ 0x22 ∷ []) kind content refl (λ m. elim m [ ])

  space_after : (kind : Kind) (content : Bytes) → ¬ plus.Field standard (cell (0x22 ∷ 0x61 ∷ 0x22 ∷ 0x20 ∷ []) kind content)
  unfolding computes passes taken ended
  space_after kind content = one_field 0x22 (0x61 ∷ 0x22 ∷ 0x20 ∷ []) kind content refl (λ m. elim m [ ])

  mark_first : (ls : List (Line Derived)) → ¬ plus.File standard (0xEF ∷ 0xBB ∷ 0xBF ∷ 0x61 ∷ []) ls
  unfolding computes passes taken ended
  mark_first ls k = refuse (CsvPlus standard) (0xEF ∷ 0xBB ∷ 0xBF ∷ 0x61 ∷ []) ls refl k

  leading_zero : ¬ json.Int (0x30 ∷ 0x31 ∷ [])
  unfolding computes passes taken ended
  leading_zero i =
      let bs : Bytes = 0x30 ∷ 0x31 ∷ [] in
      refuse Csvj (0x30 ∷ 0x31 ∷ 0x0A ∷ []) (line bs (cell bs types.Number bs ∷ []) ∷ []) refl
      (one_value (csvj.a_number (json.number json.no_minus i json.no_frac json.no_exp)))

  control_byte : ¬ json.Unescaped (0x01 ∷ [])
  unfolding computes passes taken ended
  control_byte u =
      let bs : Bytes = 0x22 ∷ 0x01 ∷ 0x22 ∷ [] in
      refuse Csvj (0x22 ∷ 0x01 ∷ 0x22 ∷ 0x0A ∷ []) (line bs (cell bs Text (0x01 ∷ []) ∷ []) ∷ []) refl (one_value (one_char u))

  raw_surrogate : ¬ UTF8-3 (0xED ∷ 0xA0 ∷ 0x80 ∷ [])
  unfolding computes passes taken ended
  raw_surrogate u =
      let bs : Bytes = 0x22 ∷ 0xED ∷ 0xA0 ∷ 0x80 ∷ 0x22 ∷ [] in
      refuse Csvj (0x22 ∷ 0xED ∷ 0xA0 ∷ 0x80 ∷ 0x22 ∷ 0x0A ∷ []) (line bs (cell bs Text (0xED ∷ 0xA0 ∷ 0x80 ∷ []) ∷ []) ∷ []) refl
      (one_value (one_char (json.above_ascii (of_three u))))

  missing_ending : (ls : List (Line Derived)) → ¬ csvj.Data-lines (0x22 ∷ 0x61 ∷ 0x22 ∷ []) ls
  unfolding computes passes taken ended
  missing_ending ls k =
      refuse Csvj (0x0A ∷ 0x22 ∷ 0x61 ∷ 0x22 ∷ []) (line [] [] ∷ ls) refl
      (csvj.unmarked (csvj.csvj_file_lem (csvj.header_line (csvj.ended (csvj.empty csvj.no_ws csvj.no_ws) csvj.lf)) k))

  blanks_uncounted : (l : Line Derived) → csvj.Line (0x20 ∷ 0x20 ∷ 0x0A ∷ []) l → text_in l ≢ []
  unfolding first_text
  blanks_uncounted l k e =
      let t : text_in l ≡ 0x20 ∷ 0x20 ∷ []
      = blanks_read
      ((exact.files Csvj (0x20 ∷ 0x20 ∷ 0x0A ∷ []) (l ∷ [])).0 (csvj.unmarked (csvj.csvj_file_lem (csvj.header_line k) csvj.no_line))) in
      let z : ◌≡◌ {A = ℕ} 0 1 = cc in omega arith

  -- ---- by content

  halves_apart : (ts : Bytes) → json.Content (json.unit 0xD83D ∷ json.unit 0xDE00 ∷ []) ts → length ts ≡ 4
  unfolding computes
  halves_apart ts k =
      let raw : Bytes = 0x22 ∷ 0x5C ∷ 0x75 ∷ 0x64 ∷ 0x38 ∷ 0x33 ∷ 0x64 ∷ 0x5C ∷ 0x75 ∷ 0x64 ∷ 0x65 ∷ 0x30 ∷ 0x30 ∷ 0x22 ∷ [] in
      let e : cell raw Text ts ≡ decoded Csvj raw
      = exact.contents Csvj (cell raw Text ts)
      (csvj.a_string (json.string json.a_quotation_mark (json.char high (json.char low json.no_char)) json.a_quotation_mark k)) in
      ap (λ c. length (content_in c)) e

  two_quotes : (ts : Bytes) → tdif.Inner (0x22 ∷ 0x22 ∷ []) ts → ts ≡ 0x22 ∷ []
  unfolding computes
  two_quotes ts k =
      let raw : Bytes = 0x22 ∷ 0x22 ∷ 0x22 ∷ 0x22 ∷ [] in
      let e : cell raw Text ts ≡ decoded Tdif raw = exact.contents Tdif (cell raw Text ts) (tdif.a_value (tdif.value k)) in
      ap content_in e

  -- ---- by acceptance

  repeated_name : ¬ ChecksHold Csvj (line two_names (name_a ∷ name_a ∷ []) ∷ [])
  unfolding computes
  repeated_name k =
      let e : report_of (read_file Csvj None (two_names ++ (0x0A ∷ []))) ≡ accepted
      = (exact.acceptance Csvj (two_names ++ (0x0A ∷ []))).1 (_, record { derived = two_names_lem; limits = names_fit; checks = k }) in
      let z : ◌≡◌ {A = ℕ} 6 0 = ap (λ r. r.number) e in omega arith

  long_record : ¬ WithinLimits too_long (line too_long (cell too_long Text too_long ∷ []) ∷ [])
  unfolding computes
  long_record w =
      let e : report_of (read_file (CsvPlus standard) None too_long) ≡ accepted
      = (exact.acceptance (CsvPlus standard) too_long).1 (
        _,
        record {
          derived = long_file;
          limits = w;
          checks = checks_hold (every_cons refl every_none) (a_name every_none no_names) every_none;
        },
      ) in
      let z : ◌≡◌ {A = ℕ} 8 0 = ap (λ r. r.number) e in omega arith

  -- ---- by the next byte

  begun : ¬ ¬ ProceedsOn Csvj [] 0x22
  unfolding computes
  begun n = stopped_going (sym ((exact.next_byte Csvj None [] nothing_read 0x22 refl refl refl).refused.1 n).1)

  of_rfcs : RfcMistakes
  of_rfcs =
      record { leading_zero = leading_zero; control_byte = control_byte; raw_surrogate = raw_surrogate; halves_apart = halves_apart }

  of_files : FileMistakes
  of_files =
      record {
        empty_line = empty_line;
        space_before = space_before;
        space_after = space_after;
        missing_ending = missing_ending;
        mark_first = mark_first;
        two_quotes = two_quotes;
        blanks_uncounted = blanks_uncounted;
      }

  pub refused : Mistakes
  refused =
      record { of_rfcs = of_rfcs; of_files = of_files; repeated_name = repeated_name; long_record = long_record; begun = begun }

-- ---- by spans

module _ (exact : ExactPlaces) where
  equal_cells :
      (n : ¬ plus.BeginsWithBom three_lines) (x : plus.Non-escaped standard (0x78 ∷ [])) (a : plus.Non-escaped standard (0x61 ∷ [])) →
      stretches (CsvPlus standard) three_lines three_records (three_derived n x a) ≡ (span 0 1 ∷ []) ∷ (span 2 3 ∷ []) ∷ (span 4 5 ∷ []) ∷ []
  unfolding computes
  equal_cells n x a = sym (exact.stretches (CsvPlus standard) three_lines three_records (three_derived n x a) _ refl)

  pub refused_places : Misplacements
  refused_places = record { equal_cells = equal_cells }
