-- None of the mistakes is made: at the productions by the laws of their files, in where cells lie by computation, and beside them by
-- case analysis of what is required. No automaton takes part. It is checked before the theorems of this crate, so that a wider
-- requirement is refused here, at the law of that name.
use Prim.Native.Nat.{ℕ, ◌+◌, ◌≤◌}
use native.Mathlib.Omega.{arith}
use mathlib.Core.Path.{◌≡◌, refl, ap}
use mathlib.Core.Logic.{◌≢◌}
use mathlib.Core.List.{List, [], ◌∷◌}
use lib.ListN.{length, length-replicate}
use Rattle.grammar.specs.rfc.Types.{Csvj}
use Rattle.grammar.specs.rfc.Derived.{Derived, Line, line, text_in, Every, every_cons}
use Rattle.grammar.specs.rfc.Rfc8259 as json
use Rattle.grammar.specs.dialects.Csvj as csvj
use Rattle.grammar.proofs.AbsentInRfcs as rfcs
use Rattle.grammar.proofs.Terminators.{last_of}
use Rattle.grammar.proofs.AbsentInFiles as files
use Rattle.grammar.specs.Accepted.{a_name, WithinLimits, ChecksHold, checks_hold}
use Rattle.grammar.specs.NextByte.{ProceedsOn}
use Rattle.grammar.specs.RfcMistakes.{RfcMistakes}
use Rattle.grammar.specs.FileMistakes.{FileMistakes, Misplacements}
use Rattle.grammar.specs.Mistakes.{Mistakes, name_a, two_names, too_long}

-- ---- record checks and limits

repeated_name : ChecksHold Csvj (line two_names (name_a ∷ name_a ∷ []) ∷ []) → ⊥
repeated_name (checks_hold t (a_name (every_cons n m) d) k) = n refl

first_of : {A : Type 0} {P : A → Type 0} {x : A} {xs : List A} → Every P (x ∷ xs) → P x
first_of (every_cons p k) = p

long_record : {c : Derived} → WithinLimits too_long (line too_long (c ∷ []) ∷ []) → ⊥
long_record w =
    let e : length too_long ≡ 4097 = length-replicate {A = ℕ} 4097 0x61 in
    let h = first_of w.records in
    omega arith

-- ---- a CSVJ file may begin with a quote: two of them and LF

begun : ¬ ¬ ProceedsOn Csvj [] 0x22
begun n =
    n (
      0x22 ∷ 0x0A ∷ [],
      _,
      csvj.unmarked
          (csvj.csvj_file_lem
          (csvj.header_line
          (csvj.ended
          (csvj.filled csvj.no_ws
          (csvj.value (csvj.a_string (json.string json.a_quotation_mark json.no_char json.a_quotation_mark json.nothing))) csvj.no_ws)
          csvj.lf))
          csvj.no_line),
    )

-- ---- none of the mistakes

absent_in_rfcs : RfcMistakes
absent_in_rfcs =
    record {
      leading_zero = rfcs.leading_zero;
      control_byte = rfcs.control_byte;
      raw_surrogate = rfcs.raw_surrogate;
      halves_apart = λ ts k. rfcs.halves_apart k;
    }

blank_text : (l : Line Derived) → 3 ≤ length (text_in l) + 2 → text_in l ≢ []
blank_text l h e = let k : length (text_in l) ≡ 0 = ap length e in omega arith

absent_in_files : FileMistakes
unfolding last_of
absent_in_files =
    record {
      empty_line = λ ls k. files.no_empty_line (files.empty_line k);
      space_before = λ kind content f. files.space_before f;
      space_after = λ kind content f. files.space_after f;
      missing_ending = λ ls k. let h : ◌≡◌ {A = ℕ} 0x22 0x0A = files.missing_ending k in omega arith;
      mark_first = λ ls k. files.mark_first (0x61 ∷ []) ls k;
      two_quotes = λ ts k. files.two_quotes k refl;
      blanks_uncounted = λ l k. blank_text l (files.blanks_uncounted k);
    }

pub absent_places : Misplacements
absent_places = record { equal_cells = λ n x a. refl }

pub absent : Mistakes
absent =
    record {
      of_rfcs = absent_in_rfcs;
      of_files = absent_in_files;
      repeated_name = repeated_name;
      long_record = long_record;
      begun = begun;
    }
