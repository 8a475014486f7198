-- Reading a file by its cursor: the invariant between two records, and how each result preserves it or ends reading.
use Prim.Native.Nat.{ℕ, ◌+◌, ◌-◌, ◌≤◌, ◌<◌}
use native.Mathlib.Omega.{arith}
use mathlib.Core.Path.{◌≡◌, refl, sym, ap, subst, ◌∙◌}
use mathlib.Core.Bool.{true}
use mathlib.Core.List.{List, [], ◌∷◌, ◌++◌}
use lib.ListN.{length, drop, length-append}
use Rattle.model.specs.declared.Dialect.{Dialect}
use Rattle.model.specs.declared.FileState.{FileState}
use Rattle.model.specs.declared.FileState.TheVariants.{Top}
use Rattle.model.specs.declared.Fault.{Fault}
use Rattle.model.specs.declared.Report.{Report}
use Rattle.model.specs.rules.Base.{Bytes}
use Rattle.model.specs.laws.Laws.{Grows}
use Rattle.model.specs.rules.Text.{table_text}
use Rattle.model.specs.rules.Report.{MAXFILE, MAXCOLUMNS}
use Rattle.model.specs.rules.Records.{Rec, rows, Read, between_records, nothing_read, Progress, going, stopped, fault_report, read_from, read_bytes}
use Rattle.model.specs.rules.Records.{read_file, records_of}
use Rattle.model.proofs.file_laws.ReadAppend.{read_grows, end_grows, grows_trans}
use Rattle.record_scanner.specs.Tokens.{outer}
use Rattle.std.specs.Prelude.{Option, None, Some, Result, Ok, Err}
use Rattle.file_cursor.specs.declared.Cursor.{Cursor}
use Rattle.file_cursor.specs.NextRecord as visits
use Rattle.file_cursor.specs.FileOutcome.{rest_of}
use Rattle.file_cursor.specs.NextRecord.{target_of, cursor_of, at_start, After, NextRecordSound}
use Rattle.record_fast.specs.CellLists.{SameLengths}

-- the whole file is what is left from the cursor on, after the records rs
pub record Walking (d : Dialect) (target : Option Dialect) (file : Bytes) (c : Cursor) : Type 0 where
  pub rs : List Rec
  pub rest : read_file d (target_of target) file ≡ rest_of d (target_of target) file rs c.state c.offset
  pub after : After target c rs
  pub inside : c.offset ≤ length file
  pub under : c.offset ≤ MAXFILE
  pub between : outer c.state ≡ true
  pub many : c.done ≤ c.offset
  pub short : c.written ≤ MAXFILE

-- the same of the cursor's fields
pub by_fields : {target : Option Dialect} {c : Cursor} {rs : List Rec} → After target c rs → After target (cursor_of c.done c.columns c.written c.offset c.state) rs
by_fields a = record { count = a.count; headed = a.headed; text = a.text }

-- before the first record
pub nothing_yet : (target : Option Dialect) → After target at_start []
unfolding rows table_text
nothing_yet None = record { count = refl; headed = tt; text = refl }
nothing_yet (Some t) = record { count = refl; headed = tt; text = refl }

pub whole_rest : (d : Dialect) (target : Option Dialect) (file : Bytes) → read_file d (target_of target) file ≡ rest_of d (target_of target) file [] Top 0
unfolding read_file read_bytes nothing_read
whole_rest d target file = refl

module _ (d : Dialect) (target : Option Dialect) (file : Bytes) (c : Cursor) (q : c ≡ at_start) where
  pub sets_out : Walking d target file c
  sets_out =
      rw q
      (record {
        rs = [];
        rest = whole_rest d target file;
        after = nothing_yet target;
        inside = omega arith;
        under = omega arith;
        between = refl;
        many = omega arith;
        short = omega arith;
      })

  pub sets_rs : sets_out.rs ≡ []
  unfolding sets_out
  sets_rs = refl

module _ {d : Dialect} {target : Option Dialect} {file : Bytes} {c : Cursor} (y : Walking d target file c) where
  -- one record more
  module _ {starts ends kinds : List ℕ} {v : Cursor} (n : visits.Next d target file y.rs c.state c.offset starts ends kinds v) where
    pub walks_on : Walking d target file v
    walks_on =
        let l : length (y.rs ++ (n.rec ∷ [])) ≡ length y.rs + 1 = length-append y.rs (n.rec ∷ []) in
        record {
          rs = y.rs ++ (n.rec ∷ []);
          rest = y.rest ∙ n.rest;
          after = n.after;
          inside = n.inside;
          under = n.under;
          between = n.between;
          many = omega (arith, l, y.after.count, n.after.count, y.many, n.onward);
          short = n.short;
        }

    pub walks_rs : walks_on.rs ≡ y.rs ++ (n.rec ∷ [])
    unfolding walks_on
    walks_rs = refl

  -- the records so far are the first of the file
  pub grows : Grows y.rs (records_of (read_file d (target_of target) file))
  grows =
      rw y.rest
      (grows_trans (read_grows d (target_of target) (going (between_records y.rs c.state c.offset)) (drop c.offset file))
      (end_grows d (target_of target) (read_from d (target_of target) (going (between_records y.rs c.state c.offset)) (drop c.offset file))))

  -- less is left after one record more
  pub walk_less :
      {starts ends kinds : List ℕ} {v : Cursor} → visits.Next d target file y.rs c.state c.offset starts ends kinds v →
      length file - v.offset < length file - c.offset
  walk_less n = omega (arith, n.onward, n.inside)

-- ---- the cursor by its result

other : {A : Type 0} → ◌≡◌ {A = ℕ} 0 1 → A
other z = absurd (omega arith)

-- a result by its value
pub at_value : {o : Result (Option Cursor) Report} {w x : Option Cursor} → o ≡ Ok w → w ≡ x → o ≡ Ok x
at_value q e = q ∙ ap (λ (y : Option Cursor). Ok y) e

-- reading ends after these records
pub record AtEnd (p : Progress) (rs : List Rec) : Type 0 where
  pub r : Read
  pub rest : p ≡ going r
  pub done : r.done ≡ rs

-- reading ends with a fault, whose report this is
pub record AtFault (p : Progress) (t : Report) : Type 0 where
  pub fault : Fault
  pub r : Read
  pub rest : p ≡ stopped fault r
  pub report : t ≡ fault_report fault r

module _ {d : Dialect} {target : Option Dialect} {file : Bytes} {rs : List Rec} {f : FileState} {i : ℕ} {starts ends kinds : List ℕ} where
  pub came :
      {o : Result (Option Cursor) Report} {v : Cursor} → NextRecordSound d target file rs f i starts ends kinds o → o ≡ Ok (Some v) →
      visits.Next d target file rs f i starts ends kinds v
  came {v = v} (visits.read {v = w} n) q = let z : w ≡ v = cc in subst (visits.Next d target file rs f i starts ends kinds) z n
  came (visits.finished r p h) q = other cc
  came (visits.refused x r p) q = other cc

  pub at_end : {o : Result (Option Cursor) Report} → NextRecordSound d target file rs f i starts ends kinds o → o ≡ Ok None → AtEnd (rest_of d (target_of target) file rs f i) rs
  at_end (visits.read n) q = other cc
  at_end (visits.finished r p h) q = record { r = r; rest = p; done = h }
  at_end (visits.refused x r p) q = other cc

  pub at_fault :
      {o : Result (Option Cursor) Report} {t : Report} → NextRecordSound d target file rs f i starts ends kinds o → o ≡ Err t →
      AtFault (rest_of d (target_of target) file rs f i) t
  at_fault (visits.read n) q = other cc
  at_fault (visits.finished r p h) q = other cc
  at_fault {t = t} (visits.refused x r p) q = let z : fault_report x r ≡ t = cc in record { fault = x; r = r; rest = p; report = sym z }

-- ---- local lists

-- lists with exactly as many places as a record may have cells
pub record Full (starts ends kinds : List ℕ) : Type 0 where
  pub at_starts : MAXCOLUMNS ≡ length starts
  pub at_ends : MAXCOLUMNS ≡ length ends
  pub at_kinds : MAXCOLUMNS ≡ length kinds

pub full_kept : {s₀ e₀ k₀ s e k : List ℕ} → Full s₀ e₀ k₀ → SameLengths s₀ e₀ k₀ s e k → Full s e k
full_kept y z = record { at_starts = y.at_starts ∙ sym z.at_starts; at_ends = y.at_ends ∙ sym z.at_ends; at_kinds = y.at_kinds ∙ sym z.at_kinds }
