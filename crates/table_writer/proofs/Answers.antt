-- Answers with a text: a refusal leaves the room as it is, and an answer of a callee is that of its caller where the definitions agree.
use Prim.Native.Nat.{ℕ, ◌<◌, ◌≤◌}
use mathlib.Core.Path.{◌≡◌, refl, sym, ap, ◌∙◌}
use mathlib.Core.Bool.{false}
use Rattle.std.specs.Prelude.{Option, None, Some}
use mathlib.Core.List.{List}
use lib.ListN.{length}
use borrow.Author.Tests.{lt-ltb, le-ltb}
use Rattle.model.specs.declared.Dialect.{Dialect}
use Rattle.model.specs.declared.Report.{Report}
use Rattle.model.specs.rules.Base.{Bytes, choose◌then◌else◌, over}
use Rattle.model.specs.rules.Dialect.{dialect_of, into}
use Rattle.model.specs.rules.Text.{Value}
use Rattle.model.specs.rules.Report.{accepted, refusal}
use Rattle.model.specs.rules.Api.{Table, Written, unwritten, fitted, rows_in, rows_fault, written_rows, writer}
use Rattle.model.proofs.Tests.{impossible}
use Rattle.codes.specs.declared.TextAnswer.{TextAnswer}
use Rattle.codes.specs.Named.{text_answer}
use Rattle.table_writer.specs.TableParts.{is_there}
use Rattle.table_writer.specs.Answered.{written_in, writer_in}

-- ---- answers

-- an answer and a room are those of w
abbrev pub Answers : (w : Written) (r : TextAnswer) (old new : Bytes) → Type 0
Answers w r old new = (r ≡ text_answer w) × (new ≡ over w.text old)

pub refuses : {w : Written} {e f : Report} {r : TextAnswer} {room : Bytes} → r ≡ text_answer (unwritten e) → e ≡ f → w ≡ unwritten f → Answers w r room room
refuses p q e = (p ∙ ap (λ (x : Report). text_answer (unwritten x)) q ∙ ap text_answer (sym e), rw e refl)

pub answers_as :
    {w v : Written} {r : TextAnswer} (old : Bytes) {new : Bytes} → w ≡ v → r ≡ text_answer v → new ≡ over v.text old
    → Answers w r old new
answers_as old e p q = rw e (p, q)

pub writes :
    {w : Written} {e : Report} {n : ℕ} {text : Bytes} (old : Bytes) {new : Bytes} → w ≡ record { report = accepted; text = text } →
    e ≡ accepted → n ≡ length text → new ≡ over text old
    → Answers w (record { report = e; length = n }) old new
writes old p q l t = rw (p, q, l) (refl, t)

-- ---- a room

pub too_short : (room : ℕ) (text : Bytes) → room < length text → fitted room text ≡ unwritten (refusal 10)
unfolding choose◌then◌else◌
too_short room text h = rw (lt-ltb room (length text) h)

pub long_enough : (room : ℕ) (text : Bytes) → length text ≤ room → fitted room text ≡ record { report = accepted; text = text }
unfolding choose◌then◌else◌
long_enough room text h = rw (le-ltb room (length text) h)

-- ---- the writer

none_there : {A : Type 0} (o : Option A) → is_there o ≡ false → o ≡ None
none_there None e = refl
none_there (Some x) e = impossible (sym e)

pub no_table : (t : Dialect) (table : Table) (room : ℕ) → is_there (rows_in table) ≡ false → writer_in t table room ≡ unwritten (refusal 12)
no_table t table room e = ap (written_in t room) (none_there (rows_in table) e)

pub in_dialect : (n : ℕ) (t : Dialect) (table : Table) (room : ℕ) → dialect_of n ≡ Some t → writer n table room ≡ writer_in t table room
unfolding writer
in_dialect n t table room e = rw (writer, e) (go (rows_in table))
  where
    go :
        (o : Option (List (List Value))) →
        (elim o as (λ _. Written) [ None ↦ unwritten (refusal 12) | Some rs ↦ written_rows (into t) room rs (rows_fault (into t) rs) ])
        ≡ written_in t room o
    go None = refl
    go (Some rs) = refl

pub no_dialect : (n : ℕ) (table : Table) (room : ℕ) → dialect_of n ≡ None → writer n table room ≡ unwritten (refusal 11)
unfolding writer
no_dialect n table room e = rw (writer, e)
