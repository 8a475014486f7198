-- The contract of the piece and end calls, after any calls that a converter has answered.
use Rattle.std.specs.Prelude.{ℕ, ◌≤◌, ◌≡◌, true, List, [], ◌∷◌, ◌++◌, length, replicate, get_or}
use Rattle.model.specs.declared.Report.{Report}
use Rattle.model.specs.rules.Report.{MAXRECORD, MAXCOLUMNS}
use Rattle.model.specs.rules.Api.{unwritten}
use Rattle.model.specs.rules.Ledger.{Call, bytes_of, room_of, Entry, consumed_in, answer_now, checked, call_leaves}
use Rattle.model.specs.laws.Machine as machine
use Rattle.codes.specs.Named.{text_answer}
use Rattle.codes.specs.declared.TextAnswer.{TextAnswer}
use Rattle.piece_state.specs.Checks.{check_now}
use Rattle.std.specs.Prelude.{Err}
use Rattle.piece_converter.specs.States.{stored_end, stored_fault}
use Rattle.piece_converter.specs.Representation.{Models}
use Rattle.piece_converter.specs.declared.Converter.{Converter}

-- the state that is lent as these arrays: its numbers are in the order of the fields (§15.2)
abbrev pub converter_of : (source target : ℕ) → (numbers ends name_ends bytes names : List ℕ) → Converter
converter_of m n numbers ends name_ends bytes names =
    record {
      source = m;
      target = n;
      state = get_or numbers 0 0;
      offset = get_or numbers 1 0;
      start = get_or numbers 2 0;
      size = get_or numbers 3 0;
      fill = get_or numbers 4 0;
      cells = get_or numbers 5 0;
      columns = get_or numbers 6 0;
      records = get_or numbers 7 0;
      written = get_or numbers 8 0;
      ended = stored_end numbers;
      fault = stored_fault numbers;
      ends = ends;
      name_ends = name_ends;
      bytes = bytes;
      names = names;
    }

-- before the first call (§15.1)
abbrev pub new_converter : (source target : ℕ) → Converter
new_converter m n =
    converter_of m n (replicate 14 0) (replicate MAXCOLUMNS 0) (replicate MAXCOLUMNS 0) (replicate MAXRECORD 0) (replicate MAXRECORD 0)

-- a converter made with these two numbers has answered these calls, and shows what the bytes that they consumed complete. After a fault
-- or an accepted end nothing more is required of it: its other bytes are not determined (§15.2 §15.3)
abbrev pub Represents : (source target : ℕ) → (past : List Entry) → Converter → Type 0
Represents m n past = machine.Carries (Models (consumed_in past)) m n past

-- the contract of a call, with this output before it and that after it (§15.3 §15.8 §16.3)
pub record CallContract (s : Converter) (c : Call) (out : List ℕ) (told : TextAnswer) (next : Converter) (out' : List ℕ) : Type 0 where
  -- report and length are the ledger's
  pub answer : (m n : ℕ) (past : List Entry) → Represents m n past s → told ≡ text_answer (answer_now m n past c)
  -- each byte of the output is of the ledger's text or unchanged
  pub leaves : (m n : ℕ) (past : List Entry) → Represents m n past s → out' ≡ call_leaves (answer_now m n past c) out
  -- the next state has answered this call too
  pub carries :
      (m n : ℕ) (past : List Entry) → Represents m n past s → Represents m n (past ++ (record { call = c; answer = answer_now m n past c } ∷ [])) next
  -- a call that one of the four checks refuses leaves the state as it was
  pub unchanged : (m n : ℕ) (past : List Entry) → Represents m n past s → checked m n past c ≡ true → next ≡ s
  -- for any state, made by calls or not: the length is within the output, whose own length does not change; the dialects of the state do
  -- not change, and the four checks use its numbers (§15.9)
  pub within : told.length ≤ length out
  pub as_long : length out' ≡ length out
  pub dialects : (next.source ≡ s.source) × (next.target ≡ s.target)
  pub checks :
      (e : Report) → check_now s.source s.target s.fault s.ended (length (bytes_of c)) (room_of c) ≡ Err e →
      (told ≡ text_answer (unwritten e)) × (next ≡ s) × (out' ≡ out)
