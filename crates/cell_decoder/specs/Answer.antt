-- What the decoder's answer means: a report, the number of the kind and the length of the content.
use Rattle.std.specs.Prelude.{ℕ, length, Result, Ok, Err}
use Rattle.model.specs.declared.Report.{Report}
use Rattle.model.specs.declared.Dialect.{Dialect}
use Rattle.model.specs.rules.Base.{Bytes}
use Rattle.model.specs.rules.Report.{accepted}
use Rattle.model.specs.rules.Decode.{kind_number, validate_cell}
use Rattle.model.specs.rules.Api as api
use Rattle.cell_decoder.specs.declared.Decoded.{Decoded}

pub record CellAnswer : Type 0 where
  pub report : Report
  pub kind : ℕ
  pub size : ℕ

-- what the decoder returns means: the content's length and kind, or a refusal, whose length and kind are 0 (§9.2 §11.1 §19.7)
abbrev pub given_answer : Result Decoded Report → CellAnswer
given_answer (Ok a) = record { report = accepted; kind = kind_number a.kind; size = a.size }
given_answer (Err e) = record { report = e; kind = 0; size = 0 }

-- the definition's answer with the length of its content; the content itself is in the room
abbrev pub decoder_answer : api.Decoded → CellAnswer
decoder_answer a = record { report = a.report; kind = a.kind; size = length a.content }

-- the definition of a call that knows its dialect, for a cell that is known to be sound and for any
abbrev pub sound_cell : Dialect → Bytes → (room : ℕ) → api.Decoded
sound_cell d raw room = api.decoded_as d raw room (Ok tt)

abbrev pub any_cell : Dialect → Bytes → (room : ℕ) → api.Decoded
any_cell d raw room = api.decoded_as d raw room (validate_cell d raw)
