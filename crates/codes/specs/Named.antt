-- What a `TextAnswer` says.
use Rattle.std.specs.Prelude.{length}
use Rattle.model.specs.rules.Api.{Written}
use Rattle.codes.specs.declared.TextAnswer.{TextAnswer}

-- the report, and the length in place of the text (§12.1 §13.1)
abbrev pub text_answer : Written → TextAnswer
text_answer w = record { report = w.report; length = length w.text }
