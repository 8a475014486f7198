-- A target's check of the length of a record's text.
use Rattle.std.specs.Prelude.{ℕ, ◌+◌, ◌++◌, length, ltb}
use Rattle.model.specs.declared.Dialect.{Dialect}
use Rattle.model.specs.declared.Fault.TheVariants.{TextTooLong, OutputTooLong}
use Rattle.model.specs.rules.Types.{CheckResult}
use Rattle.model.specs.rules.Base.{Bytes}
use Rattle.model.specs.rules.Text.{ending}
use Rattle.model.specs.rules.Records.{◌or_else◌, when}
use Rattle.model.specs.rules.Report.{MAXFILE, MAXRECORD}

-- the last two reasons of fault 9, after `written` bytes of output (§8.5 §8.6)
abbrev pub length_fault : Dialect → (written : ℕ) → (text : Bytes) → CheckResult
length_fault t written text =
    when (ltb MAXRECORD (length text)) TextTooLong
    or_else when (ltb MAXFILE (written + length (text ++ ending t))) OutputTooLong
