-- `unfolding computes` opens every definition, so that a closed call computes.
use Rattle.model.specs.rules.Base.{base_computes}
use Rattle.model.specs.rules.Dialect.{dialect_computes}
use Rattle.model.specs.rules.Utf8.{utf8_computes}
use Rattle.model.specs.rules.Cell.{cell_computes}
use Rattle.model.specs.rules.File.{file_computes}
use Rattle.model.specs.rules.Decode.{decode_computes}
use Rattle.model.specs.rules.Text.{text_computes}
use Rattle.model.specs.rules.Names.{names_compute}
use Rattle.model.specs.rules.Records.{records_computes}
use Rattle.model.specs.rules.Api.{api_computes}
use Rattle.model.specs.rules.Ledger.{ledger_computes}
use Rattle.model.specs.laws.Ascii.{ascii}

-- helper: the openers of all modules, with which the examples are proved by computing
unfoldable pub computes : Type 0
unfolding base_computes dialect_computes utf8_computes cell_computes file_computes decode_computes text_computes names_compute
    records_computes api_computes ledger_computes ascii
computes = Unit {0}
