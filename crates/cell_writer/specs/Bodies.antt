-- The text of a content between the quotes of a target, part by part.
use Rattle.std.specs.Prelude.{ℕ, ◌<◌, ◌≤◌, ◌≡◌, Bool, ◌||◌, ◌++◌, length}
use Rattle.model.specs.declared.Dialect.{Dialect}
use Rattle.model.specs.rules.Base.{Bytes}
use Rattle.model.specs.rules.Utf8.{holds_lone}
use Rattle.cell_decoder.specs.declared.first_byte.Spelling.{Spelling}
use Rattle.cell_writer.specs.Units.{body_text}
use Rattle.cell_writer.specs.Contents.{content_from}

-- the text of the content from i on begins with `text` and continues with that from next on; `lone`: the content there begins with a
-- lone surrogate
pub record Stops (c : Spelling) (t : Dialect) (raw : Bytes) (i : ℕ) (text : Bytes) (next : ℕ) (lone : Bool) : Type 0 where
  pub stands : body_text t (content_from c raw i) ≡ text ++ body_text t (content_from c raw next)
  pub on : i < next
  pub inside : next ≤ length raw
  pub tells : holds_lone (content_from c raw i) ≡ (lone || holds_lone (content_from c raw next))
