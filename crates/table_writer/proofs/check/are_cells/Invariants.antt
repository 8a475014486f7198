-- The invariant: all cells are valid exactly when those from n on are.
use mathlib.Core.Path.{◌≡◌}
use Rattle.model.specs.rules.Api.{table_cells}
use Rattle.table_writer.specs.TableParts.{is_there}
use Rattle.table_writer.proofs.Tables.{cells_from}
use Rattle.table_writer.proofs.check.are_cells.Given as goal

abbrev pub invariant-loop-n : goal.invariant-loop-n
invariant-loop-n l = is_there (table_cells l.content l.starts l.ends l.kinds) ≡ is_there (cells_from l.content l.starts l.ends l.kinds l.n)
