-- `cell_writer::cell::write_number` meets its contract: all bytes, or nothing.
use mathlib.Core.Path.{◌≡◌, refl, sym, ap}
use mathlib.Core.List.{[]}
use Rattle.model.specs.rules.Base.{Bytes}
use Rattle.buffer.proofs.WriteProgress.{room_as, emitted_as}
use Rattle.cell_decoder.specs.declared.first_byte.Spelling.{Spelling}
use Rattle.cell_decoder.specs.declared.first_byte.Spelling.TheVariants.{Nothing, AsItStands, Doubled, Escaped}
use Rattle.cell_writer.specs.Cells.{number_in}
use Rattle.cell_writer.proofs.Cells.{written_nothing}
use Rattle.cell_writer.proofs.cell.write_number.Goals as goal

as_it_stands : (c : Spelling) (raw : Bytes) → (c ≡ Nothing → ⊥) → raw ≡ number_in c raw
as_it_stands Nothing raw h = absurd (h refl)
as_it_stands AsItStands raw h = refl
as_it_stands (Doubled q) raw h = refl
as_it_stands Escaped raw h = refl

pub returns-in-Nothing : goal.returns-in-Nothing
returns-in-Nothing c =
    let e : [] ≡ number_in c.args.c c.args.raw.now = sym (ap (λ (s : Spelling). number_in s c.args.raw.now) c.in-Nothing.is) in
    emitted_as (sym e) (written_nothing c.args.write (room_as e c.requires))
