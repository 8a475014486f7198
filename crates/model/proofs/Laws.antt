-- The laws of the definitions, each from the file that proves it.
use Rattle.std.specs.Prelude.{Option}
use Rattle.model.specs.rules.Types.{Dialect, Target}
use Rattle.model.specs.rules.Records.{going, nothing_read, read_bytes}
use Rattle.model.specs.laws.Laws.{ReadingLaws, Laws}
use Rattle.model.proofs.file_laws.ReadAppend.{read_append, fault_stays, fault_stays_file, records_stay}
use Rattle.model.proofs.Spans.{cells_sound, cells_sound_file}
use Rattle.model.proofs.file_laws.Viable.{completion, completes}
use Rattle.model.proofs.file_laws.ViableFile.{refused_file, encoding_file, syntax_file}
use Rattle.model.proofs.cell_laws.ContentForm.{content_form}
use Rattle.model.proofs.file_laws.Lengths.{content_length}
use Rattle.model.proofs.file_laws.Bound.{records_bounded, records_bounded_file}

pub reading_laws : (d : Dialect) (target : Option Target) → ReadingLaws d target
unfolding read_bytes
reading_laws d target =
    record {
      append = λ xs ys. read_append d target (going nothing_read) xs ys;
      fault_stays = λ e r xs ys h. (fault_stays d target e r xs ys h, fault_stays_file d target e r xs ys h);
      records_stay = λ xs ys. records_stay d target xs ys;
      cells_sound = λ xs. (cells_sound d target xs, cells_sound_file d target xs);
      records_bounded = λ xs. (records_bounded d target xs, records_bounded_file d target xs);
    }

pub laws : Laws
laws =
    record {
      reading = reading_laws;
      completion = λ d f. (completion d f, completes d f);
      next_byte = λ d target xs r b read file size.
          record {
            refused = refused_file d target xs r b read file size;
            encoding = encoding_file d target xs r b read file size;
            syntax_fault = syntax_file d target xs r b read file size;
          };
      content_form = content_form;
      content_length = content_length;
    }
