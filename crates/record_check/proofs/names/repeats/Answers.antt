-- `record_check::names::repeats` meets its contract, by what the bytes of a cell are.
use mathlib.Core.Path.{sym, ap, ◌∙◌}
use native.Mathlib.Omega.{arith}
use lib.ListN.{get_or}
use Rattle.model.specs.rules.Records.{among}
use Rattle.cell_decoder.specs.declared.source.Source.{Source}
use Rattle.record_check.specs.Keys.{NameIn, key_at, keys_before}
use Rattle.record_check.proofs.Keys.{short_in_file, names_as}
use Rattle.record_check.proofs.names.repeats.Goals as goal

pub repeats_in_file-requires : goal.repeats_in_file-requires
repeats_in_file-requires c =
    let at_n : NameIn c.args.src c.args.s.now (get_or c.args.starts.now c.args.n 0) (get_or c.args.ends.now c.args.n 0) =
    c.requires.names_in.each c.args.n c.requires.n_in_bounds in
    let e = c.in-File.is in
    record {
      raw_len_bound = short_in_file _ e at_n.short;
      names_in = names_as e c.requires.names_in;
      n_in_bounds = omega (arith, c.requires.n_in_bounds);
    }

pub returns-in-File : goal.returns-in-File
returns-in-File c =
    let a = c.args in
    c.repeats_in_file.ensures
    ∙ ap
    (λ (src : Source).
    among (key_at src a.rule a.s.now (get_or a.starts.now a.n 0) (get_or a.ends.now a.n 0))
    (keys_before src a.rule a.s.now a.starts.now a.ends.now a.n))
    (sym c.in-File.is)

pub returns-in-Contents : goal.returns-in-Contents
returns-in-Contents c =
    let a = c.args in
    c.is_among.ensures
    ∙ ap
    (λ (src : Source).
    among (key_at src a.rule a.s.now (get_or a.starts.now a.n 0) (get_or a.ends.now a.n 0))
    (keys_before a.src a.rule a.s.now a.starts.now a.ends.now a.n))
    (sym c.in-Contents.is)
