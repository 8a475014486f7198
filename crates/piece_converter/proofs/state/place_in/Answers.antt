-- `piece_converter::state::place_in` meets its contract: each number is read, and the lexer state is decoded from its own.
use mathlib.Core.Path.{ap}
use lib.ListN.{get_or}
use Rattle.model.specs.declared.FileState.{FileState}
use Rattle.piece_converter.proofs.state.place_in.Goals as goal

pub returns : goal.returns
returns c =
    let n = c.args.n in
    ap
    (λ (f : FileState). record {
      state = f;
      offset = get_or n 1 0;
      start = get_or n 2 0;
      size = get_or n 3 0;
      fill = get_or n 4 0;
      cells = get_or n 5 0;
      columns = get_or n 6 0;
      records = get_or n 7 0;
      written = get_or n 8 0;
    })
    c.state_of.ensures
