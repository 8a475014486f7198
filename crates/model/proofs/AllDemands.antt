-- The demands that the definitions satisfy, each from the file that proves it.
use Rattle.model.specs.laws.Demands.{ModelDemands}
use Rattle.model.proofs.round_trip.AllTrips.{trips}
use Rattle.model.proofs.piece_laws.CallsMade.{preserves_ledger}
use Rattle.model.proofs.piece_laws.MachineLaws.{joined_outputs_lem}
use Rattle.model.proofs.piece_laws.Pieces.{fits, whole_and_pieces, end_is_whole, fault_of_every_file}

pub demands : ModelDemands
demands =
    record {
      round_trip = trips.round_trip;
      joined_outputs_lem = joined_outputs_lem;
      fits = fits;
      whole_and_pieces = whole_and_pieces;
      end_is_whole = end_is_whole;
      fault_of_every_file = fault_of_every_file;
      every_list_of_calls = preserves_ledger;
    }
