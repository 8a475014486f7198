-- The three demands hold: each theorem is taken from the file that proves it.
use mathlib.Core.Path.{◌≡◌}
use Rattle.model.proofs.round_trip.AllTrips.{trips}
use Rattle.model.proofs.Laws.{laws}
use Rattle.grammar.proofs.Theorems.{reader_places, next_byte}
use Rattle.piece_converter.proofs.Representation.{new_carries}
use Rattle.theorems.specs.Demands.{Demand1, Demand2, Demand3, Demands}
use Rattle.theorems.proofs.BuffersAfter.{reader_leaves, decoder_leaves_lem, converter_leaves_lem, writer_leaves_lem}
use Rattle.theorems.proofs.Reports.{reader_unknown, decoder_unknown, converter_unknown, writer_unknown, reader_tells, decoder_tells}
use Rattle.theorems.proofs.Reports.{converter_tells, writer_tells}
use Rattle.theorems.proofs.ConverterAcceptance.{converted_exactly, converted_text}
use Rattle.theorems.proofs.CarriedTables.{written_exactly, carried_comes_back}
use Rattle.theorems.proofs.Layouts.{every_table, rows_come_back}
use Rattle.theorems.proofs.ReaderDerivation.{as_derived}
use Rattle.theorems.proofs.ReaderLists.{accepted_exactly, too_few_places, filled_as_derived, decoded_as_derived}
use Rattle.theorems.proofs.Limits.{converted_limit, written_limit, converted_room}
use Rattle.theorems.proofs.Calls.{every_list, refused, joined, whole_text, end_call, fault_is_whole, fault_of_every_file, room, ten, shown, counted}

pub demand_1 : Demand1
demand_1 =
    record {
      reader_leaves = reader_leaves;
      decoder_leaves_lem = decoder_leaves_lem;
      converter_leaves_lem = converter_leaves_lem;
      writer_leaves_lem = writer_leaves_lem;
      unknown = λ n e. (reader_unknown n e, decoder_unknown n e, converter_unknown n e, writer_unknown n e);
      reader_tells = reader_tells;
      decoder_tells = decoder_tells;
      converter_tells = converter_tells;
      writer_tells = writer_tells;
    }

pub demand_2 : Demand2
demand_2 =
    record {
      accepted_exactly = accepted_exactly;
      too_few_places = too_few_places;
      filled_as_derived = filled_as_derived;
      decoded_as_derived = decoded_as_derived;
      as_derived = as_derived;
      places = reader_places;
      decodes = trips.reader_decodes;
      converted_exactly = converted_exactly;
      converted_text = converted_text;
      first_fault = λ d target e r xs ys h. ((laws.reading d target).fault_stays e r xs ys h).1;
      next_byte = next_byte;
      written_exactly = written_exactly;
      carried_comes_back = carried_comes_back;
      every_table = every_table;
      rows_come_back = rows_come_back;
      round_trip = trips.round_trip;
      same_text = trips.same_text;
      converted_once = trips.converted_once;
      converted_back = trips.converted_back;
      converted_limit = converted_limit;
      written_limit = written_limit;
      converted_room = converted_room;
    }

pub demand_3 : Demand3
demand_3 =
    record {
      every_list = every_list new_carries;
      refused = refused new_carries;
      joined = joined new_carries;
      whole_text = whole_text new_carries;
      end_is_whole = end_call new_carries;
      fault_is_whole = fault_is_whole new_carries;
      fault_of_every_file = fault_of_every_file new_carries;
      room = room new_carries;
      ten = ten new_carries;
      shown = shown new_carries;
      counted = counted new_carries;
      any_state = λ s next c out out' told x. (x.within, x.as_long);
    }

pub demands : Demands
demands = record { one = demand_1; two = demand_2; three = demand_3 }
