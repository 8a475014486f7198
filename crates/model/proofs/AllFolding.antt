-- The laws of folding, each from the file that proves it.
use Rattle.model.specs.laws.Folding.{FoldLaws}
use Rattle.model.proofs.name_laws.Folding.{each_point, point_twice, twice, fold_length, fold_at_lem, stays_above, table_follows}
use Rattle.model.proofs.name_laws.Points.{content_points, packed_apart, same_name}

pub fold_laws : FoldLaws
fold_laws =
    record {
      content_points = content_points;
      each_point = each_point;
      packed_apart = packed_apart;
      same_name = same_name;
      point_twice = point_twice;
      twice = twice;
      fold_length = fold_length;
      fold_at_lem = fold_at_lem;
      stays_above = stays_above;
      table = table_follows;
    }
