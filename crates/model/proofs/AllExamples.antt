-- The examples hold, by computation.
use mathlib.Core.Path.{refl}
use Rattle.model.specs.laws.Computes.{computes}
use Rattle.model.specs.laws.Examples.{Sixteen}

pub sixteen : Sixteen
unfolding computes
sixteen =
    record {
      e1 = refl;
      e2 = (refl, refl);
      e3 = refl;
      e4 = refl;
      e5 = refl;
      e6 = refl;
      e7 = refl;
      e8 = refl;
      e9 = refl;
      e10 = refl;
      e11 = (refl, refl);
      e12 = refl;
      e13 = refl;
      e14 = (refl, refl);
      e15 = refl;
      e16 = refl;
    }
