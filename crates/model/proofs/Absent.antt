-- The definitions make none of the mistakes, by computation. This file uses no other proof and is checked first, so that a definition
-- changed to make one is refused here, at the answer that the mistake would change.
use mathlib.Core.Path.{refl}
use Rattle.model.specs.laws.Computes.{computes}
use Rattle.model.specs.laws.Examples.{Mistakes}

pub mistakes : Mistakes
unfolding computes
mistakes =
    record {
      lone_cr = (refl, refl);
      raw_names = refl;
      fold_borders = refl;
      empty_record = refl;
      halves_joined = refl;
      comment_uncounted = (refl, refl);
      limit_first = (refl, refl);
      mark_in_quotes = refl;
      crlf_ends_once = refl;
      cr_before_cut = (refl, refl);
      lf_after_cut = refl;
      halves_cut = refl;
    }
