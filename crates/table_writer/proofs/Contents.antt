-- Steps of the automaton for content: a byte after ED by its range, any other byte, and a run of ASCII.
use Prim.Native.Nat.{ℕ, ◌+◌, ◌<◌, ◌≤◌}
use native.Mathlib.Omega.{arith}
use mathlib.Core.Path.{◌≡◌, refl, sym, ap, ◌∙◌}
use mathlib.Core.Bool.{Bool, true, false}
use Rattle.std.specs.Prelude.{Option, None, Some}
use mathlib.Core.List.{◌∷◌}
use lib.ListN.{length, drop, get_or}
use borrow.Author.Tests.{le-leb, lt-leb, ne_eqb}
use Rattle.model.specs.declared.Inner.TheVariants.{Last}
use Rattle.model.specs.rules.Base.{Bytes, choose◌then◌else◌}
use Rattle.model.specs.rules.Utf8.{Wide, gap, ed, lone, inner, settle, wide_step, wide_from}
use Rattle.model.proofs.cell_laws.Utf8.{ascii_whole}
use Rattle.buffer.proofs.WriteProgress.{drop_next}
use Rattle.table_writer.specs.Content.{step_in, content_from, SameContentState}

-- ---- after ED

pub ed_below : (h : Bool) (b : ℕ) → b < 0x80 → wide_step (ed h) b ≡ None
unfolding wide_step choose◌then◌else◌
ed_below h b l = rw (lt-leb 0x80 b l, lt-leb 0xA0 b (omega arith), lt-leb 0xB0 b (omega arith))

pub ed_character : (h : Bool) (b : ℕ) → 0x80 ≤ b → b < 0xA0 → wide_step (ed h) b ≡ Some (inner Last)
unfolding wide_step choose◌then◌else◌
ed_character h b l u = rw (le-leb 0x80 b l, le-leb b 0x9F (omega arith))

pub ed_high : (h : Bool) (b : ℕ) → 0xA0 ≤ b → b < 0xB0 → wide_step (ed h) b ≡ Some (lone true)
unfolding wide_step choose◌then◌else◌
ed_high h b l u = rw (le-leb 0x80 b (omega arith), lt-leb b 0x9F (omega arith), le-leb 0xA0 b l, le-leb b 0xAF (omega arith))

pub ed_low : (h : Bool) (b : ℕ) → 0xB0 ≤ b → b ≤ 0xBF → wide_step (ed h) b ≡ (choose h then None else Some (lone false))
unfolding wide_step choose◌then◌else◌
ed_low h b l u =
    rw (le-leb 0x80 b (omega arith), lt-leb b 0x9F (omega arith), le-leb 0xA0 b (omega arith), lt-leb b 0xAF (omega arith), le-leb 0xB0 b l, le-leb b 0xBF u)

pub ed_above : (h : Bool) (b : ℕ) → 0xBF < b → wide_step (ed h) b ≡ None
unfolding wide_step choose◌then◌else◌
ed_above h b l =
    rw (
      le-leb 0x80 b (omega arith),
      lt-leb b 0x9F (omega arith),
      le-leb 0xA0 b (omega arith),
      lt-leb b 0xAF (omega arith),
      le-leb 0xB0 b (omega arith),
      lt-leb b 0xBF l,
    )

-- ---- one byte more

by_step : (o : Option Wide) (bs : Bytes) → (elim o as (λ _. Bool) [ None ↦ false | Some w ↦ wide_from w bs ]) ≡ content_from o bs
by_step None bs = refl
by_step (Some w) bs = refl

wide_next : (w : Wide) (b : ℕ) (bs : Bytes) → wide_from w (b ∷ bs) ≡ content_from (wide_step w b) bs
unfolding wide_from
wide_next (gap h) b bs = by_step (wide_step (gap h) b) bs
wide_next (ed h) b bs = by_step (wide_step (ed h) b) bs
wide_next (lone h) b bs = by_step (wide_step (lone h) b) bs
wide_next (inner i) b bs = by_step (wide_step (inner i) b) bs

pub content_next : (o : Option Wide) (b : ℕ) (bs : Bytes) → content_from o (b ∷ bs) ≡ content_from (step_in o b) bs
content_next None b bs = refl
content_next (Some w) b bs = wide_next w b bs

-- ---- runs of ASCII

ascii_step : (b : ℕ) → b ≤ 0x7F → wide_step (gap false) b ≡ Some (gap false)
unfolding wide_step choose◌then◌else◌
ascii_step b h = rw (ne_eqb b 0xED λ e. omega arith) (ap settle (ascii_whole b h))

pub passes_none : {o : Option Wide} {s : Bytes} {i : ℕ} → i ≤ length s → SameContentState o s i i
passes_none h = record { on = omega arith; inside = h; same = refl }

pub passes_ascii :
    {s : Bytes} {i j : ℕ} → SameContentState (Some (gap false)) s i j → j < length s → get_or s j 0 ≤ 0x7F →
    SameContentState (Some (gap false)) s i (j + 1)
passes_ascii {s} {i} {j} p h b =
    record {
      on = omega (arith, p.on);
      inside = omega arith;
      same =
          p.same
          ∙ ap (content_from (Some (gap false))) (drop_next s j (j + 1) h refl)
          ∙ content_next (Some (gap false)) (get_or s j 0) (drop (j + 1) s)
          ∙ ap (λ (w : Option Wide). content_from w (drop (j + 1) s)) (ascii_step (get_or s j 0) b);
    }

-- a step, and the run after it
pub step_passes :
    (o : Option Wide) {w : Option Wide} {s : Bytes} {i j : ℕ} → i < length s → w ≡ step_in o (get_or s i 0) → SameContentState w s (i + 1) j →
    content_from o (drop i s) ≡ content_from w (drop j s)
step_passes o {w} {s} {i} {j} h e p =
    ap (content_from o) (drop_next s i (i + 1) h refl)
    ∙ content_next o (get_or s i 0) (drop (i + 1) s)
    ∙ ap (λ (x : Option Wide). content_from x (drop (i + 1) s)) (sym e)
    ∙ p.same
