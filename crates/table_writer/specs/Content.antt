-- The states of the automaton for content, as model's states, and a step from each.
use Rattle.std.specs.Prelude.{ℕ, ◌≤◌, ◌≡◌, Bool, false, length, drop}
use Rattle.std.specs.Prelude.{Option, None, Some}
use Rattle.model.specs.rules.Base.{Bytes}
use Rattle.model.specs.rules.Utf8.{Wide, gap, ed, lone, inner, wide_step, wide_from}
use Rattle.table_writer.specs.declared.content.ContentState.{ContentState}
use Rattle.table_writer.specs.declared.content.ContentState.TheVariants.{Gap, AfterEd, InLone, InCharacter}

-- the state after what was read
abbrev pub wide_in : ContentState → Wide
wide_in (Gap high) = gap high
wide_in (AfterEd high) = ed high
wide_in (InLone high) = lone high
wide_in (InCharacter i) = inner i

-- the same, or none where what was read is not content
abbrev pub wide_of : Option ContentState → Option Wide
wide_of None = None
wide_of (Some p) = Some (wide_in p)

-- the next byte
abbrev pub step_in : Option Wide → ℕ → Option Wide
step_in None b = None
step_in (Some w) b = wide_step w b

-- what was read, followed by these bytes, is content
abbrev pub content_from : Option Wide → Bytes → Bool
content_from None bs = false
content_from (Some w) bs = wide_from w bs

-- the bytes from place i up to j leave the state unchanged
pub record SameContentState (o : Option Wide) (s : Bytes) (i j : ℕ) : Type 0 where
  pub on : i ≤ j
  pub inside : j ≤ length s
  pub same : content_from o (drop i s) ≡ content_from o (drop j s)
