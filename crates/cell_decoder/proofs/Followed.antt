-- In a sound cell no byte ED begins a lone surrogate: a byte from 80 to 9F follows it in the cell. The same holds of sound cells one
-- after another.
use mathlib.Core.Path.{◌≡◌, refl, sym, ◌∙◌}
use mathlib.Core.Bool.{true, false}
use mathlib.Core.List.{[], ◌∷◌, ◌++◌}
use Prim.Native.Nat.{ℕ, zero, suc, ◌+◌, ◌≤◌, ◌<◌}
use native.Mathlib.Omega.{arith}
use borrow.Author.Tests.{ne_eqb, eq-eqb}
use Rattle.model.specs.declared.Dialect.{Dialect}
use Rattle.model.specs.declared.Dialect.TheVariants.{Csvj, Tdif, CsvPlus}
use Rattle.model.specs.declared.Lead.TheVariants.{C2ToDf, E0, E1ToEc, Ed, EeToEf, F0, F1ToF3, F4}
use Rattle.model.specs.declared.Inner.{Inner}
use Rattle.model.specs.declared.Inner.TheVariants.{Second, LastTwo, Last}
use Rattle.model.specs.declared.Char.{Char}
use Rattle.model.specs.declared.Char.TheVariants.{Whole, Within}
use Rattle.std.specs.Prelude.{Some, None, Ok}
use Rattle.model.specs.declared.Numeral.TheVariants.{Minus, Zero, Integer, Point, Fraction, E, ESign, Exponent}
use Rattle.model.specs.declared.Word.TheVariants.{T, Tr, Tru, F, Fa, Fal, Fals, N, Nu, Nul, Backslash}
use Rattle.model.specs.declared.Cell.{Cell}
use Rattle.model.specs.declared.Cell.TheVariants.{Fresh, Quoted, Closed, Escape, Hex, InNumber, InWord, Plain, Complete}
use Rattle.model.specs.declared.CellStep.{CellStep}
use Rattle.model.specs.declared.CellStep.TheVariants.{More, Stop, Refuse}
use Rattle.model.specs.declared.ByteFault.{ByteFault}
use Rattle.model.specs.rules.Base.{Bytes, choose◌then◌else◌, ◌is◌, within}
use Rattle.model.specs.rules.Dialect.{quote_of, delimiter_of}
use Rattle.model.specs.rules.Utf8.{row_of, leads, lead_byte, inner_step, char_step}
use Rattle.model.specs.rules.Cell.{numeral_step, first_byte, quoted_byte, plain_byte, cell_step, is_whole}
use Rattle.model.specs.rules.Decode.{validate_cell}
use Rattle.model.proofs.Tests.{split_on, impossible, is→eq, within_true}
use Rattle.model.proofs.cell_laws.Utf8.{quote_ascii, delimiter_ascii, broken_on}
use Rattle.model.proofs.cell_laws.CellRuns.{Runs, here, there, sound_runs}
use Rattle.model.proofs.cell_laws.CellContent.{char_on, no_more, no_stop, same_more}
use Rattle.cell_decoder.specs.Followed.{EdFollows, EdFollowed}

-- a state in which the byte after ED comes next
data AfterEd : Cell → Type 0 where
  in_quotes : AfterEd (Quoted (Within (Second Ed)))
  in_plain : AfterEd (Plain (Within (Second Ed)))

-- the step of ED
data EdStep : CellStep → Type 0 where
  ed_more : {c : Cell} → AfterEd c → EdStep (More c)
  ed_stop : EdStep Stop
  ed_refuse : {e : ByteFault} → EdStep (Refuse e)

ed_char : char_step Whole 0xED ≡ Some (Within (Second Ed))
unfolding char_step lead_byte leads row_of choose◌then◌else◌
ed_char = refl

ed_inner : (i : Inner) → char_step (Within i) 0xED ≡ None
unfolding char_step inner_step row_of choose◌then◌else◌
ed_inner (Second C2ToDf) = refl
ed_inner (Second E0) = refl
ed_inner (Second E1ToEc) = refl
ed_inner (Second Ed) = refl
ed_inner (Second EeToEf) = refl
ed_inner (Second F0) = refl
ed_inner (Second F1ToF3) = refl
ed_inner (Second F4) = refl
ed_inner LastTwo = refl
ed_inner Last = refl

ed_quote : (d : Dialect) → (0xED is quote_of d) ≡ false
ed_quote d = let h : quote_of d ≤ 0x7F = quote_ascii d in ne_eqb 0xED (quote_of d) λ e. omega arith

ed_delimiter : (d : Dialect) → (0xED is delimiter_of d) ≡ false
ed_delimiter d = let h : delimiter_of d ≤ 0x7F = delimiter_ascii d in ne_eqb 0xED (delimiter_of d) λ e. omega arith

ed_step : (d : Dialect) (c : Cell) → EdStep (cell_step d c 0xED)
unfolding cell_step first_byte quoted_byte plain_byte numeral_step choose◌then◌else◌
ed_step Csvj Fresh = ed_refuse
ed_step Tdif Fresh = ed_refuse
ed_step (CsvPlus s) Fresh = rw (ed_quote (CsvPlus s), ed_delimiter (CsvPlus s), ed_char) (ed_more in_plain)
ed_step Csvj (Quoted Whole) = rw ed_char (ed_more in_quotes)
ed_step Tdif (Quoted Whole) = rw ed_char (ed_more in_quotes)
ed_step (CsvPlus s) (Quoted Whole) = rw (ed_quote (CsvPlus s), ed_char) (ed_more in_quotes)
ed_step d (Quoted (Within i)) = rw (ed_inner i) ed_refuse
ed_step d Closed = rw (ed_quote d) ed_stop
ed_step d Escape = ed_refuse
ed_step d (Hex n) = ed_refuse
ed_step d (InNumber Minus) = ed_refuse
ed_step d (InNumber Zero) = ed_stop
ed_step d (InNumber Integer) = ed_stop
ed_step d (InNumber Point) = ed_refuse
ed_step d (InNumber Fraction) = ed_stop
ed_step d (InNumber E) = ed_refuse
ed_step d (InNumber ESign) = ed_refuse
ed_step d (InNumber Exponent) = ed_stop
ed_step d (InWord T) = ed_refuse
ed_step d (InWord Tr) = ed_refuse
ed_step d (InWord Tru) = ed_refuse
ed_step d (InWord F) = ed_refuse
ed_step d (InWord Fa) = ed_refuse
ed_step d (InWord Fal) = ed_refuse
ed_step d (InWord Fals) = ed_refuse
ed_step d (InWord N) = ed_refuse
ed_step d (InWord Nu) = ed_refuse
ed_step d (InWord Nul) = ed_refuse
ed_step d (InWord Backslash) = ed_refuse
ed_step d (Plain Whole) = rw (ed_quote d, ed_delimiter d, ed_char) (ed_more in_plain)
ed_step d (Plain (Within i)) = rw (ed_inner i) ed_refuse
ed_step d Complete = ed_stop

after_ed : {a : CellStep} {c : Cell} → EdStep a → a ≡ More c → AfterEd c
after_ed (ed_more {c} h) e = rw (← (same_more e)) h
after_ed ed_stop e = no_stop e
after_ed ed_refuse e = no_more e

-- the byte after ED
ed_low : (b : ℕ) (c : Char) → char_step (Within (Second Ed)) b ≡ Some c → (0x80 ≤ b) × (b ≤ 0x9F)
unfolding char_step inner_step row_of choose◌then◌else◌
ed_low b c e = split_on (within 0x80 0x9F b) (λ p. within_true 0x80 0x9F b p) λ p. broken_on (rw p at e)

-- the rest of a cell begins with such a byte
data LowFirst : Bytes → Type 0 where
  low_first : {b : ℕ} {bs : Bytes} → 0x80 ≤ b → b ≤ 0x9F → LowFirst (b ∷ bs)

low_step : (d : Dialect) {c c' : Cell} (b : ℕ) → AfterEd c → cell_step d c b ≡ More c' → (0x80 ≤ b) × (b ≤ 0x9F)
unfolding cell_step
low_step d {c'} b in_quotes x = let s = char_on Quoted (Within (Second Ed)) b c' x in ed_low b s.char s.step
low_step d {c'} b in_plain x = let s = char_on Plain (Within (Second Ed)) b c' x in ed_low b s.char s.step

low_next : (d : Dialect) {c e : Cell} {bs : Bytes} → AfterEd c → Runs d c bs e → is_whole d e ≡ true → LowFirst bs
unfolding is_whole
low_next d in_quotes here w = impossible w
low_next d in_plain here w = impossible w
low_next d a (there {b} x r) w = let l = low_step d b a x in low_first l.0 l.1

-- ---- lists of bytes of which it holds, except at the end

pub data EdClosed : Bytes → Type 0 where
  closed_none : EdClosed []
  closed_other : {b : ℕ} {bs : Bytes} → (b ≡ 0xED → ⊥) → EdClosed bs → EdClosed (b ∷ bs)
  closed_ed : {b c : ℕ} {bs : Bytes} → 0x80 ≤ c → c < 0xA0 → EdClosed (c ∷ bs) → EdClosed (b ∷ c ∷ bs)

low_closed : {b : ℕ} {bs : Bytes} → LowFirst bs → EdClosed bs → EdClosed (b ∷ bs)
low_closed (low_first l m) h = closed_ed l (omega arith) h

run_closed : (d : Dialect) {c e : Cell} {bs : Bytes} → Runs d c bs e → is_whole d e ≡ true → EdClosed bs
run_closed d here w = closed_none
run_closed d {c} (there {c'} {b} {bs} x r) w =
    split_on (b is 0xED)
    (λ f. low_closed (low_next d (after_ed (ed_step d c) (rw (is→eq b 0xED f) at x)) r w) (run_closed d r w)) λ f.
    closed_other (λ z. impossible (sym f ∙ eq-eqb b 0xED z)) (run_closed d r w)

pub sound_closed : (d : Dialect) (raw : Bytes) → validate_cell d raw ≡ Ok tt → EdClosed raw
unfolding validate_cell
sound_closed d raw j = let r = sound_runs d Fresh 0 raw j in run_closed d r.runs r.whole

pub closed_append : {xs ys : Bytes} → EdClosed xs → EdClosed ys → EdClosed (xs ++ ys)
closed_append closed_none k = k
closed_append (closed_other n h) k = closed_other n (closed_append h k)
closed_append (closed_ed l m h) k = closed_ed l m (closed_append h k)

further : (b : ℕ) (bs : Bytes) (i : ℕ) → EdFollows bs i → EdFollows (b ∷ bs) (suc i)
further b bs i f = let n : suc i + 1 ≡ suc (i + 1) = omega arith in record { least = rw n f.least; most = rw n f.most }

pub closed_followed : {bs : Bytes} → EdClosed bs → EdFollowed bs
closed_followed closed_none i l e = absurd (omega arith)
closed_followed (closed_other n h) zero l e = absurd (n e)
closed_followed (closed_other {b} {bs} n h) (suc i) l e = further b bs i (closed_followed h i (omega arith) e)
closed_followed (closed_ed l m h) zero k e = record { least = l; most = m }
closed_followed (closed_ed {b} {c} {bs} l m h) (suc i) k e = further b (c ∷ bs) i (closed_followed h i (omega arith) e)

pub sound_followed : (d : Dialect) (raw : Bytes) → validate_cell d raw ≡ Ok tt → EdFollowed raw
sound_followed d raw j = closed_followed (sound_closed d raw j)
