-- Whether CSV+ quotes a content: a run holds nothing that needs quotes.
use mathlib.Core.Path.{◌≡◌, refl, sym, ap, ap₂, ◌∙◌}
use mathlib.Core.Bool.{Bool, true, false, ◌||◌, or-false, or_assoc}
use mathlib.Core.List.{[], ◌∷◌, ◌++◌}
use Prim.Native.Nat.{ℕ, ◌+◌, ◌≤◌, ◌<◌}
use native.Mathlib.Omega.{arith}
use lib.ListN.{length, take, drop, get_or, length-append}
use lib.Seq.{take_at}
use borrow.Author.Tests.{ne_eqb, leb-true}
use Rattle.model.specs.declared.Settings.{Settings}
use Rattle.model.specs.declared.Dialect.TheVariants.{CsvPlus}
use Rattle.model.specs.rules.Base.{Bytes, choose◌then◌else◌, CR, LF, holds, over}
use Rattle.model.specs.rules.Dialect.{quote_of, delimiter_of}
use Rattle.model.specs.rules.Text.{special, quoted_text, csv_plus_cell, has_quotes}
use Rattle.model.proofs.Tests.{split_on}
use Rattle.model.proofs.cell_laws.Utf8.{quote_ascii, delimiter_ascii}
use Rattle.cell_decoder.specs.Units.{Unit, one, two, three, four}
use Rattle.cell_decoder.specs.declared.first_byte.Spelling.{Spelling}
use Rattle.cell_writer.specs.PlainRuns.{is_plain, plain_run}
use Rattle.cell_writer.specs.Contents.{content_from, source_quote, Part}
use Rattle.cell_writer.proofs.PlainRuns.{Plain, plain_is}
use Rattle.cell_writer.proofs.Contents.{content_part, content_end}

holds_append : (p : ℕ → Bool) (u v : Bytes) → holds p (u ++ v) ≡ (holds p u || holds p v)
unfolding holds
holds_append p [] v = refl
holds_append p (b ∷ u) v = ap (λ (x : Bool). p b || x) (holds_append p u v) ∙ sym (or_assoc (p b) (holds p u) (holds p v))

module _ (s : Settings) where
  abbrev Q : ℕ
  Q = quote_of (CsvPlus s)

  abbrev P : ℕ
  P = delimiter_of (CsvPlus s)

  -- ---- runs

  not_special : {q b : ℕ} → Plain Q q P b → special s b ≡ false
  not_special {b} t =
      let h : 0x20 ≤ b = leb-true 0x20 b t.least in
      rw (t.no_first, t.no_third, ne_eqb b 0x0D (λ e. omega arith), ne_eqb b 0x0A (λ e. omega arith))

  -- a run may be skipped
  special_run : (q : ℕ) (bs ys : Bytes) → holds (special s) (take (plain_run Q q P bs) bs ++ ys) ≡ holds (special s) ys
  unfolding holds plain_run choose◌then◌else◌
  special_run q [] ys = refl
  special_run q (b ∷ bs) ys =
      split_on (is_plain Q q P b)
      (λ e. rw (e, not_special (plain_is Q q P b e)) (special_run q bs ys))
      (λ e. rw e)

  module _ (c : Spelling) (raw : Bytes) (i j p q r : ℕ) (e : p ≡ Q) (f : q ≡ source_quote c) (g : r ≡ P) (k : j ≡ i + plain_run p q r (drop i raw)) where
    pub special_on : holds (special s) (content_from c raw i) ≡ holds (special s) (content_from c raw j)
    special_on =
        let k' : j ≡ i + plain_run Q q P (drop i raw) = k ∙ ap₂ (λ (x y : ℕ). i + plain_run x q y (drop i raw)) e g in
        ap (holds (special s)) (content_part raw i j Q q P k' c f) ∙ special_run q (drop i raw) (content_from c raw j)

  pub special_end : (c : Spelling) (raw : Bytes) (j : ℕ) → length raw ≤ j → holds (special s) (content_from c raw j) ≡ false
  unfolding holds
  special_end c raw j h = rw (content_end c raw j h)

  -- ---- units

  high_special : (b : ℕ) → 0x80 ≤ b → special s b ≡ false
  high_special b h =
      let q : Q ≤ 0x7F = quote_ascii (CsvPlus s) in
      let p : P ≤ 0x7F = delimiter_ascii (CsvPlus s) in
      rw (ne_eqb b Q (λ e. omega arith), ne_eqb b P (λ e. omega arith), ne_eqb b CR (λ e. omega arith), ne_eqb b LF (λ e. omega arith))

  more_special : {u : Bytes} → Unit u → (length u ≡ 1 → ⊥) → holds (special s) u ≡ false
  unfolding holds
  more_special (one b) h = absurd (h refl)
  more_special (two a b k l) h = rw (high_special a k.least, high_special b l.least)
  more_special (three a b c k l m) h = rw (high_special a k, high_special b l.least, high_special c m.least)
  more_special (four a b c d k l m n) h = rw (high_special a k.least, high_special b l.least, high_special c m.least, high_special d n.least)

  pub unit_byte : (u : Bytes) → length u ≡ 1 → holds (special s) u ≡ special s (get_or u 0 0)
  unfolding holds
  unit_byte [] e = absurd (omega arith)
  unit_byte (b ∷ []) e = or-false (special s b)
  unit_byte (b ∷ c ∷ u) e = absurd (omega arith)

  pub unit_more : (u : Bytes) → (0 < length u → Unit u) → (length u ≡ 1 → ⊥) → holds (special s) u ≡ false
  unfolding holds
  unit_more [] h n = refl
  unit_more (b ∷ u) h n = more_special (h (omega arith)) n

  module _ {c : Spelling} {raw : Bytes} {i : ℕ} {text : Bytes} {next : ℕ} (p : Part c raw i text next) where
    part_special : holds (special s) (content_from c raw i) ≡ (holds (special s) text || holds (special s) (content_from c raw next))
    part_special = ap (holds (special s)) p.stands ∙ holds_append (special s) text (content_from c raw next)

    pub special_there : holds (special s) text ≡ true → holds (special s) (content_from c raw i) ≡ true
    special_there e = part_special ∙ rw e

    pub special_next : holds (special s) text ≡ false → holds (special s) (content_from c raw i) ≡ holds (special s) (content_from c raw next)
    special_next e = part_special ∙ rw e

-- ---- the byte order mark

-- the first n bytes of a room are exactly w
pub record Held (w room : Bytes) (n : ℕ) : Type 0 where
  pub front : take n room ≡ w
  pub inside : n ≤ length room
  pub whole : n ≡ length (take n room)

pub held : (w old room : Bytes) (n : ℕ) → room ≡ over w old → n ≡ length w → Held w room n
held w old room n e l =
    let f : take n room ≡ w = ap (take n) e ∙ take_at w (drop (length w) old) n (sym l) in
    record { front = f; inside = rw e (omega (arith, l, length-append w (drop (length w) old))); whole = l ∙ ap length (sym f) }

-- by this test CSV+ writes a cell in quotes
pub cell_by : (s : Settings) (only first : Bool) (c : Bytes)
    → csv_plus_cell s only first c ≡ (choose has_quotes s only first c then quoted_text (quote_of (CsvPlus s)) c else c)
unfolding csv_plus_cell
cell_by s only first c = refl
