-- Content and canonical text of a run, by the definitions: the run itself.
use mathlib.Core.Path.{◌≡◌, refl, ap, ◌∙◌}
use mathlib.Core.Bool.{Bool, true, false, not}
use mathlib.Core.List.{[], ◌∷◌, ◌++◌}
use Prim.Native.Nat.{ℕ, ◌≤◌}
use lib.Dec.{leb}
use lib.ListN.{length, take, drop}
use Rattle.model.specs.rules.Base.{Bytes, choose◌then◌else◌, ◌is◌, QUOTE, BACKSLASH}
use Rattle.model.specs.declared.Dialect.{Dialect}
use Rattle.model.specs.declared.Dialect.TheVariants.{Csvj, Tdif, CsvPlus}
use Rattle.model.specs.rules.Dialect.{quote_of}
use Rattle.model.specs.rules.Utf8.{holds_lone}
use Rattle.model.specs.rules.Decode.{undouble, units, text_of}
use Rattle.model.specs.rules.Text.{escaped, json_body, doubled}
use Rattle.model.proofs.Tests.{split_on, and_true, impossible}
use Rattle.swar.proofs.FlaggedPrefix.{passing_short}
use Rattle.cell_decoder.specs.declared.first_byte.Spelling.{Spelling}
use Rattle.cell_decoder.specs.declared.first_byte.Spelling.TheVariants.{Nothing, AsItStands, Doubled, Escaped}
use Rattle.cell_writer.specs.PlainRuns.{is_plain, plain_run}
use Rattle.cell_writer.specs.Units.{body_text}
use Rattle.cell_writer.specs.Contents.{content_on, source_quote}

-- a run is no longer than its bytes
pub run_inside : (p q r : ℕ) (bs : Bytes) → plain_run p q r bs ≤ length bs
unfolding plain_run
run_inside p q r bs = passing_short (is_plain p q r) bs

-- ---- a run is its own text

not_true : (t : Bool) → not t ≡ true → t ≡ false
not_true true e = impossible e
not_true false e = refl

-- what it means for a byte to be plain
pub record Plain (p q r b : ℕ) : Type 0 where
  pub least : leb 0x20 b ≡ true
  pub no_backslash : (b is BACKSLASH) ≡ false
  pub no_lone : (b is 0xED) ≡ false
  pub no_first : (b is p) ≡ false
  pub no_second : (b is q) ≡ false
  pub no_third : (b is r) ≡ false

pub plain_is : (p q r b : ℕ) → is_plain p q r b ≡ true → Plain p q r b
unfolding is_plain
plain_is p q r b e =
    let d = and_true _ _ e in
    let f = and_true _ _ d.0 in
    let g = and_true _ _ f.0 in
    let h = and_true _ _ g.0 in
    let k = and_true _ _ h.0 in
    record {
      least = k.0;
      no_backslash = not_true _ k.1;
      no_lone = not_true _ h.1;
      no_first = not_true _ g.1;
      no_second = not_true _ f.1;
      no_third = not_true _ d.1;
    }

-- in a string
escaped_plain : {p q r b : ℕ} → (b is QUOTE) ≡ false → Plain p q r b → escaped b ≡ b ∷ []
unfolding choose◌then◌else◌
escaped_plain e t = rw (e, t.no_backslash, t.least)

body_plain : {p q r b : ℕ} (bs : Bytes) → (b is QUOTE) ≡ false → Plain p q r b → json_body (b ∷ bs) ≡ b ∷ json_body bs
unfolding json_body choose◌then◌else◌
body_plain [] e t = escaped_plain e t
body_plain (c ∷ []) e t = rw (escaped_plain e t)
body_plain (c ∷ d ∷ bs) e t = rw (t.no_lone, escaped_plain e t)

-- in text with doubled quotes
doubled_plain : (u b : ℕ) (bs : Bytes) → (b is u) ≡ false → doubled u (b ∷ bs) ≡ b ∷ doubled u bs
unfolding doubled choose◌then◌else◌
doubled_plain u b bs e = rw e

text_byte : (t : Dialect) {p q r b : ℕ} (bs : Bytes) → p ≡ quote_of t → Plain p q r b → body_text t (b ∷ bs) ≡ b ∷ body_text t bs
text_byte Csvj bs e h = body_plain bs (rw e at h.no_first) h
text_byte Tdif {b} bs e h = doubled_plain QUOTE b bs (rw e at h.no_first)
text_byte (CsvPlus s) {b} bs e h = doubled_plain (quote_of (CsvPlus s)) b bs (rw e at h.no_first)

lone_byte : (b : ℕ) (bs : Bytes) → (b is 0xED) ≡ false → holds_lone (b ∷ bs) ≡ holds_lone bs
unfolding holds_lone choose◌then◌else◌
lone_byte b [] e = refl
lone_byte b (c ∷ bs) e = rw e

content_byte : (c : Spelling) {p q r b : ℕ} (bs : Bytes) → q ≡ source_quote c → Plain p q r b → content_on c (b ∷ bs) ≡ b ∷ content_on c bs
unfolding undouble units text_of choose◌then◌else◌
content_byte Nothing bs e h = refl
content_byte AsItStands bs e h = refl
content_byte (Doubled u) {b} bs e h = let f : (b is u) ≡ false = rw e at h.no_second in rw f
content_byte Escaped {b} bs e h = let f : (b is QUOTE) ≡ false = rw e at h.no_second in rw (f, h.no_backslash)

module _ (p q r : ℕ) where
  -- the content of a run is the run, in a source whose quote stops it
  pub content_run : (c : Spelling) → q ≡ source_quote c → (bs : Bytes) → let n = plain_run p q r bs in content_on c bs ≡ take n bs ++ content_on c (drop n bs)
  unfolding plain_run choose◌then◌else◌
  content_run c e [] = refl
  content_run c e (b ∷ bs) =
      split_on (is_plain p q r b)
      (λ f. rw f (content_byte c bs e (plain_is p q r b f) ∙ ap (λ (l : Bytes). b ∷ l) (content_run c e bs)))
      (λ f. rw f)

  -- its text is the run, before the text of the rest, in a target whose quote stops it
  pub text_run : (t : Dialect) → p ≡ quote_of t → (bs ys : Bytes) → let w = take (plain_run p q r bs) bs in body_text t (w ++ ys) ≡ w ++ body_text t ys
  unfolding plain_run choose◌then◌else◌
  text_run t e [] ys = refl
  text_run t e (b ∷ bs) ys =
      split_on (is_plain p q r b)
      (λ f. rw f (text_byte t _ e (plain_is p q r b f) ∙ ap (λ (l : Bytes). b ∷ l) (text_run t e bs ys)))
      (λ f. rw f)

  -- it holds no part of a lone surrogate
  pub lone_run : (bs ys : Bytes) → holds_lone (take (plain_run p q r bs) bs ++ ys) ≡ holds_lone ys
  unfolding plain_run choose◌then◌else◌
  lone_run [] ys = refl
  lone_run (b ∷ bs) ys =
      split_on (is_plain p q r b)
      (λ f. rw f (lone_byte b _ (plain_is p q r b f).no_lone ∙ lone_run bs ys))
      (λ f. rw f)
