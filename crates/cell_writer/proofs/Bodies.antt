-- The text of a content by offset: what stops a run, and the rest.
use Rattle.std.proofs.Common.{nat_eq}
use mathlib.Core.Path.{◌≡◌, refl, sym, ap, ◌∙◌}
use mathlib.Core.Bool.{Bool, true, false, ◌||◌}
use mathlib.Core.List.{[], ◌∷◌, ◌++◌}
use Prim.Native.Nat.{ℕ, ◌+◌, ◌-◌, ◌≤◌, ◌<◌}
use native.Mathlib.Omega.{arith}
use lib.ListN.{length, take, drop, get_or, length-drop}
use lib.Seq.{drop-drop, take_all}
use Rattle.model.specs.declared.Dialect.{Dialect}
use Rattle.model.specs.declared.Dialect.TheVariants.{Csvj, Tdif, CsvPlus}
use Rattle.model.specs.rules.Base.{Bytes, choose◌then◌else◌, QUOTE}
use Rattle.model.specs.rules.Dialect.{quote_of, is_csvj}
use Rattle.model.specs.rules.Utf8.{is_surrogate, holds_lone}
use Rattle.model.specs.rules.Text.{surrogate, json_body, doubled}
use Rattle.model.proofs.Tests.{split_on, impossible}
use Rattle.cell_decoder.specs.Units.{one}
use Rattle.cell_decoder.specs.declared.first_byte.Spelling.{Spelling}
use Rattle.cell_decoder.specs.declared.first_byte.Spelling.TheVariants.{AsItStands}
use Rattle.cell_writer.specs.Units.{body_text, is_lone, begins_lone, paired}
use Rattle.cell_writer.specs.Contents.{content_from, source_quote, Decoded, Part}
use Rattle.cell_writer.specs.Bodies.{Stops}
use Rattle.cell_writer.specs.PlainRuns.{plain_run}
use Rattle.cell_writer.proofs.PlainRuns.{text_run, lone_run}
use Rattle.cell_writer.proofs.Units.{
  body_append,
  doubled_append,
  text_append,
  surrogate_append,
  lone_append,
  paired_begins,
  begins_paired,
}
use Rattle.cell_writer.proofs.Contents.{content_part, part_apart}

begins_long : (bs : Bytes) → begins_lone bs ≡ true → 3 ≤ length bs
begins_long [] e = impossible e
begins_long (a ∷ []) e = impossible e
begins_long (a ∷ b ∷ []) e = impossible e
begins_long (a ∷ b ∷ c ∷ bs) e = omega arith

first_reports : (b : ℕ) (bs : Bytes) → holds_lone (b ∷ bs) ≡ (paired (b ∷ bs) || holds_lone bs)
unfolding holds_lone choose◌then◌else◌
first_reports b [] = refl
first_reports b (a ∷ bs) = split_on (is_surrogate b a) (λ e. rw e) (λ e. rw e)

-- a lone surrogate is first
lone_body : (l : Bytes) → begins_lone l ≡ true → json_body l ≡ surrogate (get_or l 1 0) (get_or l 2 0) ++ json_body (drop 3 l)
lone_body [] e = impossible e
lone_body (a ∷ []) e = impossible e
lone_body (a ∷ b ∷ []) e = impossible e
lone_body (a ∷ b ∷ c ∷ l) e = surrogate_append a b c l e

-- a byte is first
first_text : (t : Dialect) (l : Bytes) → 0 < length l → (is_csvj t ≡ true → begins_lone l ≡ false)
    → body_text t l ≡ body_text t (get_or l 0 0 ∷ []) ++ body_text t (drop 1 l)
first_text t [] h e = absurd (omega arith)
first_text Csvj (b ∷ l) h e = body_append (b ∷ []) l (one b) (λ _. e refl)
first_text Tdif (b ∷ l) h e = doubled_append QUOTE (b ∷ []) l
first_text (CsvPlus s) (b ∷ l) h e = doubled_append (quote_of (CsvPlus s)) (b ∷ []) l

first_tells : (l : Bytes) → 0 < length l → holds_lone l ≡ (paired l || holds_lone (drop 1 l))
first_tells [] h = absurd (omega arith)
first_tells (b ∷ l) h = first_reports b l

module _ (c : Bytes) (i : ℕ) where
  -- a slice to the end
  pub rest_is : take (length c - i) (drop i c) ≡ drop i c
  rest_is = take_all (length c - i) (drop i c) (omega (arith, length-drop i c))

  pub lone_long : begins_lone (drop i c) ≡ true → i + 3 ≤ length c
  lone_long e = omega (arith, begins_long (drop i c) e, length-drop i c)

  pub stops_lone : (t : Dialect) {text : Bytes} → begins_lone (drop i c) ≡ true → is_csvj t ≡ true
      → text ≡ surrogate (get_or (drop i c) 1 0) (get_or (drop i c) 2 0) → Stops AsItStands t c i text (i + 3) true
  stops_lone Csvj e j p =
      record {
        stands = rw p (lone_body (drop i c) e ∙ ap (λ (l : Bytes). surrogate (get_or (drop i c) 1 0) (get_or (drop i c) 2 0) ++ json_body l) (drop-drop 3 i c));
        on = omega arith;
        inside = lone_long e;
        tells = begins_paired (drop i c) e;
      }
  stops_lone Tdif e j p = impossible j
  stops_lone (CsvPlus s) e j p = impossible j

  pub stops_byte : (t : Dialect) {text : Bytes} {lone : Bool} → i < length c → (is_csvj t ≡ true → begins_lone (drop i c) ≡ false)
      → text ≡ body_text t (get_or (drop i c) 0 0 ∷ []) → lone ≡ paired (drop i c)
      → Stops AsItStands t c i text (i + 1) lone
  stops_byte t h e p l =
      let some : 0 < length (drop i c) = omega (arith, length-drop i c) in
      let next : drop 1 (drop i c) ≡ drop (i + 1) c = drop-drop 1 i c in
      record {
        stands = rw (p, ← next) (first_text t (drop i c) some e);
        on = omega arith;
        inside = omega arith;
        tells = rw (l, ← next) (first_tells (drop i c) some);
      }

-- ---- in a cell that is decoded

not_empty : (u : Bytes) → nat_eq (length u) 0 ≡ false → 0 < length u
not_empty [] e = impossible (sym e)
not_empty (b ∷ u) e = omega arith

module _ {c : Spelling} {raw : Bytes} {i : ℕ} {unit : Bytes} {next : ℕ} (p : Part c raw i unit next) where
  pub stops_unit : (t : Dialect) {text : Bytes} {lone : Bool} → Decoded c raw → nat_eq (length unit) 0 ≡ false → text ≡ body_text t unit
      → lone ≡ is_lone unit → Stops c t raw i text next lone
  stops_unit t d z s l =
      let rest : Bytes = content_from c raw next in
      let some = p.unit (not_empty unit z) in
      let apart : length unit ≡ 1 → paired (unit ++ rest) ≡ false = λ e. ap paired (sym p.stands) ∙ part_apart d p e in
      record {
        stands =
            ap (body_text t) p.stands ∙ text_append t unit rest some (λ e. paired_begins (unit ++ rest) (apart e))
            ∙ ap (λ (w : Bytes). w ++ body_text t rest) (sym s);
        on = p.on;
        inside = p.inside;
        tells = ap holds_lone p.stands ∙ lone_append unit rest some apart ∙ ap (λ (x : Bool). x || holds_lone rest) (sym l);
      }

-- ---- a run, and the end

module _ (raw : Bytes) (i j p q : ℕ) (c : Spelling) (s : q ≡ source_quote c) (k : j ≡ i + plain_run p q q (drop i raw)) where
  pub text_part : (t : Dialect) → p ≡ quote_of t → body_text t (content_from c raw i) ≡ take (j - i) (drop i raw) ++ body_text t (content_from c raw j)
  text_part t e =
      let n : ℕ = plain_run p q q (drop i raw) in
      let size : j - i ≡ n = omega arith in
      ap (body_text t) (content_part raw i j p q q k c s)
      ∙ text_run p q q t e (drop i raw) (content_from c raw j)
      ∙ ap (λ (m : ℕ). take m (drop i raw) ++ body_text t (content_from c raw j)) (sym size)

  pub lone_part : holds_lone (content_from c raw i) ≡ holds_lone (content_from c raw j)
  lone_part = ap holds_lone (content_part raw i j p q q k c s) ∙ lone_run p q q (drop i raw) (content_from c raw j)

pub text_empty : (t : Dialect) → body_text t [] ≡ []
unfolding json_body doubled
text_empty Csvj = refl
text_empty Tdif = refl
text_empty (CsvPlus s) = refl

pub lone_empty : holds_lone [] ≡ false
unfolding holds_lone
lone_empty = refl

pub text_end : (t : Dialect) {bs : Bytes} → bs ≡ [] → body_text t bs ≡ []
text_end t e = ap (body_text t) e ∙ text_empty t

pub lone_end : {bs : Bytes} → bs ≡ [] → holds_lone bs ≡ false
lone_end e = ap holds_lone e ∙ lone_empty

-- ---- what is known of lone surrogates

pub lone_first : (bs : Bytes) → holds_lone bs ≡ (false || holds_lone bs)
lone_first bs = refl

-- nothing remains
pub lone_done : (lone : Bool) {all rest : Bool} → all ≡ (lone || rest) → rest ≡ false → lone ≡ all
lone_done true e f = sym e
lone_done false e f = sym f ∙ sym e

-- a part of the rest was read
pub lone_step : (lone here next : Bool) {all rest found : Bool} → all ≡ (lone || rest) → rest ≡ (here || next) → found ≡ (lone || here) → all ≡ (found || next)
lone_step true here next e f g = e ∙ ap (λ (x : Bool). x || next) (sym g)
lone_step false here next e f g = e ∙ f ∙ ap (λ (x : Bool). x || next) (sym g)
