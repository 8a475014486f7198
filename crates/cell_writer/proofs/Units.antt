-- The text of a unit: the definitions of canonical text on its bytes.
use mathlib.Core.Path.{◌≡◌, refl, sym, ap, ◌∙◌}
use mathlib.Core.Bool.{true, false, ◌||◌}
use mathlib.Core.List.{[], ◌∷◌, ◌++◌, append-nil, append_assoc}
use Prim.Native.Nat.{ℕ, ◌≤◌}
use native.Mathlib.Omega.{arith}
use lib.ListN.{length, get_or}
use borrow.Author.Tests.{ne_eqb, le-leb}
use Rattle.model.specs.declared.Dialect.{Dialect}
use Rattle.model.specs.declared.Dialect.TheVariants.{Csvj, Tdif, CsvPlus}
use Rattle.model.specs.rules.Dialect.{quote_of, is_csvj}
use Rattle.model.specs.rules.Base.{Bytes, choose◌then◌else◌, ◌is◌, QUOTE, BACKSLASH}
use Rattle.model.specs.rules.Utf8.{is_surrogate, holds_lone}
use Rattle.model.specs.rules.Text.{escaped, surrogate, json_body, doubled}
use Rattle.model.proofs.Tests.{split_on, impossible}
use Rattle.model.proofs.cell_laws.Utf8.{quote_ascii}
use Rattle.cell_decoder.specs.Units.{Unit, one, two, three, four, Lead, Later}
use Rattle.cell_writer.specs.Units.{body_text, is_lone, begins_lone, paired}

-- ---- a byte of a string

module _ (b : ℕ) where
  pub escaped_itself : (b ≡ QUOTE → ⊥) → (b ≡ BACKSLASH → ⊥) → 0x20 ≤ b → escaped b ≡ b ∷ []
  unfolding choose◌then◌else◌
  escaped_itself q s h = rw (ne_eqb b QUOTE q, ne_eqb b BACKSLASH s, le-leb 0x20 b h)

-- ---- a lone surrogate

pub no_surrogate : (a b : ℕ) → (a ≡ 0xED → ⊥) → is_surrogate a b ≡ false
no_surrogate a b e = rw (ne_eqb a 0xED e)

three_lone : (a b c : ℕ) → is_surrogate a b ≡ true → json_body (a ∷ b ∷ c ∷ []) ≡ surrogate b c
unfolding json_body choose◌then◌else◌
three_lone a b c e = rw e

in_csvj : (t : Dialect) (u : Bytes) → is_csvj t ≡ true → body_text t u ≡ json_body u
in_csvj Csvj u e = refl
in_csvj Tdif u e = impossible e
in_csvj (CsvPlus s) u e = impossible e

pub lone_text : (t : Dialect) (u : Bytes) → is_csvj t ≡ true → is_lone u ≡ true → body_text t u ≡ surrogate (get_or u 1 0) (get_or u 2 0)
lone_text t [] j e = impossible e
lone_text t (a ∷ []) j e = impossible e
lone_text t (a ∷ b ∷ []) j e = impossible e
lone_text t (a ∷ b ∷ c ∷ []) j e = in_csvj t _ j ∙ three_lone a b c e
lone_text t (a ∷ b ∷ c ∷ d ∷ u) j e = impossible e

-- ---- any other unit of more than one byte is verbatim

high_escaped : (b : ℕ) → 0x80 ≤ b → escaped b ≡ b ∷ []
high_escaped b h = escaped_itself b (λ e. omega arith) (λ e. omega arith) (omega arith)

string_lies : (u : Bytes) → Unit u → (length u ≡ 1 → ⊥) → is_lone u ≡ false → json_body u ≡ u
unfolding json_body choose◌then◌else◌
string_lies u (one b) h e = absurd (h refl)
string_lies u (two a b g k) h e = rw (high_escaped a g.least, high_escaped b k.least)
string_lies u (three a b c g k m) h e = rw (e, high_escaped a g, high_escaped b k.least, high_escaped c m.least)
string_lies u (four a b c d g k m n) h e =
    rw (
      no_surrogate a b g.other,
      no_surrogate b c (λ z. omega (arith, k.most)),
      high_escaped a g.least,
      high_escaped b k.least,
      high_escaped c m.least,
      high_escaped d n.least,
    )

doubled_lies : (q : ℕ) (u : Bytes) → q ≤ 0x7F → Unit u → (length u ≡ 1 → ⊥) → doubled q u ≡ u
unfolding doubled choose◌then◌else◌
doubled_lies q u l (one b) h = absurd (h refl)
doubled_lies q u l (two a b g k) h = rw (ne_eqb a q (λ z. omega (arith, g.least)), ne_eqb b q (λ z. omega (arith, k.least)))
doubled_lies q u l (three a b c g k m) h =
    rw (ne_eqb a q (λ z. omega arith), ne_eqb b q (λ z. omega (arith, k.least)), ne_eqb c q (λ z. omega (arith, m.least)))
doubled_lies q u l (four a b c d g k m n) h =
    rw (
      ne_eqb a q (λ z. omega (arith, g.least)),
      ne_eqb b q (λ z. omega (arith, k.least)),
      ne_eqb c q (λ z. omega (arith, m.least)),
      ne_eqb d q (λ z. omega (arith, n.least)),
    )

pub stands : (t : Dialect) (u : Bytes) → Unit u → (length u ≡ 1 → ⊥) → (is_csvj t ≡ true → is_lone u ≡ false) → body_text t u ≡ u
stands Csvj u x h e = string_lies u x h (e refl)
stands Tdif u x h e = doubled_lies QUOTE u (omega arith) x h
stands (CsvPlus s) u x h e = doubled_lies (quote_of (CsvPlus s)) u (quote_ascii (CsvPlus s)) x h

-- ---- the text of a unit, and then of the rest

pub doubled_append : (q : ℕ) (u bs : Bytes) → doubled q (u ++ bs) ≡ doubled q u ++ doubled q bs
unfolding doubled choose◌then◌else◌
doubled_append q [] bs = refl
doubled_append q (b ∷ u) bs =
    split_on (b is q)
    (λ e. rw e (ap (λ (l : Bytes). q ∷ q ∷ l) (doubled_append q u bs)))
    (λ e. rw e (ap (λ (l : Bytes). b ∷ l) (doubled_append q u bs)))

-- a byte that begins no lone surrogate
body_byte : (b : ℕ) (bs : Bytes) → begins_lone (b ∷ bs) ≡ false → json_body (b ∷ bs) ≡ escaped b ++ json_body bs
unfolding json_body choose◌then◌else◌
body_byte b [] e = sym (append-nil (escaped b))
body_byte b (c ∷ []) e = refl
body_byte b (c ∷ d ∷ bs) e = rw e

begins_none : (b : ℕ) (bs : Bytes) → (b ≡ 0xED → ⊥) → begins_lone (b ∷ bs) ≡ false
begins_none b [] h = refl
begins_none b (c ∷ []) h = refl
begins_none b (c ∷ d ∷ bs) h = no_surrogate b c h

body_later : (b : ℕ) (bs : Bytes) → Later b → json_body (b ∷ bs) ≡ escaped b ++ json_body bs
body_later b bs h = body_byte b bs (begins_none b bs λ e. omega (arith, h.most))

body_lead : (a : ℕ) (bs : Bytes) → Lead a → json_body (a ∷ bs) ≡ escaped a ++ json_body bs
body_lead a bs h = body_byte a bs (begins_none a bs h.other)

pub surrogate_append : (a b c : ℕ) (bs : Bytes) → is_surrogate a b ≡ true → json_body (a ∷ b ∷ c ∷ bs) ≡ surrogate b c ++ json_body bs
unfolding json_body choose◌then◌else◌
surrogate_append a b c bs e = rw e

alone : (b : ℕ) → json_body (b ∷ []) ≡ escaped b
unfolding json_body
alone b = refl

-- a byte whose text is its own, before bytes of which the same holds
first_append : (a : ℕ) (u bs : Bytes) → ((l : Bytes) → json_body (a ∷ u ++ l) ≡ escaped a ++ json_body (u ++ l)) → json_body (u ++ bs) ≡ json_body u ++ json_body bs
    → json_body (a ∷ u ++ bs) ≡ json_body (a ∷ u) ++ json_body bs
first_append a u bs f e =
    let whole : json_body (a ∷ u) ≡ escaped a ++ json_body u = simp append-nil at (f []) in
    f bs ∙ ap (λ (l : Bytes). escaped a ++ l) e ∙ sym (append_assoc (escaped a) (json_body u) (json_body bs)) ∙ ap (λ (l : Bytes). l ++ json_body bs) (sym whole)

later_one : (b : ℕ) (bs : Bytes) → Later b → json_body (b ∷ bs) ≡ json_body (b ∷ []) ++ json_body bs
later_one b bs h = body_later b bs h ∙ ap (λ (l : Bytes). l ++ json_body bs) (sym (alone b))

later_two : (b c : ℕ) (bs : Bytes) → Later b → Later c → json_body (b ∷ c ∷ bs) ≡ json_body (b ∷ c ∷ []) ++ json_body bs
later_two b c bs h k = first_append b (c ∷ []) bs (λ (l : Bytes). body_later b (c ∷ l) h) (later_one c bs k)

-- a single byte must not begin a lone surrogate with the bytes after it
pub body_append : (u bs : Bytes) → Unit u → (length u ≡ 1 → begins_lone (u ++ bs) ≡ false) → json_body (u ++ bs) ≡ json_body u ++ json_body bs
body_append u bs (one b) h = body_byte b bs (h refl) ∙ ap (λ (l : Bytes). l ++ json_body bs) (sym (alone b))
body_append u bs (two a b g k) h = first_append a (b ∷ []) bs (λ (l : Bytes). body_lead a (b ∷ l) g) (later_one b bs k)
body_append u bs (three a b c g k m) h =
    split_on (is_surrogate a b)
    (λ e. surrogate_append a b c bs e ∙ ap (λ (l : Bytes). l ++ json_body bs) (sym (three_lone a b c e)))
    (λ e. first_append a (b ∷ c ∷ []) bs (λ (l : Bytes). body_byte a (b ∷ c ∷ l) e) (later_two b c bs k m))
body_append u bs (four a b c d g k m n) h =
    first_append a (b ∷ c ∷ d ∷ []) bs (λ (l : Bytes). body_lead a (b ∷ c ∷ d ∷ l) g)
    (first_append b (c ∷ d ∷ []) bs (λ (l : Bytes). body_later b (c ∷ d ∷ l) k) (later_two c d bs m n))

pub text_append : (t : Dialect) (u bs : Bytes) → Unit u → (length u ≡ 1 → begins_lone (u ++ bs) ≡ false) → body_text t (u ++ bs) ≡ body_text t u ++ body_text t bs
text_append Csvj u bs x h = body_append u bs x h
text_append Tdif u bs x h = doubled_append QUOTE u bs
text_append (CsvPlus s) u bs x h = doubled_append (quote_of (CsvPlus s)) u bs

-- ---- whether a unit, and then the rest, hold a lone surrogate

-- a byte that begins none
pub lone_skip : (b : ℕ) (bs : Bytes) → paired (b ∷ bs) ≡ false → holds_lone (b ∷ bs) ≡ holds_lone bs
unfolding holds_lone choose◌then◌else◌
lone_skip b [] e = refl
lone_skip b (c ∷ bs) e = rw e

paired_not : (b : ℕ) (bs : Bytes) → (b ≡ 0xED → ⊥) → paired (b ∷ bs) ≡ false
paired_not b [] h = refl
paired_not b (c ∷ bs) h = no_surrogate b c h

skip_later : (b : ℕ) (bs : Bytes) → Later b → holds_lone (b ∷ bs) ≡ holds_lone bs
skip_later b bs h = lone_skip b bs (paired_not b bs λ e. omega (arith, h.most))

skip_lead : (a : ℕ) (bs : Bytes) → Lead a → holds_lone (a ∷ bs) ≡ holds_lone bs
skip_lead a bs h = lone_skip a bs (paired_not a bs h.other)

pub lone_found : (a b : ℕ) (bs : Bytes) → is_surrogate a b ≡ true → holds_lone (a ∷ b ∷ bs) ≡ true
unfolding holds_lone choose◌then◌else◌
lone_found a b bs e = rw e

pub lone_append : (u bs : Bytes) → Unit u → (length u ≡ 1 → paired (u ++ bs) ≡ false) → holds_lone (u ++ bs) ≡ (is_lone u || holds_lone bs)
lone_append u bs (one b) h = lone_skip b bs (h refl)
lone_append u bs (two a b g k) h = skip_lead a (b ∷ bs) g ∙ skip_later b bs k
lone_append u bs (three a b c g k m) h =
    split_on (is_surrogate a b)
    (λ e. rw e (lone_found a b (c ∷ bs) e))
    (λ e. rw e (lone_skip a (b ∷ c ∷ bs) e ∙ skip_later b (c ∷ bs) k ∙ skip_later c bs m))
lone_append u bs (four a b c d g k m n) h = skip_lead a (b ∷ c ∷ d ∷ bs) g ∙ skip_later b (c ∷ d ∷ bs) k ∙ skip_later c (d ∷ bs) m ∙ skip_later d bs n

-- bytes that begin no lone surrogate by two bytes begin none by three
pub paired_begins : (bs : Bytes) → paired bs ≡ false → begins_lone bs ≡ false
paired_begins [] e = refl
paired_begins (a ∷ []) e = refl
paired_begins (a ∷ b ∷ []) e = refl
paired_begins (a ∷ b ∷ c ∷ bs) e = e

pub begins_paired : (bs : Bytes) → begins_lone bs ≡ true → holds_lone bs ≡ true
begins_paired [] e = impossible e
begins_paired (a ∷ []) e = impossible e
begins_paired (a ∷ b ∷ []) e = impossible e
begins_paired (a ∷ b ∷ c ∷ bs) e = lone_found a b (c ∷ bs) e
