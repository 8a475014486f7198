-- Ordinary bytes stand for themselves between quotation marks in every dialect; what follows for a verbatim cell.
use mathlib.Core.Path.{◌≡◌, refl, sym, ap, ◌∙◌}
use mathlib.Core.Bool.{true, false, or-false}
use mathlib.Core.List.{[], ◌∷◌, ◌++◌, append-nil}
use Prim.Native.Nat.{ℕ, suc, ◌+◌, ◌-◌, ◌≤◌}
use native.Mathlib.Omega.{arith}
use lib.ListN.{length, length-append}
use lib.Seq.{take_at, take-length}
use borrow.Author.Tests.{ne_eqb, eqb-false, lt-leb}
use Rattle.model.specs.declared.Dialect.{Dialect}
use Rattle.model.specs.declared.Dialect.TheVariants.{Csvj, Tdif, CsvPlus}
use Rattle.model.specs.declared.Kind.TheVariants.{Text}
use Rattle.model.specs.declared.Settings.{Settings}
use Rattle.model.specs.rules.Base.{Bytes, choose◌then◌else◌, ◌is◌, begins, holds, QUOTE, BACKSLASH, CR, LF}
use Rattle.model.specs.rules.Dialect.{quote_of, delimiter_of}
use Rattle.model.specs.rules.Cell.{may_be_empty}
use Rattle.model.specs.rules.Decode.{kind_of, content_of, undouble, between, units, text_of}
use Rattle.model.specs.rules.Text.{special, json_body, doubled, escaped}
use Rattle.model.specs.rules.Utf8.{is_surrogate, holds_lone}
use Rattle.model.proofs.Tests.{split_on, impossible, and_true, is→eq}
use Rattle.swar.specs.Words.{is_byte, is_clean, all_pass}
use Rattle.swar.proofs.CleanBytes.{Clean, clean_is}
use Rattle.cell_decoder.specs.Followed.{EdFollows, EdFollowed}
use Rattle.cell_writer.specs.Units.{body_text}
use Rattle.cell_writer.proofs.Units.{escaped_itself}
use Rattle.cell_fast.specs.Ends.{CleanCell, bare, quoted}
use Rattle.record_writer.specs.CleanCellText.{quoted_cell, inside_of}

-- ---- bytes

pub data AllClean : Bytes → Type 0 where
  none : AllClean []
  one : {b : ℕ} {bs : Bytes} → Clean QUOTE b → AllClean bs → AllClean (b ∷ bs)

all_clean : (bs : Bytes) → all_pass (is_clean QUOTE) bs ≡ true → AllClean bs
unfolding all_pass
all_clean [] e = none
all_clean (b ∷ bs) e = let x = and_true (is_clean QUOTE b) (all_pass (is_clean QUOTE) bs) e in one (clean_is QUOTE b x.0) (all_clean bs x.1)

-- nothing is doubled
doubled_clean : {bs : Bytes} → AllClean bs → doubled QUOTE bs ≡ bs
unfolding doubled choose◌then◌else◌
doubled_clean none = refl
doubled_clean (one {b} {bs} p r) = rw p.no_quote (ap (λ (l : Bytes). b ∷ l) (doubled_clean r))

-- nothing is escaped
byte_clean : {b : ℕ} → Clean QUOTE b → escaped b ≡ b ∷ []
byte_clean {b} p = escaped_itself b (eqb-false b QUOTE p.no_quote) (eqb-false b BACKSLASH p.no_backslash) p.least

pair_lone : (a b : ℕ) (bs : Bytes) → holds_lone (a ∷ b ∷ bs) ≡ false → is_surrogate a b ≡ false
unfolding holds_lone choose◌then◌else◌
pair_lone a b bs e = split_on (is_surrogate a b) (λ f. impossible (sym (rw f at e))) (λ f. f)

rest_lone : (a : ℕ) (bs : Bytes) → holds_lone (a ∷ bs) ≡ false → holds_lone bs ≡ false
unfolding holds_lone choose◌then◌else◌
rest_lone a [] e = refl
rest_lone a (b ∷ bs) e = rw (pair_lone a b bs e) at e

body_clean : {bs : Bytes} → AllClean bs → holds_lone bs ≡ false → json_body bs ≡ bs
unfolding json_body choose◌then◌else◌
body_clean none e = refl
body_clean (one p none) e = byte_clean p
body_clean (one p (one q none)) e = rw (byte_clean p, byte_clean q)
body_clean (one {b = a} p (one {b} q (one {b = c} {bs} r rs))) e =
    rw (pair_lone a b (c ∷ bs) e, byte_clean p) (ap (λ (l : Bytes). a ∷ l) (body_clean (one q (one r rs)) (rest_lone a (b ∷ c ∷ bs) e)))

pub text_clean : (t : Dialect) {bs : Bytes} → quote_of t ≡ QUOTE → AllClean bs → holds_lone bs ≡ false → body_text t bs ≡ bs
text_clean Csvj h c e = body_clean c e
text_clean Tdif h c e = doubled_clean c
text_clean (CsvPlus s) h c e = rw h (doubled_clean c)

-- CSV+ quotes it for the delimiter alone
pub special_clean : (s : Settings) {bs : Bytes} → quote_of (CsvPlus s) ≡ QUOTE → AllClean bs → holds (special s) bs ≡ holds (is_byte (delimiter_of (CsvPlus s))) bs
unfolding holds
special_clean s h none = refl
special_clean s h (one {b} {bs} p r) =
    let no_cr : (b is CR) ≡ false = ne_eqb b CR (λ e. omega (arith, p.least)) in
    let no_lf : (b is LF) ≡ false = ne_eqb b LF (λ e. omega (arith, p.least)) in
    let here : special s b ≡ is_byte (delimiter_of (CsvPlus s)) b = rw (h, p.no_quote, no_cr, no_lf) (simp or-false) in
    rw (here, special_clean s h r)

-- ---- what a clean cell says

string_clean : {bs : Bytes} → AllClean bs → text_of (units between (bs ++ QUOTE ∷ [])) ≡ bs
unfolding units text_of choose◌then◌else◌
string_clean none = refl
string_clean (one {b} {bs} p r) = rw (p.no_quote, p.no_backslash) (ap (λ (l : Bytes). b ∷ l) (string_clean r))

undoubled_clean : {bs : Bytes} → AllClean bs → undouble QUOTE false (bs ++ QUOTE ∷ []) ≡ bs
unfolding undouble choose◌then◌else◌
undoubled_clean none = refl
undoubled_clean (one {b} {bs} p r) = rw p.no_quote (ap (λ (l : Bytes). b ∷ l) (undoubled_clean r))

quoted_content : (d : Dialect) {bs : Bytes} → quote_of d ≡ QUOTE → AllClean bs → content_of d (QUOTE ∷ (bs ++ QUOTE ∷ [])) ≡ bs
unfolding content_of choose◌then◌else◌
quoted_content Csvj h c = string_clean c
quoted_content Tdif h c = undoubled_clean c
quoted_content (CsvPlus s) h c = rw h (undoubled_clean c)

quoted_kind : (d : Dialect) (bs : Bytes) → kind_of d (QUOTE ∷ bs) ≡ Text
unfolding kind_of choose◌then◌else◌
quoted_kind Csvj bs = refl
quoted_kind Tdif bs = refl
quoted_kind (CsvPlus s) bs = refl

bare_begins : {bs : Bytes} → AllClean bs → begins QUOTE bs ≡ false
bare_begins none = refl
bare_begins (one p r) = p.no_quote

bare_content : (d : Dialect) {bs : Bytes} → may_be_empty d ≡ true → quote_of d ≡ QUOTE → AllClean bs → content_of d bs ≡ bs
unfolding content_of choose◌then◌else◌
bare_content Csvj m h c = impossible m
bare_content Tdif m h c = impossible m
bare_content (CsvPlus s) m h none = refl
bare_content (CsvPlus s) m h (one p r) = rw (h, p.no_quote)

bare_kind : (d : Dialect) (bs : Bytes) → may_be_empty d ≡ true → kind_of d bs ≡ Text
unfolding kind_of
bare_kind Csvj bs m = impossible m
bare_kind Tdif bs m = impossible m
bare_kind (CsvPlus s) bs m = refl

-- ---- no lone surrogate

next_followed : {a : ℕ} {bs : Bytes} → EdFollowed (a ∷ bs) → EdFollowed bs
next_followed {a} {bs} f i h e = let g : EdFollows (a ∷ bs) (suc i) = f (suc i) (omega arith) e in
    let n : suc i + 1 ≡ suc (i + 1) = omega arith in
    record { least = rw n at g.least; most = rw n at g.most }

followed_lone : (bs : Bytes) → EdFollowed bs → holds_lone bs ≡ false
unfolding holds_lone choose◌then◌else◌
followed_lone [] f = refl
followed_lone (a ∷ []) f = refl
followed_lone (a ∷ b ∷ bs) f = rw here (followed_lone (b ∷ bs) (next_followed f))
  where
    here : is_surrogate a b ≡ false
    here = split_on (a is 0xED) (λ e. rw (e, lt-leb 0xA0 b (f 0 (omega arith) (is→eq a 0xED e)).most)) (λ e. rw e)

front_lone : (bs cs : Bytes) → holds_lone (bs ++ cs) ≡ false → holds_lone bs ≡ false
unfolding holds_lone choose◌then◌else◌
front_lone [] cs e = refl
front_lone (a ∷ []) cs e = refl
front_lone (a ∷ b ∷ bs) cs e = rw (pair_lone a b (bs ++ cs) e) (front_lone (b ∷ bs) cs (rest_lone a (b ∷ (bs ++ cs)) e))

-- ---- its quotation marks

bare_inside : {bs : Bytes} → AllClean bs → inside_of bs ≡ bs
unfolding inside_of
bare_inside {bs} c = let all : length bs - 0 - 0 ≡ length bs = omega arith in rw (bare_begins c, all) (take-length bs)

quoted_inside : (bs : Bytes) → inside_of (QUOTE ∷ (bs ++ QUOTE ∷ [])) ≡ bs
unfolding inside_of
quoted_inside bs = take_at bs (QUOTE ∷ []) (length (QUOTE ∷ (bs ++ QUOTE ∷ [])) - 1 - 1) (omega (arith, length-append bs (QUOTE ∷ [])))

-- the kind and the content of a verbatim cell
pub record Known (d : Dialect) (raw : Bytes) : Type 0 where
  pub inside : Bytes
  pub clean : AllClean inside
  pub content : content_of d raw ≡ inside
  pub is_text_lem : kind_of d raw ≡ Text
  pub no_lone : holds_lone inside ≡ false
  pub in_marks : quoted_cell raw ≡ QUOTE ∷ (inside ++ QUOTE ∷ [])
  pub without : inside_of raw ≡ inside
  pub closed : begins QUOTE raw ≡ true → 2 ≤ length raw

pub known : (d : Dialect) {raw : Bytes} → quote_of d ≡ QUOTE → CleanCell d raw → EdFollowed raw → Known d raw
unfolding quoted_cell
known d {raw} h (bare m e) f =
    let c : AllClean raw = all_clean raw (rw h at e) in
    record {
      inside = raw;
      clean = c;
      content = bare_content d m h c;
      is_text_lem = bare_kind d raw m;
      no_lone = followed_lone raw f;
      in_marks = rw (bare_begins c);
      without = bare_inside c;
      closed = λ g. impossible (sym (bare_begins c) ∙ g);
    }
known d h (quoted inside e) f =
    let raw : Bytes = QUOTE ∷ (inside ++ QUOTE ∷ []) in
    let c : AllClean inside = all_clean inside (rw h at e) in
    let g : EdFollowed raw = rw h at f in
    rw h
    record {
      inside = inside;
      clean = c;
      content = quoted_content d h c;
      is_text_lem = quoted_kind d (inside ++ QUOTE ∷ []);
      no_lone = front_lone inside (QUOTE ∷ []) (rest_lone QUOTE (inside ++ QUOTE ∷ []) (followed_lone raw g));
      in_marks = append-nil raw;
      without = quoted_inside inside;
      closed = λ _. omega (arith, length-append inside (QUOTE ∷ []));
    }
