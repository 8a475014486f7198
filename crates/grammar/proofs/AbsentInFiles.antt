-- The productions make none of the mistakes (`FileMistakes`), by case analysis of each production; no automaton takes part. It is
-- checked before the theorems of this crate, so that a production that is widened to make one is refused here, at the law of that
-- name, or in `Terminators.antt`. `Absent.antt` puts the laws together, so nothing here rests on one of them.
use Prim.Native.Nat.{ℕ, ◌+◌, ◌≤◌}
use native.Mathlib.Omega.{arith}
use mathlib.Core.Path.{◌≡◌, refl, ap, ◌∙◌}
use mathlib.Core.Logic.{◌≢◌}
use mathlib.Core.List.{List, [], ◌∷◌, ◌++◌}
use lib.ListN.{length, length-append}
use Rattle.grammar.specs.rfc.Types.{Kind}
use Rattle.model.specs.rules.Base.{Bytes}
use Rattle.model.specs.rules.Dialect.{standard}
use Rattle.grammar.specs.rfc.Rfc5234.{◌from◌to◌, LF}
use Rattle.grammar.specs.rfc.Rfc3629.{c2_df, e0, e1_ec, ed, ee_ef, f0, f1_f3, f4, UTF8-tail, tail, UTF8-data, of_two, of_three, of_four}
use Rattle.grammar.specs.rfc.Derived.{Derived, cell, Line, text_in, Every, every_none, every_cons}
use Rattle.grammar.specs.dialects.Csvj as csvj
use Rattle.grammar.specs.dialects.Tdif as tdif
use Rattle.grammar.specs.dialects.CsvPlus as plus
use Rattle.grammar.proofs.Terminators.{terminator_short, last_of, last_on, terminator_last}

-- ---- TDIF: a line begins with #, a quote or a backslash

pub data Opens : Bytes → Type 0 where
  with_hash : {xs : Bytes} → Opens (0x23 ∷ xs)
  with_quote : {xs : Bytes} → Opens (0x22 ∷ xs)
  with_backslash : {xs : Bytes} → Opens (0x5C ∷ xs)

opens_on : {xs : Bytes} (ys : Bytes) → Opens xs → Opens (xs ++ ys)
opens_on ys with_hash = with_hash
opens_on ys with_quote = with_quote
opens_on ys with_backslash = with_backslash

field_opens : {raw content : Bytes} {kind : Kind} → tdif.Field (cell raw kind content) → Opens raw
field_opens (tdif.a_null tdif.null) = with_backslash
field_opens (tdif.a_value (tdif.value i)) = with_quote

fields_open : {text : Bytes} {cells : List Derived} → tdif.Fields text cells → Opens text
fields_open (tdif.field v) = field_opens v
fields_open (tdif.fields {text} {b} v c f) = opens_on (b ∷ text) (field_opens v)

record_opens : {bs : Bytes} {l : Line Derived} → tdif.Record bs l → Opens bs
record_opens (tdif.ended {es} f e) = opens_on es (fields_open f)

comment_opens : {cs : Bytes} → tdif.Comment cs → Opens cs
comment_opens (tdif.comment tdif.hash m e) = with_hash

pub data Lined : Bytes → Type 0 where
  nothing : Lined []
  a_line : {xs : Bytes} → Opens xs → Lined xs

pub empty_line : {xs : Bytes} {ls : List (Line Derived)} → tdif.Lines xs ls → Lined xs
empty_line tdif.no_line = nothing
empty_line (tdif.a_comment {xs} c k) = a_line (opens_on xs (comment_opens c))
empty_line (tdif.a_record {xs} r k) = a_line (opens_on xs (record_opens r))

-- LF opens no line
pub no_empty_line : Lined (0x0A ∷ []) → ⊥
no_empty_line (a_line o) = elim o [ ]

-- ---- CSV+ has no byte order mark

pub mark_first : (xs : Bytes) (ls : List (Line Derived)) → plus.File standard (0xEF ∷ 0xBB ∷ 0xBF ∷ xs) ls → ⊥
mark_first xs ls (plus.file n k) = n plus.bom

-- ---- CSVJ: a line's text is all but its ending, and lines end

-- all of a line but two bytes at most is its text
pub blanks_uncounted : {bs : Bytes} {l : Line Derived} → csvj.Line bs l → length bs ≤ length (text_in l) + 2
blanks_uncounted (csvj.ended {text} {es} t e) = let h = terminator_short e in rw (length-append text es) (omega arith)

-- a line's last byte is LF, whatever byte is before it
line_last : {bs : Bytes} {l : Line Derived} (b : ℕ) → csvj.Line bs l → last_of b bs ≡ LF
line_last b (csvj.ended {text} {es} t e) = last_on b text es ∙ terminator_last (last_of b text) e

-- so is that of data lines
pub missing_ending : {xs : Bytes} {ls : List (Line Derived)} → csvj.Data-lines xs ls → last_of LF xs ≡ LF
unfolding last_of
missing_ending csvj.no_line = refl
missing_ending (csvj.a_line {bs} {xs} (csvj.data_line l) k) =
    last_on LF bs xs ∙ ap (λ b. last_of b xs) (line_last LF l) ∙ missing_ending k

-- ---- text that holds no quote

data Clear : Bytes → Type 0 where
  clear : {b : ℕ} {bs : Bytes} → b ≢ 0x22 → Every (λ b. b ≢ 0x22) bs → Clear (b ∷ bs)

above : {b lo hi : ℕ} → 0x23 ≤ lo → b from lo to hi → b ≢ 0x22
above {b} {lo} h r e = let k : lo ≤ b = r.low in omega arith

tail_clear : {b : ℕ} → UTF8-tail b → b ≢ 0x22
tail_clear (tail r) = above (omega arith) r

one_clear : {b : ℕ} → UTF8-tail b → Every (λ b. b ≢ 0x22) (b ∷ [])
one_clear t = every_cons (tail_clear t) every_none

two_clear : {b c : ℕ} → UTF8-tail b → UTF8-tail c → Every (λ b. b ≢ 0x22) (b ∷ c ∷ [])
two_clear t u = every_cons (tail_clear t) (one_clear u)

beyond_clear : {cs : Bytes} → UTF8-data cs → Clear cs
beyond_clear (of_two (c2_df r t)) = clear (above (omega arith) r) (one_clear t)
beyond_clear (of_three (e0 r t)) = clear {b = 0xE0} (λ e. omega arith) (every_cons (above (omega arith) r) (one_clear t))
beyond_clear (of_three (e1_ec r t u)) = clear (above (omega arith) r) (two_clear t u)
beyond_clear (of_three (ed r t)) = clear {b = 0xED} (λ e. omega arith) (every_cons (above (omega arith) r) (one_clear t))
beyond_clear (of_three (ee_ef r t u)) = clear (above (omega arith) r) (two_clear t u)
beyond_clear (of_four (f0 r t u)) = clear {b = 0xF0} (λ e. omega arith) (every_cons (above (omega arith) r) (two_clear t u))
beyond_clear (of_four (f1_f3 r t u v)) = clear (above (omega arith) r) (every_cons (tail_clear t) (two_clear u v))
beyond_clear (of_four (f4 r t u)) = clear {b = 0xF4} (λ e. omega arith) (every_cons (above (omega arith) r) (two_clear t u))

-- ---- TDIF: two quotes denote one

textdata_clear : {cs : Bytes} → tdif.Textdata cs → Clear cs
textdata_clear (tdif.below_quote {b} r) = let h : b ≤ 0x21 = r.high in clear {b = b} (λ e. omega arith) every_none
textdata_clear (tdif.above_quote r) = clear (above (omega arith) r) every_none
textdata_clear (tdif.text_beyond u) = beyond_clear u

-- such text is not nothing, and begins with no quote
clear_some : {cs : Bytes} (bs : Bytes) → Clear cs → cs ++ bs ≢ []
clear_some bs (clear n m) e = let z : ◌≡◌ {A = ℕ} 0 1 = cc in omega arith

clear_first : {cs : Bytes} (bs xs : Bytes) → Clear cs → cs ++ bs ≢ 0x22 ∷ xs
clear_first bs xs (clear n m) e = n cc

inner_none : {bs ts : Bytes} → tdif.Inner bs ts → bs ≡ [] → ts ≡ []
inner_none tdif.nothing e = refl
inner_none (tdif.textdata {bs} t i) e = absurd (clear_some bs (textdata_clear t) e)
inner_none (tdif.two_quotes i) e = let z : ◌≡◌ {A = ℕ} 0 1 = cc in absurd (omega arith)

pub two_quotes : {bs ts : Bytes} → tdif.Inner bs ts → bs ≡ 0x22 ∷ 0x22 ∷ [] → ts ≡ 0x22 ∷ []
two_quotes tdif.nothing e = let z : ◌≡◌ {A = ℕ} 0 1 = cc in absurd (omega arith)
two_quotes (tdif.textdata {bs} t i) e = absurd (clear_first bs (0x22 ∷ []) (textdata_clear t) e)
two_quotes (tdif.two_quotes {bs} i) e = let z : bs ≡ [] = cc in ap (λ ts. 0x22 ∷ ts) (inner_none i z)

-- ---- CSV+: a field that holds a quote begins and ends with one

escaped_first : {b : ℕ} {bs ts : Bytes} → plus.Escaped standard (b ∷ bs) ts → b ≡ 0x22
escaped_first (plus.escaped plus.dquote i r) = refl

escaped_last : {bs ts : Bytes} → plus.Escaped standard bs ts → last_of 0x22 bs ≡ 0x22
unfolding last_of
escaped_last (plus.escaped {bs} plus.dquote i plus.dquote) = last_on 0x22 bs (0x22 ∷ [])

clear_on : {cs bs : Bytes} → Clear cs → Every (λ b. b ≢ 0x22) bs → Every (λ b. b ≢ 0x22) (cs ++ bs)
clear_on {bs} (clear n m) k = every_cons n (go m)
  where
    go : {cs : Bytes} → Every (λ b. b ≢ 0x22) cs → Every (λ b. b ≢ 0x22) (cs ++ bs)
    go every_none = k
    go (every_cons n m) = every_cons n (go m)

plain_clear : {bs : Bytes} → plus.Non-escaped standard bs → Every (λ b. b ≢ 0x22) bs
plain_clear plus.no_textdata = every_none
plain_clear (plus.textdata (plus.ascii r q c x y) m) = every_cons q (plain_clear m)
plain_clear (plus.textdata (plus.utf8_data u) m) = clear_on (beyond_clear u) (plain_clear m)

-- ` "a"`
pub space_before : {kind : Kind} {content : Bytes} → plus.Field standard (cell (0x20 ∷ 0x22 ∷ 0x61 ∷ 0x22 ∷ []) kind content) → ⊥
space_before (plus.an_escaped e) = let h : ◌≡◌ {A = ℕ} 0x20 0x22 = escaped_first e in omega arith
space_before (plus.a_non_escaped m) = go (plain_clear m)
  where
    go : {b : ℕ} {bs : Bytes} → Every (λ b. b ≢ 0x22) (b ∷ 0x22 ∷ bs) → ⊥
    go (every_cons n (every_cons m k)) = m refl

-- `"a" `
pub space_after : {kind : Kind} {content : Bytes} → plus.Field standard (cell (0x22 ∷ 0x61 ∷ 0x22 ∷ 0x20 ∷ []) kind content) → ⊥
unfolding last_of
space_after (plus.an_escaped e) = let h : ◌≡◌ {A = ℕ} 0x20 0x22 = escaped_last e in omega arith
space_after (plus.a_non_escaped m) = go (plain_clear m)
  where
    go : {bs : Bytes} → Every (λ b. b ≢ 0x22) (0x22 ∷ bs) → ⊥
    go (every_cons n k) = n refl
