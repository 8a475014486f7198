-- The ABNF of TDIF (source document 004), production by production in its order. Its last five, LF, CR, CRLF, DQUOTE and UTF8-data, are
-- those of Rfc5234 and Rfc3629. By form alone: equal counts and distinct names are left to faults 5 and 6.
use Rattle.std.specs.Prelude.{ℕ, List, [], ◌∷◌, ◌++◌}
use Rattle.grammar.specs.rfc.Types as types
use Rattle.model.specs.rules.Base.{Bytes}
use Rattle.grammar.specs.rfc.Rfc5234.{◌from◌to◌, CR, CRLF, DQUOTE, LF}
use Rattle.grammar.specs.rfc.Rfc3629.{UTF8-data}
use Rattle.grammar.specs.rfc.Derived.{Derived, cell, Line, line}

mutual
  -- file = *comment header *(comment / record)
  pub data File : Bytes → List (Line Derived) → Type 0 where
    comment_first : {cs xs : Bytes} {ls : List (Line Derived)} → Comment cs → File xs ls → File (cs ++ xs) ls
    header_first : {bs xs : Bytes} {l : Line Derived} {ls : List (Line Derived)} → Header bs l → Lines xs ls → File (bs ++ xs) (l ∷ ls)

  -- *(comment / record)
  pub data Lines : Bytes → List (Line Derived) → Type 0 where
    no_line : Lines [] []
    a_comment : {cs xs : Bytes} {ls : List (Line Derived)} → Comment cs → Lines xs ls → Lines (cs ++ xs) ls
    a_record : {bs xs : Bytes} {l : Line Derived} {ls : List (Line Derived)} → Record bs l → Lines xs ls → Lines (bs ++ xs) (l ∷ ls)

  -- header = value *(comma value) linebreak
  -- The rules depart: a header is a record by form, and `\N` in it is left to fault 7 (§4.8 §6.3)
  pub data Header : Bytes → Line Derived → Type 0 where
    header : {bs : Bytes} {l : Line Derived} → Record bs l → Header bs l

  -- record = field *(comma field) linebreak
  pub data Record : Bytes → Line Derived → Type 0 where
    ended : {text es : Bytes} {cells : List Derived} → Fields text cells → Linebreak es → Record (text ++ es) (line text cells)

  -- field *(comma field)
  pub data Fields : Bytes → List Derived → Type 0 where
    field : {raw content : Bytes} {kind : types.Kind} → Field (cell raw kind content) → Fields raw (cell raw kind content ∷ [])
    fields :
        {raw content text : Bytes} {kind : types.Kind} {b : ℕ} {cells : List Derived} → Field (cell raw kind content) → Comma b →
        Fields text cells → Fields (raw ++ (b ∷ text)) (cell raw kind content ∷ cells)

  -- field = null / value
  pub data Field : Derived → Type 0 where
    a_null : {bs : Bytes} → Null bs → Field (cell bs types.Null [])
    a_value : {bs ts : Bytes} → Value bs ts → Field (cell bs types.Text ts)

  -- value = DQUOTE *(textdata / 2DQUOTE) DQUOTE
  pub data Value : (raw content : Bytes) → Type 0 where
    value : {bs ts : Bytes} → Inner bs ts → Value (DQUOTE ∷ (bs ++ (DQUOTE ∷ []))) ts

  -- *(textdata / 2DQUOTE), and the content that it denotes: two quotes are one (§4.4)
  pub data Inner : (raw content : Bytes) → Type 0 where
    nothing : Inner [] []
    textdata : {cs bs ts : Bytes} → Textdata cs → Inner bs ts → Inner (cs ++ bs) (cs ++ ts)
    two_quotes : {bs ts : Bytes} → Inner bs ts → Inner (DQUOTE ∷ DQUOTE ∷ bs) (DQUOTE ∷ ts)

  -- textdata = %x00-21 / %x23-7F / UTF8-data
  pub data Textdata : Bytes → Type 0 where
    below_quote : {b : ℕ} → b from 0x00 to 0x21 → Textdata (b ∷ [])
    above_quote : {b : ℕ} → b from 0x23 to 0x7F → Textdata (b ∷ [])
    text_beyond : {cs : Bytes} → UTF8-data cs → Textdata cs

  -- comment = hash *commentdata linebreak
  pub data Comment : Bytes → Type 0 where
    comment : {b : ℕ} {bs es : Bytes} → Hash b → Remark bs → Linebreak es → Comment (b ∷ (bs ++ es))

  -- *commentdata
  pub data Remark : Bytes → Type 0 where
    no_remark : Remark []
    commentdata : {cs bs : Bytes} → Commentdata cs → Remark bs → Remark (cs ++ bs)

  -- commentdata = %x00-09 / %x0B-0C / %x0E-7F / UTF8-data
  pub data Commentdata : Bytes → Type 0 where
    below_lf : {b : ℕ} → b from 0x00 to 0x09 → Commentdata (b ∷ [])
    below_cr : {b : ℕ} → b from 0x0B to 0x0C → Commentdata (b ∷ [])
    above_cr : {b : ℕ} → b from 0x0E to 0x7F → Commentdata (b ∷ [])
    comment_beyond : {cs : Bytes} → UTF8-data cs → Commentdata cs

  -- null = %x5C.4E
  pub data Null : Bytes → Type 0 where
    null : Null (0x5C ∷ 0x4E ∷ [])

  -- comma = %x2C
  pub data Comma : ℕ → Type 0 where
    comma : Comma 0x2C

  -- hash = %x23
  pub data Hash : ℕ → Type 0 where
    hash : Hash 0x23

  -- linebreak = CR / LF / CRLF
  pub data Linebreak : Bytes → Type 0 where
    cr : Linebreak (CR ∷ [])
    lf : Linebreak (LF ∷ [])
    crlf : Linebreak CRLF

-- LF = %x0A, CR = %x0D, CRLF = CR LF, DQUOTE = %x22, UTF8-data = UTF8-2 / UTF8-3 / UTF8-4
