-- The ABNF of RFC 4180, as source document 003 prints it, production by production in its order, with the rules' departures (§1.6) and
-- with a delimiter and a quote that are set (§5.12). Its CR and LF are those of Rfc5234. By form alone: equal counts and distinct names
-- are left to faults 5 and 6.
use Rattle.std.specs.Prelude.{ℕ, ◌≢◌, List, [], ◌∷◌, ◌++◌}
use Rattle.grammar.specs.rfc.Types.{Settings}
use Rattle.grammar.specs.rfc.Types as types
use Rattle.model.specs.rules.Base.{Bytes}
use Rattle.model.specs.rules.Dialect.{delimiter_byte, quote_byte}
use Rattle.grammar.specs.rfc.Rfc5234.{◌from◌to◌, CR, LF}
use Rattle.grammar.specs.rfc.Rfc5234 as core
use Rattle.grammar.specs.rfc.Rfc3629.{UTF8-data}
use Rattle.grammar.specs.rfc.Derived.{Derived, cell, Line, line}

-- EF BB BF first
pub data BeginsWithBom : Bytes → Type 0 where
  bom : {xs : Bytes} → BeginsWithBom (0xEF ∷ 0xBB ∷ 0xBF ∷ xs)

module _ (s : Settings) where
  mutual
    -- file = [header CRLF] record *(CRLF record) [CRLF]. The rules depart: the header is required and the records may be none (§2.1),
    -- and the file does not begin with the byte order mark (§5.9)
    pub data File : Bytes → List (Line Derived) → Type 0 where
      file : {xs : Bytes} {ls : List (Line Derived)} → ¬ BeginsWithBom xs → Table xs ls → File xs ls

    -- header [CRLF [record *(CRLF record) [CRLF]]]
    -- Where this could be read as a last empty record or as none, the rules have none: the last ending may be missing, but the end
    -- directly after an ending starts no record (§5.1 §5.2), and a file of no bytes has none (§6.1). So a record with no ending is not
    -- empty
    pub data Table : Bytes → List (Line Derived) → Type 0 where
      header_unended : {b : ℕ} {text : Bytes} {cells : List Derived} → Header (b ∷ text) cells → Table (b ∷ text) (line (b ∷ text) cells ∷ [])
      header_alone : {text es : Bytes} {cells : List Derived} → Header text cells → CRLF es → Table (text ++ es) (line text cells ∷ [])
      header_then :
          {text es xs : Bytes} {cells : List Derived} {ls : List (Line Derived)} → Header text cells → CRLF es → Records xs ls →
          Table (text ++ (es ++ xs)) (line text cells ∷ ls)

    -- record *(CRLF record) [CRLF], with the same departure at its end
    pub data Records : Bytes → List (Line Derived) → Type 0 where
      unended : {b : ℕ} {text : Bytes} {cells : List Derived} → Record (b ∷ text) cells → Records (b ∷ text) (line (b ∷ text) cells ∷ [])
      last : {text es : Bytes} {cells : List Derived} → Record text cells → CRLF es → Records (text ++ es) (line text cells ∷ [])
      next :
          {text es xs : Bytes} {cells : List Derived} {ls : List (Line Derived)} → Record text cells → CRLF es → Records xs ls →
          Records (text ++ (es ++ xs)) (line text cells ∷ ls)

    -- header = name *(COMMA name)
    pub data Header : Bytes → List Derived → Type 0 where
      a_name : {raw content : Bytes} {kind : types.Kind} → Name (cell raw kind content) → Header raw (cell raw kind content ∷ [])
      names :
          {raw content text : Bytes} {kind : types.Kind} {b : ℕ} {cells : List Derived} → Name (cell raw kind content) → COMMA b →
          Header text cells → Header (raw ++ (b ∷ text)) (cell raw kind content ∷ cells)

    -- record = field *(COMMA field). An empty line is one empty field (§5.6)
    pub data Record : Bytes → List Derived → Type 0 where
      field : {raw content : Bytes} {kind : types.Kind} → Field (cell raw kind content) → Record raw (cell raw kind content ∷ [])
      fields :
          {raw content text : Bytes} {kind : types.Kind} {b : ℕ} {cells : List Derived} → Field (cell raw kind content) → COMMA b →
          Record text cells → Record (raw ++ (b ∷ text)) (cell raw kind content ∷ cells)

    -- name = field
    pub data Name : Derived → Type 0 where
      name : {c : Derived} → Field c → Name c

    -- field = (escaped / non-escaped). Spaces belong to the field, and none is beside an escaped one (§5.8)
    pub data Field : Derived → Type 0 where
      an_escaped : {bs ts : Bytes} → Escaped bs ts → Field (cell bs types.Text ts)
      a_non_escaped : {bs : Bytes} → Non-escaped bs → Field (cell bs types.Text bs)

    -- escaped = DQUOTE *(TEXTDATA / COMMA / CR / LF / 2DQUOTE) DQUOTE
    pub data Escaped : (raw content : Bytes) → Type 0 where
      escaped : {q r : ℕ} {bs ts : Bytes} → DQUOTE q → Inner bs ts → DQUOTE r → Escaped (q ∷ (bs ++ (r ∷ []))) ts

    -- *(TEXTDATA / COMMA / CR / LF / 2DQUOTE), and the content that it denotes: two quotes are one (§5.4)
    pub data Inner : (raw content : Bytes) → Type 0 where
      nothing : Inner [] []
      inner_textdata : {cs bs ts : Bytes} → TEXTDATA cs → Inner bs ts → Inner (cs ++ bs) (cs ++ ts)
      inner_comma : {b : ℕ} {bs ts : Bytes} → COMMA b → Inner bs ts → Inner (b ∷ bs) (b ∷ ts)
      inner_cr : {bs ts : Bytes} → Inner bs ts → Inner (CR ∷ bs) (CR ∷ ts)
      inner_lf : {bs ts : Bytes} → Inner bs ts → Inner (LF ∷ bs) (LF ∷ ts)
      two_quotes : {q r : ℕ} {bs ts : Bytes} → DQUOTE q → DQUOTE r → Inner bs ts → Inner (q ∷ r ∷ bs) (q ∷ ts)

    -- non-escaped = *TEXTDATA
    pub data Non-escaped : Bytes → Type 0 where
      no_textdata : Non-escaped []
      textdata : {cs bs : Bytes} → TEXTDATA cs → Non-escaped bs → Non-escaped (cs ++ bs)

    -- COMMA = %x2C, in dialect 3. Source document 003 lets it be set: "The separator between cells. The default is ,"
    pub data COMMA : ℕ → Type 0 where
      comma : COMMA (delimiter_byte s.delimiter)

    -- CR = %x0D

    -- DQUOTE = %x22, in dialect 3. Source document 003 lets it be set: "The character that is used around escaped cells"
    pub data DQUOTE : ℕ → Type 0 where
      dquote : DQUOTE (quote_byte s.quote)

    -- LF = %x0A

    -- CRLF = CR LF. The rules depart, and hold against it: LF alone ends a record too (§1.6 §5.1)
    pub data CRLF : Bytes → Type 0 where
      lf : CRLF (LF ∷ [])
      crlf : CRLF core.CRLF

    -- TEXTDATA = %x20-21 / %x23-2B / %x2D-7E. The rules depart: any UTF-8 but the quote, the delimiter, CR and LF
    -- (§5.5)
    pub data TEXTDATA : Bytes → Type 0 where
      ascii :
          {b : ℕ} → b from 0x00 to 0x7F → b ≢ quote_byte s.quote → b ≢ delimiter_byte s.delimiter → b ≢ CR → b ≢ LF →
          TEXTDATA (b ∷ [])
      utf8_data : {cs : Bytes} → UTF8-data cs → TEXTDATA cs

-- TEXTDATA as RFC 4180 has it
pub data NarrowTEXTDATA : Bytes → Type 0 where
  below_quote : {b : ℕ} → b from 0x20 to 0x21 → NarrowTEXTDATA (b ∷ [])
  below_comma : {b : ℕ} → b from 0x23 to 0x2B → NarrowTEXTDATA (b ∷ [])
  above_comma : {b : ℕ} → b from 0x2D to 0x7E → NarrowTEXTDATA (b ∷ [])
