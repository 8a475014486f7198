-- The grammar of the CSVJ page (source document 000), production by production in its order, with the values of RFC 8259. Its LF and
-- CRLF are those of Rfc5234. By form alone: the page leaves equal counts and distinct names to its rules 3 and 4, and these rules
-- to faults 5 and 6; that header values are strings is left to fault 7 (§6.3).
use Rattle.std.specs.Prelude.{List, [], ◌∷◌, ◌++◌}
use Rattle.grammar.specs.rfc.Types as types
use Rattle.model.specs.rules.Base.{Bytes}
use Rattle.grammar.specs.rfc.Rfc5234.{CRLF, LF}
use Rattle.grammar.specs.rfc.Rfc8259 as json
use Rattle.grammar.specs.rfc.Derived.{Derived, cell}
use Rattle.grammar.specs.rfc.Derived as derived

mutual
  -- The file, with or without a byte order mark. The page says so beside its ABNF: a parser "may ignore one if present at the start
  -- of input"; here it is skipped (§3.8)
  pub data File : Bytes → List (derived.Line Derived) → Type 0 where
    unmarked : {xs : Bytes} {ls : List (derived.Line Derived)} → Csvj-file xs ls → File xs ls
    marked : {xs : Bytes} {ls : List (derived.Line Derived)} → Csvj-file xs ls → File (0xEF ∷ 0xBB ∷ 0xBF ∷ xs) ls

  -- csvj-file = header-line *data-line
  pub data Csvj-file : Bytes → List (derived.Line Derived) → Type 0 where
    csvj_file_lem :
        {bs xs : Bytes} {l : derived.Line Derived} {ls : List (derived.Line Derived)} → Header-line bs l → Data-lines xs ls →
        Csvj-file (bs ++ xs) (l ∷ ls)

  -- *data-line
  pub data Data-lines : Bytes → List (derived.Line Derived) → Type 0 where
    no_line : Data-lines [] []
    a_line :
        {bs xs : Bytes} {l : derived.Line Derived} {ls : List (derived.Line Derived)} → Data-line bs l → Data-lines xs ls →
        Data-lines (bs ++ xs) (l ∷ ls)

  -- header-line = line
  pub data Header-line : Bytes → derived.Line Derived → Type 0 where
    header_line : {bs : Bytes} {l : derived.Line Derived} → Line bs l → Header-line bs l

  -- data-line = line
  pub data Data-line : Bytes → derived.Line Derived → Type 0 where
    data_line : {bs : Bytes} {l : derived.Line Derived} → Line bs l → Data-line bs l

  -- line = ws [ value *( comma value ) ] ws line-terminator
  pub data Line : Bytes → derived.Line Derived → Type 0 where
    ended :
        {text es : Bytes} {cells : List Derived} → Line-text text cells → Line-terminator es → Line (text ++ es) (derived.line text cells)

  -- ws [ value *( comma value ) ] ws
  pub data Line-text : Bytes → List Derived → Type 0 where
    empty : {ws vs : Bytes} → Ws ws → Ws vs → Line-text (ws ++ vs) []
    filled : {ws vs text : Bytes} {cells : List Derived} → Ws ws → Values text cells → Ws vs → Line-text (ws ++ (text ++ vs)) cells

  -- value *( comma value )
  pub data Values : Bytes → List Derived → Type 0 where
    value : {raw content : Bytes} {kind : types.Kind} → Value (cell raw kind content) → Values raw (cell raw kind content ∷ [])
    values :
        {raw content cs text : Bytes} {kind : types.Kind} {cells : List Derived} → Value (cell raw kind content) → Comma cs →
        Values text cells → Values (raw ++ (cs ++ text)) (cell raw kind content ∷ cells)

  -- comma = ws %x2C ws
  pub data Comma : Bytes → Type 0 where
    comma : {ws vs : Bytes} → Ws ws → Ws vs → Comma (ws ++ (0x2C ∷ vs))

  -- line-terminator = LF / CRLF
  pub data Line-terminator : Bytes → Type 0 where
    lf : Line-terminator (LF ∷ [])
    crlf : Line-terminator CRLF

  -- LF = %x0A

  -- CRLF = %x0D.0A

  -- value = false / null / true / number / string; a number's content is its spelling (§2.4)
  pub data Value : Derived → Type 0 where
    a_false : {bs : Bytes} → json.False bs → Value (cell bs types.False [])
    a_null : {bs : Bytes} → json.Null bs → Value (cell bs types.Null [])
    a_true : {bs : Bytes} → json.True bs → Value (cell bs types.True [])
    a_number : {bs : Bytes} → json.Number bs → Value (cell bs types.Number bs)
    a_string : {bs ts : Bytes} → json.String bs ts → Value (cell bs types.Text ts)

  -- ws = *( %x20 / %x09 )
  pub data Ws : Bytes → Type 0 where
    no_ws : Ws []
    space : {bs : Bytes} → Ws bs → Ws (0x20 ∷ bs)
    tab : {bs : Bytes} → Ws bs → Ws (0x09 ∷ bs)
