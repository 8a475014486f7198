-- The sixteen examples of the rules as one statement, and examples that exclude the mistakes that the rules name.
use Rattle.std.specs.Prelude.{ℕ, ◌≡◌, List, [], ◌∷◌, ◌++◌, map, replicate}
use Rattle.model.specs.rules.Types.{Report}
use Rattle.model.specs.rules.Base.{Bytes}
use Rattle.model.specs.laws.Ascii.{ascii}
use Rattle.model.specs.rules.Names.{fold_point}
use Rattle.model.specs.rules.Report.{report, accepted}
use Rattle.model.specs.rules.Api.{reader, decoder, Decoded, converter, Written, unwritten}
use Rattle.model.specs.rules.Ledger.{piece, finish, ledger}

-- the report of the reader, with lists of 64 places (§17.17)
abbrev pub read : (dialect : ℕ) → Bytes → Report
read d bs = (reader d bs 64).report

-- columns and data records that the reader returns (§17.17)
abbrev pub extent : (dialect : ℕ) → Bytes → ℕ × ℕ
extent d bs = ((reader d bs 64).columns, (reader d bs 64).records)

-- the converter, with 64 bytes of room (§17.17)
abbrev pub convert : (source target : ℕ) → Bytes → Written
convert d t bs = converter d t bs 64

-- the answer of a converter that is accepted and writes these bytes (§17.17)
abbrev pub makes : Bytes → Written
makes bs = record { report = accepted; text = bs }

-- the sixteen examples, e1 to e16 as E1 to E16, as one statement; an example with two answers is a pair. They exclude a
-- reader that refuses everything and one that accepts everything with no cells (§17.17 §19.9)
pub record Sixteen : Type 0 where
  pub e1 : read 1 [] ≡ report 1 1 0 0
  pub e2 : (read 1 (ascii "\n") ≡ accepted) × (extent 1 (ascii "\n") ≡ (0, 0))
  pub e3 : read 1 (ascii "\"a\"") ≡ report 4 1 0 3
  pub e4 : read 1 (ascii "\"a\",\n") ≡ report 3 1 0 4
  pub e5 : read 1 (ascii "\"\",\"\"\n") ≡ report 6 1 2 0
  pub e6 : read 1 (ascii "\"a\"\n01\n") ≡ report 3 2 0 5
  pub e7 : read 1 (ascii "\"a\"\n\n") ≡ report 5 2 0 4
  pub e8 : read 1 (ascii "\"\\u0061\",\"a\"\n") ≡ report 6 1 2 0
  pub e9 : convert 2 1 (ascii "\"a\"\r\n\\N\r") ≡ makes (ascii "\"a\"\nnull\n")
  pub e10 : read 2 (ascii "\"a\"\n\n") ≡ report 3 2 0 4
  pub e11 : (read 1 (ascii "\"a\",\"A\"\n") ≡ accepted) × ((convert 1 2 (ascii "\"a\",\"A\"\n")).report ≡ report 9 1 2 0)
  pub e12 : convert 3 3 (ascii "a\n\n") ≡ makes (0x61 ∷ 0x0D ∷ 0x0A ∷ 0x22 ∷ 0x22 ∷ 0x0D ∷ 0x0A ∷ [])
  pub e13 : read 3 (ascii "a\"") ≡ report 3 1 0 1
  pub e14 : (read 1 (ascii "\"a\"\n\"\\ud83d\"\n") ≡ accepted) × ((convert 1 2 (ascii "\"a\"\n\"\\ud83d\"\n")).report ≡ report 9 2 1 4)
  pub e15 : read 3 (ascii "a\rb") ≡ report 3 1 0 2
  pub e16 : read 2 (ascii "\\N\n") ≡ report 7 1 1 0

-- the decoder, with 64 bytes of room (§18.4)
abbrev pub decode : (dialect : ℕ) → Bytes → Decoded
decode d bs = decoder d bs 64

-- the answer of a decoder that is accepted: the kind and the content (§18.4)
abbrev pub decodes : (kind : ℕ) → Bytes → Decoded
decodes k bs = record { report = accepted; kind = k; content = bs }

-- a CSV+ file of one cell of n bytes, and another byte after them, which may be the first too many (§7.6)
abbrev pub long_cell : (n b : ℕ) → Bytes
long_cell n b = replicate n 0x61 ++ (b ∷ [])

-- the ledger's answers to a file that is cut in two: a call for each piece, and the end call, all with room enough (§18.1
-- §18.4)
abbrev pub cut_in_two : (source target : ℕ) → (before after : Bytes) → List Written
cut_in_two d t before after = ledger d t (piece before 49152 ∷ piece after 49152 ∷ finish 49152 ∷ [])

-- the answers of calls that are all accepted: what each writes (§18.1 §18.4)
abbrev pub writes : (first second end : Bytes) → List Written
writes a b c = makes a ∷ makes b ∷ makes c ∷ []

-- examples that exclude the mistakes that the rules name, and others like them, each by an answer that the mistake would change
-- (§18.1 §18.2 §18.3 §18.4)
pub record Mistakes : Type 0 where
  -- a CR at the end of a CSVJ file is no ending (§6.25)
  pub lone_cr : (read 1 (ascii "\"a\"\r") ≡ report 4 1 0 4) × (read 1 (ascii "\r") ≡ report 4 1 0 1)
  -- header names are compared by content: the second is an a written as an escape (§18.2)
  pub raw_names : read 1 (ascii "\"a\",\"\\u0061\"\n") ≡ report 6 1 2 0
  -- the borders of the capital letters in the fold that no call uses yet, and what is no capital between them (§4.10)
  pub fold_borders :
      map fold_point
      (0x40 ∷ 0x41 ∷ 0x5A ∷ 0x5B ∷ 0xBF ∷ 0xC0 ∷ 0xD6 ∷ 0xD7 ∷ 0xD8 ∷ 0xDE ∷ 0xDF ∷ 0x390 ∷ 0x391 ∷ 0x3A1 ∷ 0x3A2 ∷ 0x3A3 ∷ 0x3A9 ∷ 0x3AA
      ∷ 0x3C1 ∷ 0x3C2 ∷ 0x3C3 ∷ 0x3FF ∷ 0x400 ∷ 0x40F ∷ 0x410 ∷ 0x42F ∷ 0x430 ∷ [])
      ≡ 0x40 ∷ 0x61 ∷ 0x7A ∷ 0x5B ∷ 0xBF ∷ 0xE0 ∷ 0xF6 ∷ 0xD7 ∷ 0xF8 ∷ 0xFE ∷ 0xDF ∷ 0x390 ∷ 0x3B1 ∷ 0x3C1 ∷ 0x3A2 ∷ 0x3C3 ∷ 0x3C9 ∷ 0x3AA
      ∷ 0x3C1 ∷ 0x3C3 ∷ 0x3C3 ∷ 0x3FF ∷ 0x450 ∷ 0x45F ∷ 0x430 ∷ 0x44F ∷ 0x430 ∷ []
  -- an empty one-column CSV+ record is written as two quotes (§18.3)
  pub empty_record : convert 1 3 (ascii "\"a\"\n\"\"\n") ≡ makes (ascii "a\r\n\"\"\r\n")
  -- two escape halves are one code point (§2.8)
  pub halves_joined : decode 1 (ascii "\"\\ud83d\\ude00\"") ≡ decodes 1 (0xF0 ∷ 0x9F ∷ 0x98 ∷ 0x80 ∷ [])
  -- a comment is no record (§6.17)
  pub comment_uncounted : (extent 2 (ascii "#x\n\"a\"\n#y\r\n") ≡ (1, 0)) × (read 2 (ascii "#x\n\"a\"\n\n") ≡ report 3 2 0 7)
  -- with 4,096 bytes counted, a byte that would be 3 is 8 (§7.6)
  pub limit_first : (read 3 (long_cell 4096 0x22) ≡ report 8 1 0 4096) × (read 3 (long_cell 4095 0x22) ≡ report 3 1 0 4095)
  -- inside quotes the byte order mark is ordinary text (§5.9)
  pub mark_in_quotes : convert 3 3 (0x22 ∷ 0xEF ∷ 0xBB ∷ 0xBF ∷ 0x22 ∷ []) ≡ makes (0x22 ∷ 0xEF ∷ 0xBB ∷ 0xBF ∷ 0x22 ∷ 0x0D ∷ 0x0A ∷ [])
  -- an LF after a CR that ended a TDIF record is no empty line (§4.2)
  pub crlf_ends_once : extent 2 (ascii "\"a\"\r\n\"b\"\r\n") ≡ (1, 1)
  -- a CR at the end of a CSVJ piece completes nothing: its LF in the next piece does, and any other byte is 3 (§18.1)
  pub cr_before_cut :
      (cut_in_two 1 1 (ascii "\"a\"\r") (ascii "\n\"b\"\n") ≡ writes [] (ascii "\"a\"\n\"b\"\n") [])
      × (cut_in_two 1 1 (ascii "\"a\"\r") (ascii "\"b\"\n") ≡ makes [] ∷ unwritten (report 3 1 0 4) ∷ unwritten (report 3 1 0 4) ∷ [])
  -- a CR at the end of a TDIF piece completes a record at once, and the LF at the start of the next piece is no empty line (§18.1)
  pub lf_after_cut : cut_in_two 2 1 (ascii "\"a\"\r") (ascii "\n\\N\r") ≡ writes (ascii "\"a\"\n") (ascii "null\n") []
  -- two escape halves with a cut between them are one code point (§18.4)
  pub halves_cut :
      cut_in_two 1 2 (ascii "\"a\"\n\"\\ud83d") (ascii "\\ude00\"\n")
      ≡ writes (ascii "\"a\"\n") (0x22 ∷ 0xF0 ∷ 0x9F ∷ 0x98 ∷ 0x80 ∷ 0x22 ∷ 0x0A ∷ []) []
