-- What is still to come of a file that is read by form, in each state (`ToResult`), over the dialect. A dialect gives the types of
-- what may come where a record begins, after a cell and at the top (`Grammar`), and says what the bytes there do (`Facts`); what
-- comes in every other state follows, in the states that it never reaches too.
use Prim.Native.Nat.{ℕ, ◌≤◌, ◌<◌}
use native.Mathlib.Omega.{arith}
use mathlib.Core.Path.{◌≡◌, refl}
use mathlib.Core.Logic.{◌≢◌}
use mathlib.Core.Bool.{Bool, true, false}
use mathlib.Core.List.{List, [], ◌∷◌, ◌++◌, append_assoc}
use lib.Dec.{leb}
use borrow.Author.Tests.{eqb-false, leb-true, leb-false}
use Rattle.grammar.specs.rfc.Types.{Dialect, EeToEf, Second, Last, Inner, Char, Whole, Within, Option, Some, None, Cell, Fresh, Plain}
use Rattle.grammar.specs.rfc.Types.{FileState, Top, Begin, Ended, Bom1, Bom2, PlainBom1, PlainBom2, Comment, Blanks, ExpectCell, Inside, After}
use Rattle.grammar.specs.rfc.Types.{Cr, Outside, Passed, OfCell, Between, Ends, Step, Ok, Clean}
use Rattle.model.specs.rules.Base.{Bytes, ◌is◌}
use Rattle.model.specs.rules.Utf8.{char_step}
use Rattle.model.specs.rules.File.{is_blank, after_cell, in_cell, begin_record, begin_file, commented, file_step, last_cell, file_end}
use Rattle.model.proofs.Tests.{split, split_on, is→eq}
use Rattle.model.proofs.cell_laws.CellRuns.{bom_rest}
use Rattle.grammar.specs.rfc.Rfc5234.{LF, CR}
use Rattle.grammar.specs.rfc.Derived.{Line, line}
use Rattle.grammar.specs.dialects.FormReads.{Reads}
use Rattle.grammar.specs.dialects.Csvj.{Ws, no_ws, space, tab}
use Rattle.grammar.specs.dialects.Tdif.{Remark, no_remark, commentdata, Commentdata, below_lf, below_cr, above_cr, comment_beyond, Linebreak}
use Rattle.grammar.specs.dialects.Tdif.{cr, lf, crlf}
use Rattle.grammar.proofs.rfc.Ranges.{range}
use Rattle.grammar.proofs.rfc.Chars.{Finishes, finished, finishing, long, long_data, whole_ascii}
use Rattle.grammar.proofs.dialects.FormSteps.{Takes, rejected, by_bytes, cut_off}
use Rattle.grammar.proofs.dialects.FormSteps as steps
use Rattle.grammar.proofs.dialects.CellReads.{CellThen, cell_then, AfterByte, more_cell, in_cell_byte}

-- what bytes give, and what they give after a cell: with the rest of the record's text and its cells
abbrev pub Outcome : Type 1
Outcome = Bytes → List (Line Bytes) → Type 0

abbrev pub CellOutcome : Type 1
CellOutcome = Bytes → Bytes → List Bytes → List (Line Bytes) → Type 0

pub record Grammar : Type 1 where
  -- where a record may begin
  pub Lines : Outcome
  -- at the file's first byte
  pub Tops : Outcome
  -- from a record's first byte, or after blanks that begin one
  pub First : Outcome
  -- after a cell
  pub Further : CellOutcome

-- ---- what comes in each state

module _ (Lines : Outcome) where
  -- the byte order mark without its first byte, and without its second
  pub data MarkRest : Bytes → List (Line Bytes) → Type 0 where
    mark_bb : {xs : Bytes} {ls : List (Line Bytes)} → Lines xs ls → MarkRest (0xBB ∷ 0xBF ∷ xs) ls

  pub data MarkLast : Bytes → List (Line Bytes) → Type 0 where
    mark_bf : {xs : Bytes} {ls : List (Line Bytes)} → Lines xs ls → MarkLast (0xBF ∷ xs) ls

  pub data BreakThen : Bytes → List (Line Bytes) → Type 0 where
    break_then : {es zs : Bytes} {ls : List (Line Bytes)} → Linebreak es → Lines zs ls → BreakThen (es ++ zs) ls

  -- after a CR that ended a line
  pub data AfterBreak : Bytes → List (Line Bytes) → Type 0 where
    skips : {ys : Bytes} {ls : List (Line Bytes)} → Lines ys ls → AfterBreak (LF ∷ ys) ls
    stays : {ys : Bytes} {ls : List (Line Bytes)} → Lines ys ls → AfterBreak ys ls

  pub data InComment (c : Char) : Bytes → List (Line Bytes) → Type 0 where
    in_comment : {cs bs ys : Bytes} {ls : List (Line Bytes)} → Finishes c cs → Remark bs → BreakThen ys ls → InComment c (cs ++ (bs ++ ys)) ls

  -- after a CR that its LF must follow
  pub data AfterCr : Bytes → List (Line Bytes) → Type 0 where
    then_lf : {zs : Bytes} {ls : List (Line Bytes)} → Lines zs ls → AfterCr (LF ∷ zs) (line [] [] ∷ ls)

  pub break_cr : {xs : Bytes} {ls : List (Line Bytes)} → AfterBreak xs ls → BreakThen (CR ∷ xs) ls
  break_cr (skips k) = break_then crlf k
  break_cr (stays k) = break_then cr k

-- blanks, and then a cell
pub data WantedThen (d : Dialect) (Further : CellOutcome) : Bytes → List (Line Bytes) → Type 0 where
  wanted_then :
      {ws xs text : Bytes} {cells : List Bytes} {ls : List (Line Bytes)} → Ws ws → CellThen d Further Fresh xs (line text cells ∷ ls) →
      WantedThen d Further (ws ++ xs) (line (ws ++ text) cells ∷ ls)

-- bytes that complete the byte order mark: after its first, and after its second
pub data CompletesBom : Bytes → Type 0 where
  then_bb : {xs : Bytes} → CompletesBom (0xBB ∷ 0xBF ∷ xs)

pub data EndsBom : Bytes → Type 0 where
  then_bf : {xs : Bytes} → EndsBom (0xBF ∷ xs)

completes_bom : {b : ℕ} {bs : Bytes} → CompletesBom (b ∷ bs) → (b ≡ 0xBB) × EndsBom bs
completes_bom then_bb = (refl, then_bf)

ends_bom : {b : ℕ} {bs : Bytes} → EndsBom (b ∷ bs) → b ≡ 0xBF
ends_bom then_bf = refl

-- an unquoted cell of which the byte order mark's first byte was read, and its second
abbrev pub after_ef : Cell
after_ef = Plain (Within (Second EeToEf))

abbrev pub after_bb : Cell
after_bb = Plain (Within Last)

abbrev pub ToResult : Dialect → Grammar → FileState → Bytes → List (Line Bytes) → Type 0
ToResult d g Top xs ls = g.Tops xs ls
ToResult d g Begin xs ls = g.Lines xs ls
ToResult d g Ended xs ls = AfterBreak g.Lines xs ls
ToResult d g Bom1 xs ls = MarkRest g.Lines xs ls
ToResult d g Bom2 xs ls = MarkLast g.Lines xs ls
ToResult d g PlainBom1 xs ls = (¬ CompletesBom xs) × CellThen d g.Further after_ef xs ls
ToResult d g PlainBom2 xs ls = (¬ EndsBom xs) × CellThen d g.Further after_bb xs ls
ToResult d g (Comment c) xs ls = InComment g.Lines c xs ls
ToResult d g Blanks xs ls = g.First xs ls
ToResult d g ExpectCell xs ls = WantedThen d g.Further xs ls
ToResult d g (Inside c) xs ls = CellThen d g.Further c xs ls
ToResult d g After xs ls = AfterByte g.Further xs false ls
ToResult d g Cr xs ls = AfterCr g.Lines xs ls

-- ---- comments

ascii_commentdata : (b : ℕ) → b ≤ 0x7F → b ≢ LF → b ≢ CR → Commentdata (b ∷ [])
ascii_commentdata b h n m =
    split_on (leb b 0x09) (λ p. below_lf (range (omega arith) (leb-true b 0x09 p))) λ p.
    let i : 0x09 < b = leb-false b 0x09 p in
    split_on (leb b 0x0C) (λ q. below_cr (range (omega arith) (leb-true b 0x0C q))) λ q.
    let j : 0x0C < b = leb-false b 0x0C q in above_cr (range (omega arith) h)

module _ {Lines : Outcome} where
  more_remark :
      (c : Char) (b : ℕ) {xs : Bytes} {ls : List (Line Bytes)} → b ≢ LF → b ≢ CR → char_step Whole b ≡ Some c → InComment Lines c xs ls →
      InComment Lines Whole (b ∷ xs) ls
  more_remark Whole b n m e (in_comment finished k t) = in_comment finished (commentdata (ascii_commentdata b (whole_ascii b e) n m) k) t
  more_remark (Within i) b n m e (in_comment {cs} {bs} {ys} f k t) =
      rw (← (append_assoc cs bs ys)) (in_comment finished (commentdata (comment_beyond (long_data (long e f))) k) t)

  inner_remark :
      {i : Inner} {c : Char} {b : ℕ} {xs : Bytes} {ls : List (Line Bytes)} → char_step (Within i) b ≡ Some c → InComment Lines c xs ls →
      InComment Lines (Within i) (b ∷ xs) ls
  inner_remark e (in_comment f k t) = in_comment (finishing e f) k t

pub blank_ws : (b : ℕ) {ws : Bytes} → is_blank b ≡ true → Ws ws → Ws (b ∷ ws)
blank_ws b p w = split_on (b is 0x20) (λ q. rw (is→eq b 0x20 q) (space w)) λ q. rw (is→eq b 0x09 (rw q at p)) (tab w)

-- ---- a byte

module _ (d : Dialect) (g : Grammar) where
  -- the lines that the bytes after this one give, by the state that it leads to
  abbrev pub Then : Bytes → FileState → List (Line Bytes) → Type 0
  Then bs f ls = ToResult d g f bs ls

  -- a byte after a cell
  abbrev pub AfterFact : Type 0
  AfterFact = (bs : Bytes) (k : Bool) (b : ℕ) (ls : List (Line Bytes)) → Takes (Then bs) b (after_cell d k b) ls → AfterByte g.Further (b ∷ bs) k ls

  pub cell_byte :
      AfterFact → (bs : Bytes) (c : Cell) (b : ℕ) (ls : List (Line Bytes)) → Takes (Then bs) b (in_cell d c b) ls →
      CellThen d g.Further c (b ∷ bs) ls
  cell_byte after bs c b ls t = in_cell_byte (Then bs) c b bs ls (λ e ls k. k) (after bs true b) t

  pub record Facts : Type 0 where
    pub after_byte : AfterFact
    pub first_byte_lem : (bs : Bytes) (b : ℕ) (ls : List (Line Bytes)) → Takes (Then bs) b (begin_record d b) ls → g.First (b ∷ bs) ls
    pub first_line : (bs : Bytes) (b : ℕ) (ls : List (Line Bytes)) → g.First (b ∷ bs) ls → g.Lines (b ∷ bs) ls
    pub top_byte : (bs : Bytes) (b : ℕ) (ls : List (Line Bytes)) → Takes (Then bs) b (begin_file d b) ls → g.Tops (b ∷ bs) ls
    pub no_line : g.Lines [] []
    pub no_top : g.Tops [] []
    pub last_cell_lem : (c : Cell) (ls : List (Line Bytes)) → steps.Finishes (last_cell d c) ls → CellThen d g.Further c [] ls

  module _ (facts : Facts) where
    module _ (bs : Bytes) where
      in_cell_lem : (c : Cell) (b : ℕ) (ls : List (Line Bytes)) → Takes (Then bs) b (in_cell d c b) ls → CellThen d g.Further c (b ∷ bs) ls
      in_cell_lem = cell_byte facts.after_byte bs

      line_byte : (b : ℕ) (ls : List (Line Bytes)) → Takes (Then bs) b (begin_record d b) ls → g.Lines (b ∷ bs) ls
      line_byte b ls t = facts.first_line bs b ls (facts.first_byte_lem bs b ls t)

      skip_taken : {b : ℕ} {ls : List (Line Bytes)} → Takes (Then bs) b (Ok (Begin, Passed)) ls → AfterBreak g.Lines (LF ∷ bs) ls
      skip_taken (steps.passed k) = skips k

      bb_taken : {b : ℕ} {ls : List (Line Bytes)} → Takes (Then bs) b (Ok (Bom2, Outside)) ls → MarkRest g.Lines (0xBB ∷ bs) ls
      bb_taken (steps.outside m) = go m
        where
          go : {xs : Bytes} {ls : List (Line Bytes)} → MarkLast g.Lines xs ls → MarkRest g.Lines (0xBB ∷ xs) ls
          go (mark_bf k) = mark_bb k

      bf_taken : {b : ℕ} {ls : List (Line Bytes)} → Takes (Then bs) b (Ok (Begin, Passed)) ls → MarkLast g.Lines (0xBF ∷ bs) ls
      bf_taken (steps.passed m) = mark_bf m

      plain_taken : {ls : List (Line Bytes)} → Takes (Then bs) 0xBB (Ok (PlainBom2, OfCell)) ls → ToResult d g PlainBom1 (0xBB ∷ bs) ls
      plain_taken (steps.of_cell k) = (λ m. k.0 (completes_bom m).1, more_cell (bom_rest d) k.1)

      plain_rest : (b : ℕ) (ls : List (Line Bytes)) → Takes (Then bs) b (file_step d PlainBom1 b) ls → ToResult d g PlainBom1 (b ∷ bs) ls
      unfolding file_step
      plain_rest b ls =
          split (λ s. Takes (Then bs) b s ls → ToResult d g PlainBom1 (b ∷ bs) ls) (b is 0xBB)
          (λ p t. let q = is→eq b 0xBB p in rw q (plain_taken (rw q at t))) λ p t.
          (λ m. eqb-false b 0xBB p (completes_bom m).0, in_cell_lem after_ef b ls t)

      plain_last : (b : ℕ) (ls : List (Line Bytes)) → Takes (Then bs) b (file_step d PlainBom2 b) ls → ToResult d g PlainBom2 (b ∷ bs) ls
      unfolding file_step
      plain_last b ls =
          split (λ s. Takes (Then bs) b s ls → ToResult d g PlainBom2 (b ∷ bs) ls) (b is 0xBF) (λ p t. rejected t) λ p t.
          (λ m. eqb-false b 0xBF p (ends_bom m), in_cell_lem after_bb b ls t)

      comment_lf : {b : ℕ} {ls : List (Line Bytes)} → Takes (Then bs) b (Ok (Begin, Passed)) ls → InComment g.Lines Whole (LF ∷ bs) ls
      comment_lf (steps.passed k) = in_comment finished no_remark (break_then lf k)

      comment_cr : {b : ℕ} {ls : List (Line Bytes)} → Takes (Then bs) b (Ok (Ended, Passed)) ls → InComment g.Lines Whole (CR ∷ bs) ls
      comment_cr (steps.passed k) = in_comment finished no_remark (break_cr g.Lines k)

      char_taken : {b : ℕ} {c : Char} {ls : List (Line Bytes)} → Takes (Then bs) b (Ok (Comment c, Outside)) ls → InComment g.Lines c bs ls
      char_taken (steps.outside k) = k

      comment_byte : (c : Char) (b : ℕ) (ls : List (Line Bytes)) → Takes (Then bs) b (file_step d (Comment c) b) ls → InComment g.Lines c (b ∷ bs) ls
      unfolding file_step
      comment_byte Whole b ls =
          let P : Step → Type 0 = λ s. Takes (Then bs) b s ls → InComment g.Lines Whole (b ∷ bs) ls in
          split P (b is LF) (λ p t. rw (is→eq b LF p) (comment_lf t)) λ n.
          split P (b is CR) (λ p t. rw (is→eq b CR p) (comment_cr t)) λ m t.
          other (eqb-false b LF n) (eqb-false b CR m) (char_step Whole b) refl t
        where
          other : b ≢ LF → b ≢ CR → (o : Option Char) → char_step Whole b ≡ o → Takes (Then bs) b (commented o) ls → InComment g.Lines Whole (b ∷ bs) ls
          other n m None e t = rejected t
          other n m (Some c) e t = more_remark c b n m e (char_taken t)
      comment_byte (Within i) b ls = go (char_step (Within i) b) refl
        where
          go : (o : Option Char) → char_step (Within i) b ≡ o → Takes (Then bs) b (commented o) ls → InComment g.Lines (Within i) (b ∷ bs) ls
          go None e t = rejected t
          go (Some c) e t = inner_remark e (char_taken t)

      blank_wants :
          (b : ℕ) {ls : List (Line Bytes)} → is_blank b ≡ true → Takes (Then bs) b (Ok (ExpectCell, Between false)) ls →
          WantedThen d g.Further (b ∷ bs) ls
      blank_wants b p (steps.between m) = go m
        where
          go :
              {xs text : Bytes} {cells : List Bytes} {ls : List (Line Bytes)} → WantedThen d g.Further xs (line text cells ∷ ls) →
              WantedThen d g.Further (b ∷ xs) (line (b ∷ text) cells ∷ ls)
          go (wanted_then w k) = wanted_then (blank_ws b p w) k

      cell_wanted : {xs : Bytes} {ls : List (Line Bytes)} → CellThen d g.Further Fresh xs ls → WantedThen d g.Further xs ls
      cell_wanted k = go k k
        where
          go :
              {xs : Bytes} {ls : List (Line Bytes)} → CellThen d g.Further Fresh xs ls → CellThen d g.Further Fresh xs ls →
              WantedThen d g.Further xs ls
          go (cell_then m a) k = wanted_then no_ws k

      lf_after_cr : {b : ℕ} {ls : List (Line Bytes)} → Takes (Then bs) b (Ok (Begin, Ends false)) ls → AfterCr g.Lines (LF ∷ bs) ls
      lf_after_cr (steps.ends k) = then_lf k

      step_byte : (f : FileState) (b : ℕ) (ls : List (Line Bytes)) → Takes (Then bs) b (file_step d f b) ls → ToResult d g f (b ∷ bs) ls
      unfolding file_step
      step_byte Top b ls t = facts.top_byte bs b ls t
      step_byte Begin b ls t = line_byte b ls t
      step_byte Ended b ls t =
          split (λ s. Takes (Then bs) b s ls → AfterBreak g.Lines (b ∷ bs) ls) (b is LF) (λ p t. rw (is→eq b LF p) (skip_taken t))
          (λ _ t. stays (line_byte b ls t)) t
      step_byte Bom1 b ls t =
          split (λ s. Takes (Then bs) b s ls → MarkRest g.Lines (b ∷ bs) ls) (b is 0xBB) (λ p t. rw (is→eq b 0xBB p) (bb_taken t)) (λ _ t. rejected t) t
      step_byte Bom2 b ls t =
          split (λ s. Takes (Then bs) b s ls → MarkLast g.Lines (b ∷ bs) ls) (b is 0xBF) (λ p t. rw (is→eq b 0xBF p) (bf_taken t)) (λ _ t. rejected t) t
      step_byte PlainBom1 b ls t = plain_rest b ls t
      step_byte PlainBom2 b ls t = plain_last b ls t
      step_byte (Comment c) b ls t = comment_byte c b ls t
      step_byte Blanks b ls t = facts.first_byte_lem bs b ls t
      step_byte ExpectCell b ls t =
          split (λ s. Takes (Then bs) b s ls → WantedThen d g.Further (b ∷ bs) ls) (is_blank b) (λ p t. blank_wants b p t)
          (λ _ t. cell_wanted (in_cell_lem Fresh b ls t)) t
      step_byte (Inside c) b ls t = in_cell_lem c b ls t
      step_byte After b ls t = facts.after_byte bs false b ls t
      step_byte Cr b ls t =
          split (λ s. Takes (Then bs) b s ls → AfterCr g.Lines (b ∷ bs) ls) (b is LF) (λ p t. rw (is→eq b LF p) (lf_after_cr t)) (λ _ t. rejected t) t

    -- ---- the end

    at_clean : (A : List (Line Bytes) → Type 0) {ls : List (Line Bytes)} → A [] → steps.Finishes Clean ls → A ls
    at_clean A k steps.clean = k

    end_byte : (f : FileState) (ls : List (Line Bytes)) → steps.Finishes (file_end d f) ls → ToResult d g f [] ls
    unfolding file_end
    end_byte Top ls t = at_clean (g.Tops []) facts.no_top t
    end_byte Begin ls t = at_clean (g.Lines []) facts.no_line t
    end_byte Ended ls t = stays (at_clean (g.Lines []) facts.no_line t)
    end_byte Bom1 ls t = cut_off t
    end_byte Bom2 ls t = cut_off t
    end_byte PlainBom1 ls t = cut_off t
    end_byte PlainBom2 ls t = cut_off t
    end_byte (Comment c) ls t = cut_off t
    end_byte Blanks ls t = cut_off t
    end_byte ExpectCell ls t = cut_off t
    end_byte (Inside c) ls t = facts.last_cell_lem c ls t
    end_byte After ls t = cut_off t
    end_byte Cr ls t = cut_off t

    pub reads_coming : (xs : Bytes) (f : FileState) (ls : List (Line Bytes)) → Reads d f xs ls → ToResult d g f xs ls
    reads_coming = by_bytes d (ToResult d g) end_byte step_byte
