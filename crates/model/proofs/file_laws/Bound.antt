-- A record written with its ending, in any target, is at most 6 times (its bytes read + 1). Each cell's text is at most 6 times its
-- raw bytes and one more (`cell_bound`), and reading counts every byte of a cell and one between two (`Counted`).
use Prim.Native.Nat.{ℕ, suc, ◌+◌, ◌*◌, ◌≤◌}
use native.Mathlib.Omega.{arith}
use mathlib.Core.Path.{◌≡◌, refl, sym, ◌∙◌}
use mathlib.Core.Bool.{Bool, true, false}
use Rattle.std.specs.Prelude.{Option}
use mathlib.Core.List.{List, [], ◌∷◌, ◌++◌}
use lib.ListN.{length, length-append}
use Rattle.model.specs.rules.Types.{Kind, Text, Number, True, False, Null, Dialect, Csvj, Tdif, CsvPlus, Target}
use Rattle.model.specs.rules.Types.{Cell, ByteFault, Fault, CheckResult, Ok, Err}
use Rattle.model.specs.rules.Types.{FileState, Top, Begin, Ended, Bom1, Bom2, PlainBom1, PlainBom2, Comment, Blanks, ExpectCell, Inside, After}
use Rattle.model.specs.rules.Types.{Cr, Outside, Passed, OfCell, Between, Tail, Ends, Step, Ending, Clean, Final, Cut}
use Rattle.model.specs.rules.Base.{Bytes, QUOTE, choose◌then◌else◌, is_empty}
use Rattle.model.specs.rules.Dialect.{quote_of}
use Rattle.model.specs.rules.File.{file_step, file_end, last_cell}
use Rattle.model.specs.rules.Decode.{kind_of, content_of}
use Rattle.model.specs.rules.Text.{Value, json_body, json_cell, quoted_text, csv_plus_cell, cell_text, more_cells, all_cells, record_text, ending}
use Rattle.model.specs.rules.Records.{Rec, Read, Progress, going, stopped, nothing_read, read_byte, read_from, read_bytes, read_end, read_file}
use Rattle.model.specs.rules.Records.{records_of, record_fault, move, complete, validated, closing, cell_now, end_between, end_at}
use Rattle.model.specs.laws.Laws.{All, all_none, Bounded, BoundedRecord}
use Rattle.model.proofs.Tests.{split}
use Rattle.model.proofs.cell_laws.CellRuns.{all_snoc}
use Rattle.model.proofs.file_laws.FileSteps as steps
use Rattle.model.proofs.file_laws.FileSteps.{Holds, Free, Leaves, Transition, step_transition}
use Rattle.model.proofs.file_laws.Lengths.{content_length, body_length, quoted_length}

-- ---- a cell

-- this value was read from these bytes
pub record From (d : Dialect) (v : Value) (raw : Bytes) : Type 0 where
  pub kind : v.kind ≡ kind_of d raw
  pub content : v.content ≡ content_of d raw

-- no empty cell is false, the longest word
false_long : (d : Dialect) (raw : Bytes) → kind_of d raw ≡ False → 1 ≤ length raw
unfolding kind_of choose◌then◌else◌
false_long Csvj [] e = let z : ◌≡◌ {A = ℕ} 0 1 = cc in absurd (omega arith)
false_long Tdif [] e = let z : ◌≡◌ {A = ℕ} 0 1 = cc in absurd (omega arith)
false_long (CsvPlus s) [] e = let z : ◌≡◌ {A = ℕ} 0 1 = cc in absurd (omega arith)
false_long d (b ∷ bs) e = omega arith

json_bound : (k : Kind) (n : ℕ) (bs : Bytes) → length bs ≤ n → (k ≡ False → 1 ≤ n) → length (json_cell k bs) + 2 ≤ 6 * (n + 1)
unfolding json_cell
json_bound Text n bs h f =
    let b : length (json_body bs) ≤ 6 * length bs = body_length bs in
    let a : length (json_body bs ++ (QUOTE ∷ [])) ≡ length (json_body bs) + 1 = length-append (json_body bs) (QUOTE ∷ []) in
    omega arith
json_bound Number n bs h f = omega arith
json_bound True n bs h f = omega arith
json_bound False n bs h f = let g : 1 ≤ n = f refl in omega arith
json_bound Null n bs h f = omega arith

cell_bound : (d t : Dialect) (only first : Bool) (v : Value) (raw : Bytes) → From d v raw → length (cell_text t only first v) + 2 ≤ 6 * (length raw + 1)
unfolding cell_text csv_plus_cell
cell_bound d Csvj only first v raw w =
    let h : length v.content ≤ length raw = rw w.content (content_length d raw) in
    json_bound v.kind (length raw) v.content h (λ e. false_long d raw (sym w.kind ∙ e))
cell_bound d Tdif only first v raw w =
    let h : length v.content ≤ length raw = rw w.content (content_length d raw) in
    let q : length (quoted_text QUOTE v.content) ≤ 2 * length v.content + 2 = quoted_length QUOTE v.content in
    split (λ (l : Bytes). length l + 2 ≤ 6 * (length raw + 1)) _ (λ _. omega arith) λ _. omega arith
cell_bound d (CsvPlus s) only first v raw w =
    let h : length v.content ≤ length raw = rw w.content (content_length d raw) in
    let q : length (quoted_text (quote_of (CsvPlus s)) v.content) ≤ 2 * length v.content + 2 = quoted_length (quote_of (CsvPlus s)) v.content in
    split (λ (l : Bytes). length l + 2 ≤ 6 * (length raw + 1)) _ (λ _. omega arith) λ _. omega arith

-- ---- a record

-- these values were read from cells of at most n bytes, with one more for each
pub data Weighs (d : Dialect) : List Value → ℕ → Type 0 where
  weigh_none : {n : ℕ} → Weighs d [] n
  weigh_cell : {v : Value} {vs : List Value} {n m : ℕ} (raw : Bytes) → From d v raw → Weighs d vs n → suc (length raw) + n ≤ m → Weighs d (v ∷ vs) m

more_bound : {d : Dialect} (t : Dialect) {vs : List Value} {n : ℕ} → Weighs d vs n → length (more_cells t vs) ≤ 6 * n
unfolding more_cells
more_bound t weigh_none = omega arith
more_bound {d} t (weigh_cell {v} {vs} {n} raw w ws h) =
    let a : length (cell_text t false false v) + 2 ≤ 6 * (length raw + 1) = cell_bound d t false false v raw w in
    let b : length (more_cells t vs) ≤ 6 * n = more_bound t ws in
    let c : length (cell_text t false false v ++ more_cells t vs) ≡ length (cell_text t false false v) + length (more_cells t vs)
    = length-append (cell_text t false false v) (more_cells t vs) in
    omega arith

ending_length : (t : Dialect) → length (ending t) ≤ 2
ending_length Csvj = omega arith
ending_length Tdif = omega arith
ending_length (CsvPlus s) = omega arith

all_bound :
    {d : Dialect} {vs : List Value} {n : ℕ} → Weighs d vs (suc n) → (t : Dialect) (header : Bool) →
    length (all_cells t header vs ++ ending t) ≤ 6 * (n + 1)
unfolding all_cells
all_bound weigh_none t header = let h : length (ending t) ≤ 2 = ending_length t in omega arith
all_bound {d} (weigh_cell {v} {vs} {n} raw w ws h) t header =
    let a : length (cell_text t (is_empty vs) header v) + 2 ≤ 6 * (length raw + 1) = cell_bound d t (is_empty vs) header v raw w in
    let b : length (more_cells t vs) ≤ 6 * n = more_bound t ws in
    let c : length (cell_text t (is_empty vs) header v ++ more_cells t vs)
    ≡ length (cell_text t (is_empty vs) header v) + length (more_cells t vs)
    = length-append (cell_text t (is_empty vs) header v) (more_cells t vs) in
    let e : length ((cell_text t (is_empty vs) header v ++ more_cells t vs) ++ ending t)
    ≡ length (cell_text t (is_empty vs) header v ++ more_cells t vs) + length (ending t)
    = length-append (cell_text t (is_empty vs) header v ++ more_cells t vs) (ending t) in
    let k : length (ending t) ≤ 2 = ending_length t in
    omega arith

text_bound : {d : Dialect} {vs : List Value} {n : ℕ} → Weighs d vs (suc n) → Bounded n vs
unfolding record_text
text_bound w t header = all_bound w t.dialect header

weigh_more : {d : Dialect} {vs : List Value} {n m : ℕ} → n ≤ m → Weighs d vs n → Weighs d vs m
weigh_more h weigh_none = weigh_none
weigh_more {m} h (weigh_cell {n = k} raw w ws g) = let f : suc (length raw) + k ≤ m = omega arith in weigh_cell raw w ws f

weigh_last : {d : Dialect} {vs : List Value} {n : ℕ} (v : Value) (raw : Bytes) → From d v raw → Weighs d vs n → Weighs d (vs ++ (v ∷ [])) (n + suc (length raw))
weigh_last {n} v raw w weigh_none = let f : suc (length raw) + 0 ≤ n + suc (length raw) = omega arith in weigh_cell raw w weigh_none f
weigh_last v raw w (weigh_cell {n} {m} raw' w' ws g) =
    let f : suc (length raw') + (n + suc (length raw)) ≤ m + suc (length raw) = omega arith in
    weigh_cell raw' w' (weigh_last v raw w ws) f

-- ---- what reading counts

-- a CR outside quotes closes a cell and is not counted
abbrev pub slack : FileState → ℕ
slack Top = 0
slack Begin = 0
slack Ended = 0
slack Bom1 = 0
slack Bom2 = 0
slack PlainBom1 = 0
slack PlainBom2 = 0
slack (Comment c) = 0
slack Blanks = 0
slack ExpectCell = 0
slack (Inside c) = 0
slack After = 0
slack Cr = 1

slack_one : (f : FileState) → slack f ≤ 1
slack_one Top = omega arith
slack_one Begin = omega arith
slack_one Ended = omega arith
slack_one Bom1 = omega arith
slack_one Bom2 = omega arith
slack_one PlainBom1 = omega arith
slack_one PlainBom2 = omega arith
slack_one (Comment c) = omega arith
slack_one Blanks = omega arith
slack_one ExpectCell = omega arith
slack_one (Inside c) = omega arith
slack_one After = omega arith
slack_one Cr = omega arith

-- after such a CR only the record's end is read
pub data Steady (f : FileState) : Step → Type 0 where
  y_fault : {e : ByteFault} → Steady f (Err e)
  y_outside : {g : FileState} → Steady f (Ok (g, Outside))
  y_passed : {g : FileState} → Steady f (Ok (g, Passed))
  y_cell : {g : FileState} → slack f ≡ 0 → Steady f (Ok (g, OfCell))
  y_between : {g : FileState} {k : Bool} → slack f ≡ 0 → Steady f (Ok (g, Between k))
  y_tail : {k : Bool} → slack f ≡ 0 → Steady f (Ok (Cr, Tail k))
  y_ends : {g : FileState} {k : Bool} → slack f ≡ 0 → Steady f (Ok (g, Ends k))
  y_over : {g : FileState} → Steady f (Ok (g, Ends false))

holds_slack : {f : FileState} {c : Cell} → Holds f c → slack f ≡ 0
holds_slack steps.at_top = refl
holds_slack steps.at_begin = refl
holds_slack steps.at_ended = refl
holds_slack steps.at_blanks = refl
holds_slack steps.at_wanting = refl
holds_slack steps.inside = refl
holds_slack steps.plain1 = refl
holds_slack steps.plain2 = refl

free_slack : {f : FileState} → Free f → slack f ≡ 0
free_slack steps.f_top = refl
free_slack steps.f_begin = refl
free_slack steps.f_ended = refl
free_slack steps.f_blanks = refl
free_slack steps.f_wanting = refl
free_slack steps.f_after = refl

leaves_slack : {d : Dialect} {b : ℕ} {f : FileState} {k : Bool} → Leaves d b f k → slack f ≡ 0
leaves_slack (steps.none e) = free_slack e
leaves_slack (steps.stops h s w) = holds_slack h

steady : {d : Dialect} {f : FileState} {b : ℕ} {s : Step} → Transition d f b s → Steady f s
steady (steps.refuses t) = y_fault
steady (steps.outside t r g) = y_outside
steady (steps.passes t r g) = y_passed
steady (steps.adds t n h g i s) = y_cell (holds_slack h)
steady (steps.blanks t n e c) = y_between (free_slack (steps.starts_free e))
steady (steps.parts t n l o) = y_between (leaves_slack l)
steady (steps.turns t p l) = y_tail (leaves_slack l)
steady (steps.ends t p l g) = y_ends (leaves_slack l)
steady (steps.ends_cr t e p) = y_over

pub step_steady : (d : Dialect) (f : FileState) (b : ℕ) → Steady f (file_step d f b)
step_steady d f b = steady (step_transition d f b)

-- where the end of the file completes a record no CR is pending
data EndsSteady (f : FileState) : Ending → Type 0 where
  e_clean : EndsSteady f Clean
  e_final : slack f ≡ 0 → EndsSteady f Final
  e_cut : EndsSteady f Cut

cell_end_steady : (d : Dialect) (c : Cell) → EndsSteady (Inside c) (last_cell d c)
cell_end_steady Csvj c = e_cut
cell_end_steady Tdif c = e_cut
cell_end_steady (CsvPlus s) c = split (EndsSteady (Inside c)) _ (λ _. e_final refl) λ _. e_cut

end_steady : (d : Dialect) (f : FileState) → EndsSteady f (file_end d f)
unfolding file_end
end_steady d Top = e_clean
end_steady d Begin = e_clean
end_steady d Ended = e_clean
end_steady d Bom1 = e_cut
end_steady d Bom2 = e_cut
end_steady d PlainBom1 = e_cut
end_steady d PlainBom2 = e_cut
end_steady d (Comment c) = e_cut
end_steady d Blanks = e_cut
end_steady d ExpectCell = e_cut
end_steady d (Inside c) = cell_end_steady d c
end_steady d After = e_cut
end_steady d Cr = e_cut

module _ (d : Dialect) (target : Option Target) where
  -- the weight of the current cells is at most the bytes counted, and every complete record is bounded
  pub record Counted (r : Read) : Type 0 where
    pub sum : ℕ
    pub cells : Weighs d r.cells sum
    pub fits : sum + length r.raw ≤ r.size + slack r.state
    pub done : All BoundedRecord r.done

  pub data CountedTo : Progress → Type 0 where
    c_going : {r : Read} → Counted r → CountedTo (going r)
    c_stopped : {e : Fault} {r : Read} → All BoundedRecord r.done → CountedTo (stopped e r)

  -- the cells, with the current one
  close_weighs : (r : Read) (k : Bool) (i : Counted r) → Weighs d (closing d k r) (i.sum + suc (length r.raw))
  close_weighs r true i = weigh_last (cell_now d r) r.raw (record { kind = refl; content = refl }) i.cells
  close_weighs r false i = weigh_more (omega arith) i.cells

  validated_counted : (r next : Read) (v : CheckResult) → All BoundedRecord r.done → Counted next → CountedTo (validated r next v)
  validated_counted r next (Ok _) h i = c_going i
  validated_counted r next (Err e) h i = c_stopped h

  complete_counted : (r : Read) (vs : List Value) (f : FileState) (o : ℕ) → Counted r → Bounded r.size vs → CountedTo (complete d target r vs f o)
  unfolding complete
  complete_counted r vs f o i b =
      let g : 0 + 0 ≤ 0 + slack f = omega arith in
      validated_counted r _ (record_fault d target r.done vs) i.done (record { sum = 0; cells = weigh_none; fits = g; done = all_snoc i.done b })

  -- the record that ends here, with its last cell
  pub closed_bound : (r : Read) (k : Bool) (i : Counted r) → slack r.state ≡ 0 → Bounded r.size (closing d k r)
  closed_bound r k i z =
      let h = i.fits in
      let g : i.sum + suc (length r.raw) ≤ suc r.size = omega arith in
      text_bound (weigh_more g (close_weighs r k i))

  -- the record that ends after a CR
  pub over_bound : (r : Read) (i : Counted r) → Bounded r.size r.cells
  over_bound r i =
      let h = i.fits in
      let o : slack r.state ≤ 1 = slack_one r.state in
      let g : i.sum ≤ suc r.size = omega arith in
      text_bound (weigh_more g i.cells)

  pub move_counted : (r : Read) (b : ℕ) (s : Step) → Counted r → Steady r.state s → CountedTo (move d target r b s)
  unfolding move
  move_counted r b (Err e) i y_fault = c_stopped i.done
  move_counted r b (Ok (f, Outside)) i y_outside =
      let g : 0 + 0 ≤ 0 + slack f = omega arith in c_going (record { sum = 0; cells = weigh_none; fits = g; done = i.done })
  move_counted r b (Ok (f, Passed)) i y_passed =
      let g : 0 + 0 ≤ 0 + slack f = omega arith in c_going (record { sum = 0; cells = weigh_none; fits = g; done = i.done })
  move_counted r b (Ok (f, OfCell)) i (y_cell z) =
      let h = i.fits in
      let g : i.sum + length (r.raw ++ (b ∷ [])) ≤ suc r.size + slack f = omega (arith, length-append r.raw (b ∷ [])) in
      c_going (record { sum = i.sum; cells = i.cells; fits = g; done = i.done })
  move_counted r b (Ok (f, Between k)) i (y_between z) =
      let h = i.fits in
      let g : i.sum + suc (length r.raw) + 0 ≤ suc r.size + slack f = omega arith in
      c_going (record { sum = i.sum + suc (length r.raw); cells = close_weighs r k i; fits = g; done = i.done })
  move_counted r b (Ok (f, Tail k)) i (y_tail z) =
      let h = i.fits in
      let g : i.sum + suc (length r.raw) + 0 ≤ r.size + 1 = omega arith in
      c_going (record { sum = i.sum + suc (length r.raw); cells = close_weighs r k i; fits = g; done = i.done })
  move_counted r b (Ok (f, Ends k)) i (y_ends z) = complete_counted r (closing d k r) f (suc r.offset) i (closed_bound r k i z)
  move_counted r b (Ok (f, Ends k)) i y_over = complete_counted r (closing d false r) f (suc r.offset) i (over_bound r i)

  byte_counted : (r : Read) (b : ℕ) → Counted r → CountedTo (read_byte d target r b)
  unfolding read_byte
  byte_counted r b i =
      split CountedTo _ (λ _. c_stopped i.done) λ _. split CountedTo _ (λ _. c_stopped i.done) λ _.
      move_counted r b (file_step d r.state b) i (step_steady d r.state b)

  read_counted : (p : Progress) (xs : Bytes) → CountedTo p → CountedTo (read_from d target p xs)
  unfolding read_from
  read_counted p [] g = g
  read_counted (stopped e r) (x ∷ xs) g = g
  read_counted (going r) (x ∷ xs) (c_going i) = read_counted (read_byte d target r x) xs (byte_counted r x i)

  bytes_counted : (xs : Bytes) → CountedTo (read_bytes d target xs)
  unfolding read_bytes nothing_read
  bytes_counted xs = read_counted (going nothing_read) xs (c_going (record { sum = 0; cells = weigh_none; fits = omega arith; done = all_none }))

  between_counted : (r : Read) (rs : List Rec) → Counted r → CountedTo (end_between r rs)
  between_counted r [] i = c_stopped i.done
  between_counted r (h ∷ rs) i = c_going i

  at_end_counted : (r : Read) (x : Ending) → Counted r → EndsSteady r.state x → CountedTo (end_at d target r x)
  at_end_counted r Clean i e_clean = between_counted r r.done i
  at_end_counted r Final i (e_final z) = complete_counted r (closing d true r) Begin r.offset i (closed_bound r true i z)
  at_end_counted r Cut i e_cut = c_stopped i.done

  end_counted : (p : Progress) → CountedTo p → CountedTo (read_end d target p)
  unfolding read_end
  end_counted (stopped e r) g = g
  end_counted (going r) (c_going i) = at_end_counted r (file_end d r.state) i (end_steady d r.state)

  counted_records : (p : Progress) → CountedTo p → All BoundedRecord (records_of p)
  counted_records (going r) (c_going i) = i.done
  counted_records (stopped e r) (c_stopped h) = h

  -- every record that was read, with or without the file's end
  pub records_bounded : (xs : Bytes) → All BoundedRecord (records_of (read_bytes d target xs))
  records_bounded xs = counted_records _ (bytes_counted xs)

  pub records_bounded_file : (xs : Bytes) → All BoundedRecord (records_of (read_file d target xs))
  unfolding read_file
  records_bounded_file xs = counted_records _ (end_counted _ (bytes_counted xs))
