-- The invariant of the loop over cells, and one law for each path through a step. The laws are the scanner's: a cell and the byte after
-- it are one step of its loop.
use Prim.Native.Nat.{ℕ, ◌+◌, ◌-◌, ◌≤◌, ◌<◌}
use native.Mathlib.Omega.{arith}
use mathlib.Core.Path.{◌≡◌, refl, sym, ap, subst, ◌∙◌}
use mathlib.Core.Bool.{Bool, true, false, ◌&&◌}
use mathlib.Core.List.{List, [], ◌++◌, map, append-nil}
use lib.ListN.{length, drop, get_or}
use lib.Seq.{get_or-set_same, get_or-set_other}
use lib.Dec.{leb, ltb}
use borrow.Author.Tests.{eqb-true, lt-leb, lt-ltb, ltb-true, ltb-false}
use Rattle.model.specs.declared.Dialect.{Dialect}
use Rattle.model.specs.declared.Dialect.TheVariants.{Csvj, Tdif, CsvPlus}
use Rattle.model.specs.declared.ByteFault.TheVariants.{Syntax}
use Rattle.model.specs.declared.Cell.TheVariants.{Fresh, Quoted, Closed, Escape, Hex, InNumber, InWord, Plain, Complete}
use Rattle.model.specs.declared.CellStep.TheVariants.{Refuse}
use Rattle.model.specs.declared.FileState.{FileState}
use Rattle.model.specs.declared.FileState.TheVariants.{Top, Begin, Ended, Bom1, Bom2, PlainBom1, PlainBom2, Comment, Blanks, ExpectCell, Inside, After, Cr}
use Rattle.model.specs.declared.ByteRole.TheVariants.{Passed, Between, Tail, Ends}
use Rattle.model.specs.rules.Types.{Step}
use Rattle.std.specs.Prelude.{Some, None, Ok}
use Rattle.model.specs.rules.Base.{choose◌then◌else◌, ◌is◌, Bytes, QUOTE, LF, CR}
use Rattle.model.specs.rules.Dialect.{quote_of, delimiter_of}
use Rattle.model.specs.rules.Cell.{first_byte, cell_step}
use Rattle.model.specs.rules.File.{is_blank, after_cell, in_cell, begin_record, file_step, counts}
use Rattle.model.specs.rules.Decode.{kind_number, kind_of}
use Rattle.model.specs.rules.Report.{MAXFILE, MAXRECORD}
use Rattle.model.specs.laws.Scans.{RawCell, Scan, ScanResult, pends, fails, completes, scan, Buffered, joined, joined_to, joined_cell, joined_place, joined_raw, Holds, current, nothing_current}
use Rattle.model.specs.rules.Api.{slice}
use Rattle.model.proofs.Tests.{split, split_on, same_byte, and_true}
use Rattle.model.proofs.piece_laws.View.{view}
use Rattle.cell_scanner.specs.declared.CellEnd.TheVariants as cell-end
use Rattle.cell_scanner.specs.Run.{cell_run}
use Rattle.cell_scanner.proofs.Runs.{part_end, rest_refused}
use Rattle.record_scanner.specs.declared.record_state.RecordState.{RecordState}
use Rattle.record_scanner.specs.declared.token.Token.{Token}
use Rattle.record_scanner.specs.declared.token.Token.TheVariants.{Is, AfterCell}
use Rattle.record_scanner.specs.declared.token.ScanOutcome.{ScanOutcome}
use Rattle.record_scanner.specs.declared.token.ScanOutcome.TheVariants as reached
use Rattle.record_scanner.specs.CurrentRecord.{one_more, state_after_byte, extended_by}
use Rattle.record_scanner.specs.Parts.{Found, found_of, found_in}
use Rattle.record_scanner.specs.Tokens.{scan_at, outer, Free, TokenCorrect, TokenInBounds}
use Rattle.record_scanner.specs.Stored.{store_at, store_if}
use Rattle.record_scanner.proofs.StoreLaws.{not_stored, length_stored_if}
use Rattle.record_scanner.proofs.TokenOutcomes.{met_of, cell_results, cell_lies, byte_results}
use Rattle.record_scanner.proofs.ScanInvariant.{Call, Scanning, Asked, Stepping, Out, begins, by_byte, by_cell, step_on, step_over}
use Rattle.cell_fast.specs.Ends.{EndsFrom, CleanCell}
use Rattle.record_fast.specs.FastScan.{FirstCellAt, here, after_cr, after_pair, next_found, Clean, FastScanSound, is_found, is_fallback, RecordEndSound, at_once, by_pair}
use Rattle.record_fast.proofs.Endings.{next_cell, after_delimiter}

no_and : (x : Bool) → (x && false) ≡ false
no_and true = refl
no_and false = refl

-- ---- where a cell may begin

pub data Opening (d : Dialect) (b : ℕ) : FileState → Type 0 where
  at_begin : Opening d b Begin
  at_ended : (b is LF) ≡ false → Opening d b Ended
  at_fresh : Opening d b (Inside Fresh)
  at_wanting : d ≡ Csvj → Opening d b ExpectCell

-- no value of CSVJ begins with a blank or a line break
blank_refused : (b : ℕ) → is_blank b ≡ true → first_byte Csvj b ≡ Refuse Syntax
unfolding first_byte choose◌then◌else◌
blank_refused b e =
    split_on (b is 0x20)
    (λ q. rw (eqb-true b 0x20 q))
    λ q. let r : (b is 0x09) ≡ true = rw q at e in rw (eqb-true b 0x09 r)

lf_refused : (b : ℕ) → (b is LF) ≡ true → first_byte Csvj b ≡ Refuse Syntax
unfolding first_byte choose◌then◌else◌
lf_refused b e = rw (eqb-true b LF e)

cr_refused : (b : ℕ) → (b is CR) ≡ true → first_byte Csvj b ≡ Refuse Syntax
unfolding first_byte choose◌then◌else◌
cr_refused b e = rw (eqb-true b CR e)

comment_refused : (b : ℕ) → (b is 0x23) ≡ true → first_byte Tdif b ≡ Refuse Syntax
unfolding first_byte choose◌then◌else◌
comment_refused b e = rw (eqb-true b 0x23 e)

-- a byte with which a cell may begin begins the record's first cell
begins_record : (d : Dialect) (b : ℕ) → (cell_step d Fresh b ≡ Refuse Syntax → ⊥) → in_cell d Fresh b ≡ begin_record d b
unfolding begin_record cell_step
begins_record Csvj b n =
    split (λ (s : Step). in_cell Csvj Fresh b ≡ s) (is_blank b) (λ e. absurd (n (blank_refused b e)))
    λ _. split (λ (s : Step). in_cell Csvj Fresh b ≡ s) (b is LF) (λ e. absurd (n (lf_refused b e)))
    λ _. split (λ (s : Step). in_cell Csvj Fresh b ≡ s) (b is CR) (λ e. absurd (n (cr_refused b e))) λ _. refl
begins_record Tdif b n = split (λ (s : Step). in_cell Tdif Fresh b ≡ s) (b is 0x23) (λ e. absurd (n (comment_refused b e))) λ _. refl
begins_record (CsvPlus s) b n = refl

opens : (d : Dialect) (b : ℕ) (f : FileState) → Opening d b f → (cell_step d Fresh b ≡ Refuse Syntax → ⊥) → in_cell d Fresh b ≡ file_step d f b
unfolding file_step cell_step choose◌then◌else◌
opens d b Begin at_begin n = begins_record d b n
opens d b Ended (at_ended e) n = begins_record d b n ∙ rw e
opens d b (Inside Fresh) at_fresh n = refl
opens d b ExpectCell (at_wanting e) n =
    split (λ (s : Step). in_cell d Fresh b ≡ s) (is_blank b)
    (λ q. absurd (n (ap (λ (x : Dialect). cell_step x Fresh b) e ∙ blank_refused b q)))
    λ _. refl
opens d b Top o n = elim o [ ]
opens d b Bom1 o n = elim o [ ]
opens d b Bom2 o n = elim o [ ]
opens d b PlainBom1 o n = elim o [ ]
opens d b PlainBom2 o n = elim o [ ]
opens d b (Comment _) o n = elim o [ ]
opens d b Blanks o n = elim o [ ]
opens d b (Inside (Quoted _)) o n = elim o [ ]
opens d b (Inside Closed) o n = elim o [ ]
opens d b (Inside Escape) o n = elim o [ ]
opens d b (Inside (Hex _)) o n = elim o [ ]
opens d b (Inside (InNumber _)) o n = elim o [ ]
opens d b (Inside (InWord _)) o n = elim o [ ]
opens d b (Inside (Plain _)) o n = elim o [ ]
opens d b (Inside Complete) o n = elim o [ ]
opens d b After o n = elim o [ ]
opens d b Cr o n = elim o [ ]

-- ---- a cell and the byte after it

-- the current record where the cell after n others starts
abbrev pub hand : (start at n : ℕ) → RecordState
hand start at n = record { start = start; size = at - start; opened = at; cells = n }

-- the bytes up to `stop` are neither too many for the file nor for the record that starts at `start`
pub record Bounds (part_length limit start stop : ℕ) : Type 0 where
  pub inside : stop ≤ part_length
  pub under : stop ≤ limit
  pub short : stop ≤ start + MAXRECORD

module _ (call : Call) where
  open call use {d, part, first, limit, from, room, base, starts₀, ends₀, kinds₀}

  module _ {start stop : ℕ} (w : Bounds (length part) limit start stop) {at n : ℕ} (past : start ≤ at) (on : at < stop) {f : FileState}
      (o : Opening d (get_or part at 0) f) {starts ends kinds : List ℕ} (y : Scanning call f at (hand start at n) starts ends kinds) {e : ℕ}
      (ends_at : EndsFrom d part stop Fresh at e) where
    free : Free (length part) limit at (at - start) stop
    free =
        let a : stop ≤ length part = w.inside in
        let b : stop ≤ limit = w.under in
        let c : stop ≤ start + MAXRECORD = w.short in
        record { on = on; inside = a; under = b; fits = λ _. omega arith }

    begins_cell : in_cell d Fresh (get_or part at 0) ≡ file_step d f (get_or part at 0)
    begins_cell =
        opens d (get_or part at 0) f o
        λ q. let z : cell-end.Refused Syntax at ≡ cell-end.Stopped ends_at.cell
        e = sym (rest_refused d Fresh part at stop on w.inside Syntax q) ∙ ends_at.ran in
        let x : ◌≡◌ {A = ℕ} 0 1 = cc in omega arith

    met : met_of stop (cell_run d Fresh at (slice part at stop)) ≡ AfterCell true e
    met = ap (met_of stop) ends_at.ran

    asked : Asked call f at (hand start at n) starts ends kinds (AfterCell true e)
    asked =
        let a : stop ≤ length part = w.inside in
        let b : stop ≤ limit = w.under in
        let c : stop ≤ start + MAXRECORD = w.short in
        let small : at - start < MAXRECORD = omega arith in
        record {
          scanning = y;
          inside = omega arith;
          under = omega arith;
          fits = rw (lt-leb MAXRECORD (at - start) small);
          lies = subst (λ (m : Token). TokenInBounds d limit part f at m) met (cell_lies d limit Fresh part f at (at - start) stop free);
          comes =
              subst (λ (m : Token). TokenCorrect d limit part f at (at - start) m) met
              (cell_results d limit part f Fresh at (at - start) stop free begins_cell);
        }

    -- the byte after the cell takes its step
    pub after : Stepping call f e (extended_by (hand start at n) (e - at)) (after_cell d true (get_or part e 0)) starts ends kinds
    after = by_cell call asked true e refl _ refl _ refl

    -- the bounds of the cell
    pub cell_in : (at ≤ e) × (e < length part) × (e < limit)
    cell_in = asked.lies

-- ---- stores

-- the cell from `at` up to e, stored at index base + n of each list
pub record Writes (d : Dialect) (part : Bytes) (room base n at e : ℕ) (starts ends kinds starts' ends' kinds' : List ℕ) : Type 0 where
  pub put : (starts' ≡ store_if true room (base + n) at starts) ×
      ((ends' ≡ store_if true room (base + n) e ends) × (kinds' ≡ store_if true room (base + n) (kind_number (kind_of d (slice part at e))) kinds))

stored_here : (room k x : ℕ) (old : List ℕ) → k < room → room ≤ length old → get_or (store_if true room k x old) k 0 ≡ x
unfolding store_if store_at choose◌then◌else◌
stored_here room k x old l m = rw (lt-ltb k room l) (get_or-set_same old k x 0 (omega arith))

stored_other : (room k x j : ℕ) (old : List ℕ) → j < k → get_or (store_if true room k x old) j 0 ≡ get_or old j 0
unfolding store_if store_at
stored_other room k x j old l =
    split (λ (xs : List ℕ). get_or xs j 0 ≡ get_or old j 0) true
    (λ _. split (λ (xs : List ℕ). get_or xs j 0 ≡ get_or old j 0) (ltb k room) (λ _. get_or-set_other old k j x 0 (λ e. omega arith)) λ _. refl)
    λ _. refl

-- one verbatim cell more
more_clean : {d : Dialect} {part : Bytes} {room base n at e : ℕ} {starts ends kinds starts' ends' kinds' : List ℕ} → room ≤ length starts
    → room ≤ length ends → Clean d part room base n starts ends → CleanCell d (slice part at e)
    → Writes d part room base n at e starts ends kinds starts' ends' kinds' → Clean d part room base (n + 1) starts' ends'
more_clean {d} {part} {room} {base} {n} {at} {e} {starts} {ends} {kinds} {starts'} {ends'} {kinds'} ls le c x y =
    record {
      quotes = c.quotes;
      each =
          λ k l m.
          let p = y.put in
          split_on (ltb k n)
          (λ q.
          let j : k < n = ltb-true k n q in
          let z : base + k < base + n = omega arith in
          let a : get_or starts' (base + k) 0 ≡ get_or starts (base + k) 0 =
          ap (λ (xs : List ℕ). get_or xs (base + k) 0) p.0 ∙ stored_other room (base + n) at (base + k) starts z in
          let b : get_or ends' (base + k) 0 ≡ get_or ends (base + k) 0 =
          ap (λ (xs : List ℕ). get_or xs (base + k) 0) p.1.0 ∙ stored_other room (base + n) e (base + k) ends z in
          rw (a, b) (c.each k j m))
          λ q.
          let h : n ≤ k = ltb-false k n q in
          let i : base + k ≡ base + n = omega arith in
          let g : base + n < room = omega arith in
          let a : get_or starts' (base + k) 0 ≡ at =
          ap (λ (j : ℕ). get_or starts' j 0) i ∙ ap (λ (xs : List ℕ). get_or xs (base + n) 0) p.0 ∙ stored_here room (base + n) at starts g ls in
          let b : get_or ends' (base + k) 0 ≡ e =
          ap (λ (j : ℕ). get_or ends' j 0) i ∙ ap (λ (xs : List ℕ). get_or xs (base + n) 0) p.1.0 ∙ stored_here room (base + n) e ends g le in
          rw (a, b) x;
    }

-- ---- the invariant

-- what is known of the current record, if it began as `first` says
pub record Rest (call : Call) (start at n : ℕ) (starts ends kinds : List ℕ) : Type 0 where
  pub state : FileState
  pub opening : Opening call.d (get_or call.part at 0) state
  pub scanning : Scanning call state at (hand start at n) starts ends kinds

abbrev pub call_of : Dialect → (part : Bytes) → FileState → (limit from room base : ℕ) → (starts₀ ends₀ kinds₀ : List ℕ) → Call
call_of d part first limit from room base starts₀ ends₀ kinds₀ =
    record {
      d = d;
      part = part;
      first = first;
      size = 0;
      limit = limit;
      from = from;
      room = room;
      base = base;
      starts₀ = starts₀;
      ends₀ = ends₀;
      kinds₀ = kinds₀;
    }

-- ---- the first cell

pub begins_on : (first : FileState) (part : Bytes) (from start : ℕ) → FirstCellAt first part from (Some start) → from ≤ length part → from ≤ start
begins_on first part from start (here e) l = omega arith
begins_on first part from start (after_cr e q) l = omega arith
begins_on first part from start (after_pair e k q) l = omega arith

module _ (d : Dialect) (part : Bytes) (limit from room base : ℕ) (starts₀ ends₀ kinds₀ : List ℕ) (l : from ≤ length part) (m : from ≤ limit)
    (b : base ≤ from) (low : limit ≤ MAXFILE) where
  abbrev From : FileState → Call
  From first = call_of d part first limit from room base starts₀ ends₀ kinds₀

  -- no byte of the record has been read yet
  at_from : (first : FileState) → Scanning (From first) first from (hand from from 0) starts₀ ends₀ kinds₀
  at_from first =
      let z : 0 ≡ from - from = omega arith in
      subst (λ (k : ℕ). Scanning (From first) first from (record { start = from; size = k; opened = from; cells = 0 }) starts₀ ends₀ kinds₀) z
      (begins (From first) l m b (omega arith) low)

  -- the LF of a CRLF is skipped
  after_lf : from < length part → from < limit → get_or part from 0 ≡ LF
      → Scanning (From Ended) Begin (from + 1) (hand (from + 1) (from + 1) 0) starts₀ ends₀ kinds₀
  unfolding file_step choose◌then◌else◌
  after_lf i u q =
      let k : Call = From Ended in
      let s : Ok (Begin, Passed) ≡ file_step d Ended (get_or part from 0) = rw q in
      let z : from - from ≡ 0 = omega arith in
      let a : Asked k Ended from (hand from from 0) starts₀ ends₀ kinds₀ (Is (Ok (Begin, Passed))) =
      record {
        scanning = at_from Ended;
        inside = i;
        under = u;
        fits = rw z;
        lies = s;
        comes = byte_results d limit part Ended from (from - from) i u (Ok (Begin, Passed)) s;
      } in
      let v = by_byte k a (Ok (Begin, Passed)) refl in
      let x : 0 ≡ from + 1 - (from + 1) = omega arith in
      step_on k v Begin Passed refl false refl starts₀ ends₀ kinds₀ (
        not_stored false room (base + 0) from starts₀ refl,
        (not_stored false room (base + 0) from ends₀ refl, not_stored false room (base + 0) _ kinds₀ refl),
      ) (hand (from + 1)
      (from + 1) 0) (ap (λ (n : ℕ). record { start = from + 1; size = n; opened = from + 1; cells = 0 }) (sym x)) false refl refl

  pub rest_begins : (first : FileState) {start : ℕ} → FirstCellAt first part from (Some start) → start < length part → start < limit
      → Rest (From first) start start 0 starts₀ ends₀ kinds₀
  rest_begins first (here e) i u =
      record { state = first; opening = subst (λ (f : FileState). Opening d (get_or part from 0) f) (sym e) at_begin; scanning = at_from first }
  rest_begins first (after_cr e q) i u =
      record { state = first; opening = subst (λ (f : FileState). Opening d (get_or part from 0) f) (sym e) (at_ended q); scanning = at_from first }
  rest_begins first (after_pair e k q) i u =
      subst (λ (f : FileState). Rest (From f) (from + 1) (from + 1) 0 starts₀ ends₀ kinds₀) (sym e) (record {
        state = Begin;
        opening = at_begin;
        scanning = after_lf k (omega arith) q;
      })

module _ (d : Dialect) (part : Bytes) (limit from room base : ℕ) (starts₀ ends₀ kinds₀ : List ℕ) (start stop : ℕ) where
  pub record Row (clean : Bool) (at n : ℕ) (starts ends kinds : List ℕ) : Type 0 where
    pub bounds : Bounds (length part) limit start stop
    pub low : limit ≤ MAXFILE
    pub past : start ≤ at
    pub to_stop : at ≤ stop
    pub few : base + n ≤ at
    pub long : (length starts ≡ length starts₀) × (length ends ≡ length ends₀) × (length kinds ≡ length kinds₀)
    pub roomy : (room ≤ length starts₀) × (room ≤ length ends₀) × (room ≤ length kinds₀)
    pub cleans : clean ≡ true → Clean d part room base n starts ends
    pub rest : (first : FileState) → FirstCellAt first part from (Some start)
        → Rest (call_of d part first limit from room base starts₀ ends₀ kinds₀) start at n starts ends kinds

  module _ {clean : Bool} {at n : ℕ} {starts ends kinds : List ℕ} (r : Row clean at n starts ends kinds) (on : at < stop) {e : ℕ}
      (ends_at : EndsFrom d part stop Fresh at e) where
    pub cell_lies_in : (first : FileState) → FirstCellAt first part from (Some start) → (at ≤ e) × (e < length part) × (e < limit)
    cell_lies_in first b =
        let y = r.rest first b in
        let i : stop ≤ length part = r.bounds.inside in
        cell_in (call_of d part first limit from room base starts₀ ends₀ kinds₀) r.bounds r.past on y.opening y.scanning ends_at

    -- after a delimiter the next cell begins
    pub next_cell_lem : e < stop → get_or part e 0 ≡ delimiter_of d → {tells : Bool} → (tells ≡ true → CleanCell d (slice part at e))
        → {starts' ends' kinds' : List ℕ} → Writes d part room base n at e starts ends kinds starts' ends' kinds' → at ≤ e
        → Row (clean && tells) (e + 1) (n + 1) starts' ends' kinds'
    unfolding one_more choose◌then◌else◌
    next_cell_lem before q {tells} x {starts'} {ends'} {kinds'} y l =
        let i : stop ≤ length part = r.bounds.inside in
        let f : base + n ≤ at = r.few in
        let p : start ≤ at = r.past in
        let put = y.put in
        record {
          bounds = r.bounds;
          low = r.low;
          past = omega arith;
          to_stop = omega arith;
          few = omega arith;
          long = (
            ap length put.0 ∙ length_stored_if true room (base + n) at starts ∙ r.long.0,
            ap length put.1.0 ∙ length_stored_if true room (base + n) e ends ∙ r.long.1,
            ap length put.1.1 ∙ length_stored_if true room (base + n) (kind_number (kind_of d (slice part at e))) kinds ∙ r.long.2,
          );
          roomy = r.roomy;
          cleans =
              λ c.
              let z = and_true clean tells c in
              more_clean (rw r.long.0 r.roomy.0) (rw r.long.1 r.roomy.1) (r.cleans z.0) (x z.1) y;
          rest =
              λ first b.
              let k : Call = call_of d part first limit from room base starts₀ ends₀ kinds₀ in
              let g = r.rest first b in
              let t = after k r.bounds p on g.opening g.scanning ends_at in
              let s : after_cell d true (get_or part e 0) ≡ Ok (next_cell d, Between true) = ap (λ (c : ℕ). after_cell d true c) q ∙ after_delimiter d in
              let sized : e + 1 - start ≡ at - start + (e - at) + 1 = omega arith in
              let h : hand start (e + 1) (n + 1) ≡ state_after_byte (Between true) e (extended_by (hand start at n) (e - at)) =
              ap (λ (m : ℕ). record { start = start; size = m; opened = e + 1; cells = n + 1 }) sized in
              record {
                state = next_cell d;
                opening = next_opens d (get_or part (e + 1) 0);
                scanning = step_on k t (next_cell d) (Between true) s true refl starts' ends' kinds' put (hand start (e + 1) (n + 1)) h false refl refl;
              };
        }
      where
        next_opens : (x : Dialect) (b : ℕ) → Opening x b (next_cell x)
        next_opens Csvj b = at_wanting refl
        next_opens Tdif b = at_fresh
        next_opens (CsvPlus z) b = at_fresh

  -- the scanner's outcome is found
  found : {first : FileState} {s m next : ℕ} {g : FileState} {clean : Bool} {starts ends kinds : List ℕ}
      → Out (call_of d part first limit from room base starts₀ ends₀ kinds₀) (reached.Completed s m g next) starts ends kinds
      → (clean ≡ true → Clean d part room base m starts ends)
      → FastScanSound d limit part from first room base starts₀ ends₀ kinds₀ starts ends kinds (Some (record { start = s; cells = m; state = g; next = next; clean = clean }))
  found {first} {s} {m} {next} {g} o c =
      let cs : List RawCell = (next_found d limit part from first).cells in
      is_found cs (ap (λ (a : ScanOutcome). record {
        answer = a;
        cells = cs;
      }) (sym o.answer)) o.bounds (record { at_starts = o.at_starts; at_ends = o.at_ends; at_kinds = o.at_kinds }) c

  module _ {clean : Bool} {at n : ℕ} {starts ends kinds : List ℕ} (r : Row clean at n starts ends kinds) (on : at < stop) {e : ℕ}
      (ends_at : EndsFrom d part stop Fresh at e) (l : at ≤ e) where
    all_clean : {tells : Bool} → (tells ≡ true → CleanCell d (slice part at e)) → {starts' ends' kinds' : List ℕ}
        → Writes d part room base n at e starts ends kinds starts' ends' kinds' → (clean && tells) ≡ true → Clean d part room base (n + 1) starts' ends'
    all_clean {tells} x y c =
        let z = and_true clean tells c in
        more_clean (rw r.long.0 r.roomy.0) (rw r.long.1 r.roomy.1) (r.cleans z.0) (x z.1) y

    -- the LF after a CR
    asked_lf : (first : FileState) {h : RecordState} {starts' ends' kinds' : List ℕ}
        → Scanning (call_of d part first limit from room base starts₀ ends₀ kinds₀) Cr (e + 1) h starts' ends' kinds' → e + 1 < length part
        → e + 1 < limit → get_or part (e + 1) 0 ≡ LF
        → Asked (call_of d part first limit from room base starts₀ ends₀ kinds₀) Cr (e + 1) h starts' ends' kinds' (Is (Ok (Begin, Ends false)))
    unfolding file_step counts choose◌then◌else◌
    asked_lf first {h} w i u q =
        let s : Ok (Begin, Ends false) ≡ file_step d Cr (get_or part (e + 1) 0) = rw q in
        record {
          scanning = w;
          inside = i;
          under = u;
          fits = rw q (no_and (leb MAXRECORD h.size));
          lies = s;
          comes = byte_results d limit part Cr (e + 1) h.size i u (Ok (Begin, Ends false)) s;
        }

    -- after an ending the record is complete
    pub last_cell_lem : e < stop → {f : FileState} {next : ℕ} → RecordEndSound d part e stop (Some (f, next)) → {tells : Bool}
        → (tells ≡ true → CleanCell d (slice part at e)) → {starts' ends' kinds' : List ℕ}
        → Writes d part room base n at e starts ends kinds starts' ends' kinds' → (first : FileState) → FirstCellAt first part from (Some start)
        → FastScanSound d limit part from first room base starts₀ ends₀ kinds₀ starts' ends' kinds' (Some (record { start = start; cells = n + 1; state = f; next = next; clean = clean && tells }))
    unfolding one_more choose◌then◌else◌
    last_cell_lem before {f} (at_once s) {tells} x {starts'} {ends'} {kinds'} y first b =
        let k : Call = call_of d part first limit from room base starts₀ ends₀ kinds₀ in
        let i : stop ≤ length part = r.bounds.inside in
        let g = r.rest first b in
        let t = after k r.bounds r.past on g.opening g.scanning ends_at in
        found (step_over k t f (Ends true) s true refl starts' ends' kinds' y.put _ refl true refl refl) (all_clean x y)
    last_cell_lem before (by_pair m s z) {tells} x {starts'} {ends'} {kinds'} y first b =
        let k : Call = call_of d part first limit from room base starts₀ ends₀ kinds₀ in
        let i : stop ≤ length part = r.bounds.inside in
        let u : stop ≤ limit = r.bounds.under in
        let g = r.rest first b in
        let t = after k r.bounds r.past on g.opening g.scanning ends_at in
        let h : RecordState = state_after_byte (Tail true) e (extended_by (hand start at n) (e - at)) in
        let w = step_on k t Cr (Tail true) s true refl starts' ends' kinds' y.put h refl false refl refl in
        let a : Asked k Cr (e + 1) h starts' ends' kinds' (Is (Ok (Begin, Ends false))) = asked_lf first w (omega arith) (omega arith) z in
        let v = by_byte k a (Ok (Begin, Ends false)) refl in
        let o =
        step_over k v Begin (Ends false) refl false refl starts' ends' kinds' (
          not_stored false room (base + (n + 1)) (e + 1) starts' refl,
          (not_stored false room (base + (n + 1)) (e + 1) ends' refl, not_stored false room (base + (n + 1)) _ kinds' refl),
        ) _ refl true refl refl in
        let two : e + 1 + 1 ≡ e + 2 = omega arith in
        found (subst (λ (j : ℕ). Out k (reached.Completed start (n + 1) Begin j) starts' ends' kinds') two o) (all_clean x y)

  -- ---- fallback

  -- the cells found after those of the current record
  abbrev further : Buffered → (began : ℕ) → ScanResult → List RawCell
  further k began (pends s) = map (joined_cell k began) s.cells
  further k began (fails e s) = map (joined_cell k began) s.cells
  further k began (completes s cs f next left) = map (joined_cell k began) cs

  joined_further : (k : Buffered) (began : ℕ) (w : ScanResult) → (found_of (joined_to k began w)).cells ≡ k.cells ++ further k began w
  joined_further k began (pends s) = refl
  joined_further k began (fails e s) = refl
  joined_further k began (completes s cs f next left) = refl

  holds : {f : FileState} {b : ℕ} {k : Buffered} → Opening d b f → k.raw ≡ [] → (outer f ≡ true → k.cells ≡ []) → Holds f k
  holds at_begin e c = nothing_current e (c refl)
  holds (at_ended x) e c = nothing_current e (c refl)
  holds at_fresh e c = current refl
  holds (at_wanting x) e c = current refl

  pub odd : {clean : Bool} {at n : ℕ} {starts ends kinds : List ℕ} → Row clean at n starts ends kinds → (first : FileState)
      → FirstCellAt first part from (Some start) → FastScanSound d limit part from first room base starts₀ ends₀ kinds₀ starts ends kinds None
  unfolding joined_place joined_raw choose◌then◌else◌
  odd {at = at} {n = n} r first b =
      let g = r.rest first b in
      let y = g.scanning in
      let cs : List RawCell = y.cs in
      let k : Buffered = record { start = start; opened = at; raw = []; cells = cs } in
      let s : Scan = record { state = g.state; offset = at; start = at; size = at - start; opened = at; raw = []; cells = [] } in
      let same : joined k at s ≡ scan_at part g.state at (hand start at n) cs = rw (same_byte at, append-nil cs, part_end part at) in
      let seen : scan d limit (joined k at s) (drop at part) ≡ joined_to k at (scan d limit s (drop at part)) =
      view d limit k at s (drop at part) (holds g.opening refl y.place.rest) (omega arith) in
      is_fallback cs (further k at (scan d limit s (drop at part)))
      (ap (λ (x : Found). x.cells) y.same ∙ ap (λ (x : Scan). (found_in d limit x (drop at part)).cells) (sym same) ∙
      ap (λ (w : ScanResult). (found_of w).cells) seen ∙ joined_further k at (scan d limit s (drop at part)))
      (record { at_starts = y.lists.at_starts; at_ends = y.lists.at_ends; at_kinds = y.lists.at_kinds })

  -- the first cell begins
  pub row_begins : from ≤ length part → from ≤ limit → base ≤ from → limit ≤ MAXFILE
      → (room ≤ length starts₀) × (room ≤ length ends₀) × (room ≤ length kinds₀) → Bounds (length part) limit start stop → from ≤ start
      → start ≤ stop → start < length part → start < limit → {clean : Bool} → (clean ≡ true → quote_of d ≡ QUOTE) → Row clean start 0 starts₀ ends₀ kinds₀
  row_begins l m b low roomy w past to_stop inside under q =
      record {
        bounds = w;
        low = low;
        past = omega arith;
        to_stop = to_stop;
        few = omega arith;
        long = (refl, refl, refl);
        roomy = roomy;
        cleans = λ c. record { quotes = q c; each = λ k n. absurd (omega arith) };
        rest = λ first x. rest_begins d part limit from room base starts₀ ends₀ kinds₀ l m b low first x inside under;
      }
