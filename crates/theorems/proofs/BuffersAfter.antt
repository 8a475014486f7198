-- Demand 1: the lent lists and buffers after each call.
use Prim.Native.Nat.{ℕ, ◌≤◌}
use native.Mathlib.Omega.{arith}
use mathlib.Core.Path.{◌≡◌, refl, sym, ap, ◌∙◌}
use mathlib.Core.Logic.{◌≢◌}
use mathlib.Core.Bool.{Bool, true, false}
use Rattle.std.specs.Prelude.{Option, None, Some, Ok, Err, min}
use mathlib.Core.List.{List, [], ◌∷◌, ◌++◌, map}
use lib.Dec.{ltb}
use lib.ListN.{length, drop, length-append, length-drop, length-map}
use lib.Seq.{drop_at}
use borrow.Author.Tests.{ltb-false}
use Rattle.model.specs.declared.Report.{Report}
use Rattle.model.specs.declared.Dialect.{Dialect}
use Rattle.model.specs.declared.Target.{Target}
use Rattle.model.specs.rules.Types.{CellCheck}
use Rattle.model.specs.rules.Base.{Bytes, over, concat}
use Rattle.model.specs.rules.Dialect.{dialect_of, into}
use Rattle.model.specs.rules.Decode.{kind_number, content_of, validate_cell}
use Rattle.model.specs.rules.Text.{Value, table_text}
use Rattle.model.specs.rules.Report.{accepted, refusal}
use Rattle.model.specs.rules.Records.{Rec, rows, Progress, going, stopped, read_file}
use Rattle.model.specs.rules.Api.{Answer, answered, read_answer, reader, starts_of, ends_of, kinds_of, ReadCall, read_call, Decoded, decoded_as}
use Rattle.model.specs.rules.Api.{decoder, decoder_leaves, Written, fitted, converted_as, converter, converter_leaves, Table, rows_in, rows_fault}
use Rattle.model.specs.rules.Api.{written_rows, writer, writer_leaves}
use Rattle.model.proofs.Tests.{split}
use Rattle.theorems.specs.Demands.{Leaves}

-- what is written fits, and on refusal there is nothing
pub record Fits {A : Type 0} (told : Report) (new : List A) (room : ℕ) : Type 0 where
  pub few : length new ≤ room
  pub nothing : told ≢ accepted → new ≡ []

nothing_fits : {A : Type 0} (told : Report) (room : ℕ) → Fits {A = A} told [] room
nothing_fits told room = record { few = omega arith; nothing = λ _. refl }

all_fits : {A : Type 0} (new : List A) (room : ℕ) → length new ≤ room → Fits accepted new room
all_fits new room h = record { few = h; nothing = λ q. absurd (q refl) }

leaves_over : {told : Report} (new old : List ℕ) → Fits told new (length old) → Leaves told (length new) old (over new old)
leaves_over new old f =
    record {
      as_long = simp (length-append, length-drop) (omega (arith, f.few));
      on_refusal = λ q. rw (f.nothing q) refl;
      past_written = drop_at new (drop (length new) old) (length new) refl;
    }

-- ---- the reader

answered_fits : (rs : List Rec) (vs : List Value) (room : ℕ) → Fits (answered rs vs room).report (answered rs vs room).cells room
answered_fits [] vs room = nothing_fits accepted room
answered_fits (h ∷ rs) vs room =
    split (λ (a : Answer). Fits a.report a.cells room) (ltb room (length vs)) (λ _. nothing_fits (refusal 10) room)
    λ e. all_fits vs room (ltb-false room (length vs) e)

pub reader_fits : (n : ℕ) (file : Bytes) (room : ℕ) → Fits (reader n file room).report (reader n file room).cells room
unfolding reader
reader_fits n file room = by_dialect (dialect_of n)
  where
    by_end : (p : Progress) → Fits (read_answer p room).report (read_answer p room).cells room
    by_end (stopped e r) = nothing_fits _ room
    by_end (going r) = answered_fits r.done (concat (rows r.done)) room

    by_dialect : (o : Option Dialect) →
        let a : Answer
        = elim o as (λ _. Answer) [
          | None ↦ record { report = refusal 11; columns = 0; records = 0; cells = [] }
          | Some d ↦ read_answer (read_file d None file) room
        ] in
        Fits a.report a.cells room
    by_dialect None = nothing_fits (refusal 11) room
    by_dialect (Some d) = by_end (read_file d None file)

pub least_first : (a b : ℕ) → min a b ≤ a
least_first a b = omega arith

pub least_second : (a b : ℕ) → min a b ≤ b
least_second a b = omega arith

-- a list of numbers, one for each cell
mapped_leaves :
    {told : Report} (vs : List Value) (f : Value → ℕ) (room : ℕ) (old : List ℕ) → Fits told vs room → room ≤ length old →
    Leaves told (length vs) old (over (map f vs) old)
mapped_leaves {told} vs f room old h q =
    let long : length (map f vs) ≡ length vs = length-map vs f in
    let fits : Fits told (map f vs) (length old) = record { few = omega (arith, long, h.few, q); nothing = λ r. ap (map f) (h.nothing r) } in
    rw (← long) (leaves_over (map f vs) old fits)

pub reader_leaves :
    (n : ℕ) (file : Bytes) (starts ends kinds : List ℕ) (c : ReadCall) → c ≡ read_call n file starts ends kinds →
    Leaves c.report c.cells starts c.starts × Leaves c.report c.cells ends c.ends
    × Leaves c.report c.cells kinds c.kinds
unfolding read_call
reader_leaves n file starts ends kinds c e =
    let both : ℕ = min (length ends) (length kinds) in
    let room : ℕ = min (length starts) both in
    let a : Answer = reader n file room in
    let f : Fits a.report a.cells room = reader_fits n file room in
    let x : room ≤ length starts = least_first (length starts) both in
    let y : room ≤ both = least_second (length starts) both in
    let u : both ≤ length ends = least_first (length ends) (length kinds) in
    let v : both ≤ length kinds = least_second (length ends) (length kinds) in
    rw e (
      mapped_leaves a.cells (λ (w : Value). w.from) room starts f x,
      mapped_leaves a.cells (λ (w : Value). w.upto) room ends f (omega arith),
      mapped_leaves a.cells (λ (w : Value). kind_number w.kind) room kinds f (omega arith),
    )

-- ---- the decoder

pub decoder_leaves_lem :
    (n : ℕ) (raw : Bytes) (room : List ℕ) →
    Leaves (decoder n raw (length room)).report (length (decoder n raw (length room)).content) room (decoder_leaves n raw room)
unfolding decoder decoder_leaves
decoder_leaves_lem n raw room = leaves_over _ room (by_dialect (dialect_of n))
  where
    by_check : (d : Dialect) (c : CellCheck) → Fits (decoded_as d raw (length room) c).report (decoded_as d raw (length room) c).content (length room)
    by_check d (Err u) = nothing_fits _ (length room)
    by_check d (Ok _) =
        split (λ (a : Decoded). Fits a.report a.content (length room)) (ltb (length room) (length (content_of d raw)))
        (λ _. nothing_fits (refusal 10) (length room))
        λ e. all_fits (content_of d raw) (length room) (ltb-false (length room) (length (content_of d raw)) e)

    by_dialect : (o : Option Dialect) →
        let a : Decoded
        = elim o as (λ _. Decoded) [
          | None ↦ record { report = refusal 11; kind = 0; content = [] }
          | Some d ↦ decoded_as d raw (length room) (validate_cell d raw)
        ] in
        Fits a.report a.content (length room)
    by_dialect None = nothing_fits (refusal 11) (length room)
    by_dialect (Some d) = by_check d (validate_cell d raw)

-- ---- the converter and the writer

fitted_fits : (room : ℕ) (bs : Bytes) → Fits (fitted room bs).report (fitted room bs).text room
fitted_fits room bs =
    split (λ (w : Written). Fits w.report w.text room) (ltb room (length bs)) (λ _. nothing_fits (refusal 10) room)
    λ e. all_fits bs room (ltb-false room (length bs) e)

pub converter_fits : (m n : ℕ) (file : Bytes) (room : ℕ) → Fits (converter m n file room).report (converter m n file room).text room
unfolding converter
converter_fits m n file room = by_source (dialect_of m)
  where
    by_end : (t : Target) (p : Progress) → Fits (converted_as t room p).report (converted_as t room p).text room
    by_end t (stopped e r) = nothing_fits _ room
    by_end t (going r) = fitted_fits room (table_text t (rows r.done))

    by_target : (d : Dialect) (o : Option Dialect) →
        let w : Written
        = elim o as (λ _. Written)
        [ None ↦ record { report = refusal 11; text = [] } | Some t ↦ converted_as (into t) room (read_file d (Some (into t)) file) ] in
        Fits w.report w.text room
    by_target d None = nothing_fits (refusal 11) room
    by_target d (Some t) = by_end (into t) (read_file d (Some (into t)) file)

    by_source : (o : Option Dialect) →
        let w : Written = elim o as (λ _. Written) [
          | None ↦ record { report = refusal 11; text = [] }
          | Some d ↦ elim (dialect_of n) as (λ _. Written)
              [ None ↦ record { report = refusal 11; text = [] } | Some t ↦ converted_as (into t) room (read_file d (Some (into t)) file) ]
        ] in
        Fits w.report w.text room
    by_source None = nothing_fits (refusal 11) room
    by_source (Some d) = by_target d (dialect_of n)

pub converter_leaves_lem :
    (m n : ℕ) (file : Bytes) (room : List ℕ) →
    Leaves (converter m n file (length room)).report (length (converter m n file (length room)).text) room
    (converter_leaves m n file room)
unfolding converter_leaves
converter_leaves_lem m n file room = leaves_over _ room (converter_fits m n file (length room))

pub writer_fits : (n : ℕ) (table : Table) (room : ℕ) → Fits (writer n table room).report (writer n table room).text room
unfolding writer
writer_fits n table room = by_dialect (dialect_of n)
  where
    by_fault : (t : Target) (rs : List (List Value)) (o : Option Report) → Fits (written_rows t room rs o).report (written_rows t room rs o).text room
    by_fault t rs (Some e) = nothing_fits e room
    by_fault t rs None = fitted_fits room (table_text t rs)

    by_rows : (t : Target) (o : Option (List (List Value))) →
        let w : Written = elim o as (λ _. Written) [ None ↦ record { report = refusal 12; text = [] } | Some rs ↦ written_rows t room rs (rows_fault t rs) ] in
        Fits w.report w.text room
    by_rows t None = nothing_fits (refusal 12) room
    by_rows t (Some rs) = by_fault t rs (rows_fault t rs)

    by_dialect : (o : Option Dialect) →
        let w : Written = elim o as (λ _. Written) [
          | None ↦ record { report = refusal 11; text = [] }
          | Some t ↦ elim (rows_in table) as (λ _. Written)
              [ None ↦ record { report = refusal 12; text = [] } | Some rs ↦ written_rows (into t) room rs (rows_fault (into t) rs) ]
        ] in
        Fits w.report w.text room
    by_dialect None = nothing_fits (refusal 11) room
    by_dialect (Some t) = by_rows (into t) (rows_in table)

pub writer_leaves_lem :
    (n : ℕ) (table : Table) (room : List ℕ) →
    Leaves (writer n table (length room)).report (length (writer n table (length room)).text) room (writer_leaves n table room)
unfolding writer_leaves
writer_leaves_lem n table room = leaves_over _ room (writer_fits n table (length room))
