-- What a call has written: it fits into the output, and each record's text and ending are appended to it.
use Prim.Native.Nat.{◌+◌, ◌≤◌}
use native.Mathlib.Omega.{arith}
use mathlib.Core.Path.{◌≡◌, sym, ap, ◌∙◌}
use Rattle.std.specs.Prelude.{Some}
use mathlib.Core.List.{List, [], ◌∷◌, ◌++◌, append_assoc, append-nil}
use lib.ListN.{length, drop, length-append}
use Rattle.model.specs.rules.Base.{Bytes, is_empty}
use Rattle.model.specs.rules.Text.{record_text, table_text, ending}
use Rattle.model.specs.rules.Report.{LEASTOUTPUT, MAXPIECE}
use Rattle.model.specs.rules.Records.{Rec, rows, Read, going, nothing_read, read_from, read_bytes, read_end, read_file, records_of}
use Rattle.model.specs.laws.Laws.{Grows}
use Rattle.model.specs.laws.Machine.{new_text}
use Rattle.model.proofs.file_laws.ReadAppend.{read_append, read_grows}
use Rattle.model.proofs.round_trip.TableText.{table_grows, rest_of}
use Rattle.model.proofs.piece_laws.MachineLaws.{new_text_lem}
use Rattle.model.proofs.piece_laws.Room.{piece_writes, end_writes}
use Rattle.piece_step.specs.Types.{Dialect, Target}

grown_length : {a b : Bytes} → Grows a b → length a ≤ length b
grown_length {a} g = omega (arith, ap length g.sum, length-append a g.added)

module _ (d : Dialect) (t : Target) where
  -- the records completed so far are among those of the whole piece
  module _ (xs : Bytes) (r : Read) (e : read_bytes d (Some t) xs ≡ going r) where
    -- what reading the bytes results in with a piece more
    pub reads_on : (piece : Bytes) → read_bytes d (Some t) (xs ++ piece) ≡ read_from d (Some t) (going r) piece
    unfolding read_bytes
    reads_on piece = read_append d (Some t) (going nothing_read) xs piece ∙ ap (λ p. read_from d (Some t) p piece) e

    -- a piece has room for its records so far
    pub piece_room :
        (piece rest : Bytes) (q : Read) → length piece ≤ MAXPIECE → read_from d (Some t) (going r) piece ≡ read_from d (Some t) (going q) rest →
        length (table_text t (rows q.done)) ≤ length (table_text t (rows r.done)) + LEASTOUTPUT
    piece_room piece rest q l s =
        let all : read_bytes d (Some t) (xs ++ piece) ≡ read_from d (Some t) (going q) rest = reads_on piece ∙ s in
        let most : length (table_text t (rows (records_of (read_bytes d (Some t) (xs ++ piece))))) ≤ length (table_text t (rows r.done)) + 49152 =
        piece_writes d t xs piece r e l in
        let most' : length (table_text t (rows (records_of (read_from d (Some t) (going q) rest)))) ≤ length (table_text t (rows r.done)) + 49152 =
        rw all at most in
        let some_of : length (table_text t (rows q.done)) ≤ length (table_text t (rows (records_of (read_from d (Some t) (going q) rest)))) =
        grown_length (table_grows t (read_grows d (Some t) (going q) rest)) in
        omega arith

    -- the end has room for the last record
    pub end_room :
        (q : Read) → read_end d (Some t) (going r) ≡ going q → length (table_text t (rows q.done)) ≤ length (table_text t (rows r.done)) + LEASTOUTPUT
    unfolding read_file
    end_room q s =
        let all : read_file d (Some t) xs ≡ going q = ap (read_end d (Some t)) e ∙ s in
        let most : length (table_text t (rows (records_of (read_file d (Some t) xs)))) ≤ length (table_text t (rows r.done)) + 49152 = end_writes d t xs r e in
        rw all at most

-- ---- the new text

module _ (t : Target) where
  -- what a call has written is as long as the text grew
  pub new_length : {a b : List Rec} → Grows a b → length (table_text t (rows a)) + length (new_text t a b) ≡ length (table_text t (rows b))
  unfolding new_text
  new_length {a} {b} g =
      let l : length (table_text t (rows a) ++ drop (length (table_text t (rows a))) (table_text t (rows b))) ≡ length (table_text t (rows b)) =
      ap length (rest_of (table_grows t g)) in
      omega (arith, length-append (table_text t (rows a)) (drop (length (table_text t (rows a))) (table_text t (rows b))))

  pub new_none : (done : List Rec) → new_text t done done ≡ []
  new_none done = (new_text_lem t).nothing done

  -- one record more
  pub new_more :
      {a b : List Rec} (x : Rec) → Grows a b → new_text t a (b ++ (x ∷ [])) ≡ new_text t a b ++ (record_text t (is_empty b) x.cells ++ ending t.dialect)
  new_more {a} {b} x g =
      let s : b ≡ a ++ g.added = g.sum in
      rw s ((new_text_lem t).one_more_lem a g.added x)

  pub grows_none : (a : List Rec) → Grows a a
  grows_none a = record { added = []; sum = sym (append-nil a) }

  pub grows_more : {a b : List Rec} (x : Rec) → Grows a b → Grows a (b ++ (x ∷ []))
  grows_more {a} x g = record { added = g.added ++ (x ∷ []); sum = ap (λ l. l ++ (x ∷ [])) g.sum ∙ append_assoc a g.added (x ∷ []) }
