-- The reader's checks of a complete record are the record checks of a derivation's line: columns, text, distinct names and equal
-- counts. A list of lines passes the checks one after the other (`ChecksFrom`) exactly where they hold of the whole list.
use Prim.Native.Nat.{ℕ, suc, ◌≤◌}
use native.Mathlib.Omega.{arith}
use mathlib.Core.Path.{◌≡◌, refl, sym, ap, ◌∙◌}
use mathlib.Core.Logic.{◌≢◌}
use mathlib.Core.Bool.{Bool, true, false, not}
use Rattle.std.specs.Prelude.{None}
use mathlib.Core.List.{List, [], ◌∷◌, ◌++◌}
use lib.ListN.{length}
use lib.Dec.{ltb, eqb}
use borrow.Author.Tests.{ltb-false, le-ltb, eqb-true, eq-eqb, not-false}
use Rattle.grammar.specs.rfc.Types.{Kind, Text, Number, True, False, Null, Dialect, Fault, TooManyColumns, HeaderKind, RepeatedName, CellCount}
use Rattle.grammar.specs.rfc.Types.{CheckResult, Ok, Err}
use Rattle.model.specs.rules.Base.{Bytes, choose◌then◌else◌, same}
use Rattle.model.specs.rules.Text.{Value, is_text}
use Rattle.model.specs.rules.Report.{MAXCOLUMNS}
use Rattle.model.specs.rules.Records.{Rec, ◌or_else◌, when, name_key, among, repeat_from, repeat_fault, header_kind_from, header_fault, data_fault, record_fault}
use Rattle.model.proofs.file_laws.CheckResults.{fault_sound, else_sound, when_sound}
use Rattle.model.proofs.Tests.{impossible, and_true, is→eq, same_byte}
use Rattle.grammar.specs.rfc.Derived.{Derived, kind_in, content_in, Line, line, cells_in, Every, every_none, every_cons, Each, each_none, each_cons}
use Rattle.grammar.specs.Accepted.{Distinct, no_names, a_name, ChecksHold, checks_hold, ShowsCell, ShowsRecord}

-- ---- check results

sound_both : (v w : CheckResult) → v ≡ Ok tt → w ≡ Ok tt → (v or_else w) ≡ Ok tt
unfolding ◌or_else◌
sound_both v w p q = rw (p, q)

sound_when : (t : Bool) (e : Fault) → t ≡ false → when t e ≡ Ok tt
unfolding when
sound_when t e p = rw p

-- ---- text

pub not_text : (k : Kind) → not (is_text k) ≡ false → k ≡ Text
not_text Text p = refl
not_text Number p = impossible (sym p)
not_text True p = impossible (sym p)
not_text False p = impossible (sym p)
not_text Null p = impossible (sym p)

module _ {file : Bytes} where
  texts : {vs : List Value} {cs : List Derived} (n : ℕ) → Each (ShowsCell file) vs cs → header_kind_from n vs ≡ Ok tt → Every (λ c. kind_in c ≡ Text) cs
  unfolding header_kind_from
  texts n each_none p = every_none
  texts n (each_cons {x = v} {xs = vs} s k) p =
      let q = else_sound (when (not (is_text v.kind)) (HeaderKind n)) (header_kind_from (suc n) vs) p in
      every_cons (sym s.kind ∙ not_text v.kind (when_sound _ _ q.0)) (texts (suc n) k q.1)

  all_text : {vs : List Value} {cs : List Derived} (n : ℕ) → Each (ShowsCell file) vs cs → Every (λ c. kind_in c ≡ Text) cs → header_kind_from n vs ≡ Ok tt
  unfolding header_kind_from
  all_text n each_none every_none = refl
  all_text n (each_cons {x = v} {xs = vs} s k) (every_cons e m) =
      let q : not (is_text v.kind) ≡ false = rw (s.kind ∙ e) in
      sound_both (when (not (is_text v.kind)) (HeaderKind n)) (header_kind_from (suc n) vs) (sound_when _ _ q) (all_text (suc n) k m)

-- ---- distinct names

same_eq : (x y : Bytes) → same x y ≡ true → x ≡ y
unfolding same
same_eq [] [] p = refl
same_eq [] (y ∷ ys) p = impossible p
same_eq (x ∷ xs) [] p = impossible p
same_eq (x ∷ xs) (y ∷ ys) p = let q = and_true (eqb x y) (same xs ys) p in rw (is→eq x y q.0, same_eq xs ys q.1)

same_refl : (x : Bytes) → same x x ≡ true
unfolding same
same_refl [] = refl
same_refl (x ∷ xs) = rw (same_byte x, same_refl xs)

same_not : (x y : Bytes) → x ≢ y → same x y ≡ false
same_not x y n = go (same x y) refl
  where
    go : (t : Bool) → same x y ≡ t → same x y ≡ false
    go true p = absurd (n (same_eq x y p))
    go false p = p

not_same : (x y : Bytes) → same x y ≡ false → x ≢ y
not_same x y p e = impossible (sym p ∙ (rw e (same_refl y)))

-- among the names seen
pub among_cons : (x y : Bytes) (ys : List Bytes) → among x (y ∷ ys) ≡ false → (x ≢ y) × (among x ys ≡ false)
unfolding among choose◌then◌else◌
among_cons x y ys p = go (same x y) refl
  where
    go : (t : Bool) → same x y ≡ t → (x ≢ y) × (among x ys ≡ false)
    go true q = impossible (sym (rw q at p))
    go false q = (not_same x y q, rw q at p)

pub cons_among : (x y : Bytes) (ys : List Bytes) → x ≢ y → among x ys ≡ false → among x (y ∷ ys) ≡ false
unfolding among choose◌then◌else◌
cons_among x y ys n p = rw (same_not x y n, p)

module _ (d : Dialect) where
  abbrev key_of : Derived → Bytes
  key_of c = name_key d (content_in c)

  -- these names are not seen
  abbrev Unseen : List Bytes → List Derived → Type 0
  Unseen seen cs = Every (λ c. among (key_of c) seen ≡ false) cs

  unseen_cons : (y : Bytes) (seen : List Bytes) {cs : List Derived} → Unseen (y ∷ seen) cs → Every (λ c. key_of c ≢ y) cs × Unseen seen cs
  unseen_cons y seen every_none = (every_none, every_none)
  unseen_cons y seen (every_cons {x = c} p k) =
      let q = among_cons (key_of c) y seen p in let m = unseen_cons y seen k in (every_cons q.0 m.0, every_cons q.1 m.1)

  cons_unseen : (y : Bytes) (seen : List Bytes) {cs : List Derived} → Every (λ c. key_of c ≢ y) cs → Unseen seen cs → Unseen (y ∷ seen) cs
  cons_unseen y seen every_none every_none = every_none
  cons_unseen y seen (every_cons {x = c} n k) (every_cons p m) = every_cons (cons_among (key_of c) y seen n p) (cons_unseen y seen k m)

  module _ {file : Bytes} where
    distinct :
        {vs : List Value} {cs : List Derived} (seen : List Bytes) (n : ℕ) → Each (ShowsCell file) vs cs →
        repeat_from d RepeatedName seen n vs ≡ Ok tt → Unseen seen cs × Distinct d cs
    unfolding repeat_from choose◌then◌else◌
    distinct seen n each_none p = (every_none, no_names)
    distinct seen n (each_cons {x = v} {xs = vs} {y = c} {ys = cs} s k) p = go (among key seen) refl (λ q. distinct (key ∷ seen) (suc n) k q)
      where
        key : Bytes
        key = name_key d v.content

        key_is : key ≡ key_of c
        key_is = ap (name_key d) s.content

        go :
            (t : Bool) → among key seen ≡ t →
            (repeat_from d RepeatedName (key ∷ seen) (suc n) vs ≡ Ok tt → Unseen (key ∷ seen) cs × Distinct d cs) →
            Unseen seen (c ∷ cs) × Distinct d (c ∷ cs)
        go true q ih = fault_sound (rw q at p)
        go false q ih =
            let m = ih (rw q at p) in
            let u = unseen_cons key seen m.0 in
            let w : Every (λ x. key_of x ≢ key_of c) cs = rw key_is at u.0 in
            (every_cons (rw key_is at q) u.1, a_name w m.1)

    all_distinct :
        {vs : List Value} {cs : List Derived} (seen : List Bytes) (n : ℕ) → Each (ShowsCell file) vs cs → Unseen seen cs → Distinct d cs →
        repeat_from d RepeatedName seen n vs ≡ Ok tt
    unfolding repeat_from choose◌then◌else◌
    all_distinct seen n each_none u m = refl
    all_distinct seen n (each_cons {x = v} {xs = vs} {y = c} {ys = cs} s k) (every_cons p u) (a_name w m) =
        let key : Bytes = name_key d v.content in
        let e : key ≡ key_of c = ap (name_key d) s.content in
        let q : among key seen ≡ false = rw e p in
        let x : Every (λ x. key_of x ≢ key) cs = rw e w in
        rw q (all_distinct (key ∷ seen) (suc n) k (cons_unseen key seen x u) m)

  unseen_none : (cs : List Derived) → Unseen [] cs
  unfolding among
  unseen_none [] = every_none
  unseen_none (c ∷ cs) = every_cons refl (unseen_none cs)

-- ---- a record after others

pub each_length : {A B : Type 0} {R : A → B → Type 0} {xs : List A} {ys : List B} → Each R xs ys → length xs ≡ length ys
each_length each_none = refl
each_length (each_cons r k) = ap suc (each_length k)

-- the checks of a line that follows these
pub data LineSound (d : Dialect) : List (Line Derived) → List Derived → Type 0 where
  header_sound : {cs : List Derived} → length cs ≤ MAXCOLUMNS → Every (λ c. kind_in c ≡ Text) cs → Distinct d cs → LineSound d [] cs
  data_sound :
      {h : Line Derived} {hs : List (Line Derived)} {cs : List Derived} → length cs ≤ MAXCOLUMNS → length cs ≡ length (cells_in h) →
      LineSound d (h ∷ hs) cs

module _ (d : Dialect) {file : Bytes} where
  header_checked : {vs : List Value} {cs : List Derived} → Each (ShowsCell file) vs cs → header_fault d vs ≡ Ok tt → LineSound d [] cs
  unfolding header_fault repeat_fault
  header_checked {vs} {cs} k p =
      let l : length vs ≡ length cs = each_length k in
      let x = else_sound (when (ltb MAXCOLUMNS (length vs)) TooManyColumns) (header_kind_from 1 vs or_else repeat_from d RepeatedName [] 1 vs) p in
      let y = else_sound (header_kind_from 1 vs) (repeat_from d RepeatedName [] 1 vs) x.1 in
      header_sound (rw l at (ltb-false MAXCOLUMNS (length vs) (when_sound _ _ x.0))) (texts 1 k y.0) (distinct d [] 1 k y.1).1

  header_sound_checked : {vs : List Value} {cs : List Derived} → Each (ShowsCell file) vs cs → LineSound d [] cs → header_fault d vs ≡ Ok tt
  unfolding header_fault repeat_fault
  header_sound_checked {vs} {cs} k (header_sound c t m) =
      let l : length vs ≡ length cs = each_length k in
      let h : length vs ≤ MAXCOLUMNS = rw l c in
      sound_both (when (ltb MAXCOLUMNS (length vs)) TooManyColumns) (header_kind_from 1 vs or_else repeat_from d RepeatedName [] 1 vs)
      (sound_when _ _ (le-ltb MAXCOLUMNS (length vs) h))
      (sound_both (header_kind_from 1 vs) (repeat_from d RepeatedName [] 1 vs) (all_text 1 k t) (all_distinct d [] 1 k (unseen_none d cs) m))

  data_checked :
      {vs : List Value} {cs : List Derived} {h : Line Derived} {hs : List (Line Derived)} (n : ℕ) → n ≡ length (cells_in h) →
      Each (ShowsCell file) vs cs → data_fault n vs ≡ Ok tt → LineSound d (h ∷ hs) cs
  unfolding data_fault
  data_checked {vs} {cs} n e k p =
      let l : length vs ≡ length cs = each_length k in
      let x = else_sound (when (ltb MAXCOLUMNS (length vs)) TooManyColumns) (when (not (eqb (length vs) n)) CellCount) p in
      let q : length vs ≡ n = eqb-true (length vs) n (not-false (eqb (length vs) n) (when_sound _ _ x.1)) in
      data_sound (rw l at (ltb-false MAXCOLUMNS (length vs) (when_sound _ _ x.0))) (sym l ∙ q ∙ e)

  data_sound_checked :
      {vs : List Value} {cs : List Derived} {h : Line Derived} {hs : List (Line Derived)} (n : ℕ) → n ≡ length (cells_in h) →
      Each (ShowsCell file) vs cs → LineSound d (h ∷ hs) cs → data_fault n vs ≡ Ok tt
  unfolding data_fault
  data_sound_checked {vs} {cs} n e k (data_sound c q) =
      let l : length vs ≡ length cs = each_length k in
      let h : length vs ≤ MAXCOLUMNS = rw l c in
      let f : not (eqb (length vs) n) ≡ false = rw (eq-eqb (length vs) n (l ∙ q ∙ sym e)) in
      sound_both (when (ltb MAXCOLUMNS (length vs)) TooManyColumns) (when (not (eqb (length vs) n)) CellCount)
      (sound_when _ _ (le-ltb MAXCOLUMNS (length vs) h)) (sound_when _ _ f)

  pub record_checked :
      {done : List Rec} {pre : List (Line Derived)} {vs : List Value} {cs : List Derived} → Each (ShowsRecord file) done pre →
      Each (ShowsCell file) vs cs → record_fault d None done vs ≡ Ok tt → LineSound d pre cs
  unfolding record_fault
  record_checked {vs} each_none k p = header_checked k (else_sound (header_fault d vs) (Ok tt) p).0
  record_checked {vs} (each_cons {x = h} s m) k p =
      data_checked (length h.cells) (each_length s.cells) k (else_sound (data_fault (length h.cells) vs) (Ok tt) p).0

  pub record_sound_checked :
      {done : List Rec} {pre : List (Line Derived)} {vs : List Value} {cs : List Derived} → Each (ShowsRecord file) done pre →
      Each (ShowsCell file) vs cs → LineSound d pre cs → record_fault d None done vs ≡ Ok tt
  unfolding record_fault
  record_sound_checked {vs} each_none k p = sound_both (header_fault d vs) (Ok tt) (header_sound_checked k p) refl
  record_sound_checked {vs} (each_cons {x = h} s m) k p =
      sound_both (data_fault (length h.cells) vs) (Ok tt) (data_sound_checked (length h.cells) (each_length s.cells) k p) refl

-- ---- one after the other

pub data ChecksFrom (d : Dialect) : List (Line Derived) → List (Line Derived) → Type 0 where
  checks_none : {pre : List (Line Derived)} → ChecksFrom d pre []
  checks_next :
      {pre ls : List (Line Derived)} {text : Bytes} {cells : List Derived} → LineSound d pre cells →
      ChecksFrom d (pre ++ (line text cells ∷ [])) ls → ChecksFrom d pre (line text cells ∷ ls)

module _ (d : Dialect) where
  -- the data records
  data_hold :
      {h : Line Derived} {hs ls : List (Line Derived)} → ChecksFrom d (h ∷ hs) ls →
      Every (λ l. length (cells_in l) ≡ length (cells_in h)) ls × Every (λ l. length (cells_in l) ≤ MAXCOLUMNS) ls
  data_hold checks_none = (every_none, every_none)
  data_hold (checks_next (data_sound c e) k) = let m = data_hold k in (every_cons e m.0, every_cons c m.1)

  hold_data :
      {h : Line Derived} (hs : List (Line Derived)) {ls : List (Line Derived)} → Every (λ l. length (cells_in l) ≡ length (cells_in h)) ls →
      Every (λ l. length (cells_in l) ≤ MAXCOLUMNS) ls → ChecksFrom d (h ∷ hs) ls
  hold_data hs every_none every_none = checks_none
  hold_data hs (every_cons {x = line text cells} e k) (every_cons c m) = checks_next (data_sound c e) (hold_data (hs ++ (line text cells ∷ [])) k m)

  pub checks_all :
      {l : Line Derived} {ls : List (Line Derived)} → ChecksFrom d [] (l ∷ ls) →
      ChecksHold d (l ∷ ls) × Every (λ l. length (cells_in l) ≤ MAXCOLUMNS) (l ∷ ls)
  checks_all (checks_next (header_sound c t m) k) = let x = data_hold k in (checks_hold t m x.0, every_cons c x.1)

  pub all_checks : {ls : List (Line Derived)} → ChecksHold d ls → Every (λ l. length (cells_in l) ≤ MAXCOLUMNS) ls → ChecksFrom d [] ls
  all_checks (checks_hold t m e) (every_cons c k) = checks_next (header_sound c t m) (hold_data [] e k)
