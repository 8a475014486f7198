-- What the event of the next record says of reading.
use Prim.Native.Nat.{ℕ}
use native.Mathlib.Omega.{arith}
use mathlib.Core.Path.{◌≡◌, refl, sym, ap}
use mathlib.Core.Bool.{true}
use Rattle.std.specs.Prelude.{Option}
use mathlib.Core.List.{List, []}
use lib.ListN.{length, drop}
use Rattle.model.specs.declared.Dialect.{Dialect}
use Rattle.model.specs.declared.Target.{Target}
use Rattle.model.specs.declared.FileState.{FileState}
use Rattle.model.specs.declared.FileState.TheVariants.{Begin}
use Rattle.model.specs.declared.Fault.{Fault}
use Rattle.model.specs.rules.Base.{Bytes}
use Rattle.model.specs.rules.Report.{is_at_byte}
use Rattle.model.specs.rules.Records.{Rec, Read, Progress, stopped, complete, read_from, read_end, end_between}
use Rattle.file_cursor.specs.Next.{Next}
use Rattle.file_cursor.specs.FileOutcome.{ReadsAs, after_record, after_last, after_fault, after_all}
use Rattle.file_cursor.specs.Types.{Completed, LastRecord, Failed, End}

other : {A : Type 0} → ◌≡◌ {A = ℕ} 0 1 → A
other z = absurd (omega arith)

module _ (d : Dialect) (target : Option Target) (file : Bytes) (rs : List Rec) (n : Next) (p : Progress) where
  pub record AtRecord (start cells : ℕ) (f : FileState) (o : ℕ) : Type 0 where
    pub r : Read
    pub done : r.done ≡ rs
    pub starts : r.start ≡ start
    pub counts : length n.cells ≡ cells
    pub rest : p ≡ read_end d target (read_from d target (complete d target r n.cells f o) (drop o file))

  pub record AtLast (start cells : ℕ) : Type 0 where
    pub r : Read
    pub done : r.done ≡ rs
    pub starts : r.start ≡ start
    pub counts : length n.cells ≡ cells
    pub rest : p ≡ complete d target r n.cells Begin (length file)

  pub record AtFault (e : Fault) (o : ℕ) : Type 0 where
    pub r : Read
    pub done : r.done ≡ rs
    pub place : r.offset ≡ o
    pub byte : is_at_byte e ≡ true
    pub rest : p ≡ stopped e r

  pub record AtFinish (o : ℕ) : Type 0 where
    pub r : Read
    pub done : r.done ≡ rs
    pub place : r.offset ≡ o
    pub none_left : n.cells ≡ []
    pub rest : p ≡ end_between r rs

pub on_record :
    (d : Dialect) (target : Option Target) (file : Bytes) (rs : List Rec) (n : Next) (p : Progress) → ReadsAs d target file rs n p →
    (s k : ℕ) (f : FileState) (o : ℕ) → n.event ≡ Completed s k f o → AtRecord d target file rs n p s k f o
on_record d target file rs n p (after_record r vs g i q) s k f o e =
    let a : r.start ≡ s = cc in
    let b : length vs ≡ k = cc in
    let c : g ≡ f = cc in
    let h : i ≡ o = cc in
    record { r = r; done = q; starts = a; counts = b; rest = rw (c, h) refl }
on_record d target file rs n p (after_last r vs q l) s k f o e = other cc
on_record d target file rs n p (after_fault x r vs q t) s k f o e = other cc
on_record d target file rs n p (after_all r q) s k f o e = other cc

pub on_last :
    (d : Dialect) (target : Option Target) (file : Bytes) (rs : List Rec) (n : Next) (p : Progress) → ReadsAs d target file rs n p →
    (s k : ℕ) → n.event ≡ LastRecord s k → AtLast d target file rs n p s k
on_last d target file rs n p (after_record r vs g i q) s k e = other cc
on_last d target file rs n p (after_last r vs q l) s k e =
    let a : r.start ≡ s = cc in
    let b : length vs ≡ k = cc in
    record { r = r; done = q; starts = a; counts = b; rest = ap (complete d target r vs Begin) l }
on_last d target file rs n p (after_fault x r vs q t) s k e = other cc
on_last d target file rs n p (after_all r q) s k e = other cc

pub on_fault :
    (d : Dialect) (target : Option Target) (file : Bytes) (rs : List Rec) (n : Next) (p : Progress) → ReadsAs d target file rs n p →
    (x : Fault) (o : ℕ) → n.event ≡ Failed x o → AtFault d target file rs n p x o
on_fault d target file rs n p (after_record r vs g i q) x o e = other cc
on_fault d target file rs n p (after_last r vs q l) x o e = other cc
on_fault d target file rs n p (after_fault y r vs q t) x o e =
    let a : y ≡ x = cc in
    let b : r.offset ≡ o = cc in
    record { r = r; done = q; place = b; byte = rw (sym a) t; rest = rw a refl }
on_fault d target file rs n p (after_all r q) x o e = other cc

pub on_finish :
    (d : Dialect) (target : Option Target) (file : Bytes) (rs : List Rec) (n : Next) (p : Progress) → ReadsAs d target file rs n p →
    (o : ℕ) → n.event ≡ End o → AtFinish d target file rs n p o
on_finish d target file rs n p (after_record r vs g i q) o e = other cc
on_finish d target file rs n p (after_last r vs q l) o e = other cc
on_finish d target file rs n p (after_fault y r vs q t) o e = other cc
on_finish d target file rs n p (after_all r q) o e = let b : r.offset ≡ o = cc in record { r = r; done = q; place = b; none_left = refl; rest = refl }
