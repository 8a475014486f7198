-- The table of faults as the rules define it. After bytes that were read without a fault, within the limits: the next byte is fault 2
-- or 3 exactly where no file continues with it (`refused_file`), it is 2 exactly where it breaks the UTF-8 table of a text it belongs
-- to (`encoding_file`), and so it is 3 exactly where it is neither (`syntax_file`).
use Prim.Native.Nat.{ℕ, ◌<◌}
use native.Mathlib.Omega.{arith}
use mathlib.Core.Path.{◌≡◌, refl, sym, ap, ◌∙◌}
use mathlib.Core.Logic.{◌↔◌}
use mathlib.Core.Bool.{true, false}
use Rattle.std.specs.Prelude.{Option}
use mathlib.Core.List.{[], ◌∷◌, ◌++◌}
use lib.ListN.{length, length-append}
use Rattle.model.specs.rules.Types.{Dialect, Target, ByteFault, Encoding, Syntax, FileState, Top, ByteRole, Outside, Passed, OfCell, Between}
use Rattle.model.specs.rules.Types.{Tail, Ends, Step, Ok, Err, Fault, Byte, CheckResult}
use Rattle.model.specs.rules.Base.{Bytes, choose◌then◌else◌}
use Rattle.model.specs.rules.File.{file_step}
use Rattle.model.specs.rules.Records.{Read, Progress, going, stopped, nothing_read, record_fault, file_full, record_full, read_byte, read_from}
use Rattle.model.specs.rules.Records.{read_bytes, move, complete, validated, closing}
use Rattle.model.specs.laws.Viable.{Completes, completed, onward, CanGoOn, text_at, breaks}
use Rattle.model.proofs.Tests.{split, impossible}
use Rattle.model.proofs.file_laws.ReadAppend.{read_append, read_stopped}
use Rattle.model.proofs.file_laws.Viable.{Viable, refused_iff}
use Rattle.model.proofs.cell_laws.Encoding.{encoding_iff, syntax_whole}
use Rattle.model.specs.rules.Report.{is_at_byte}
use Rattle.model.proofs.file_laws.RecordFaults.{OfRecord, of_sound, of_fault, fault_record}
use Rattle.model.proofs.file_laws.FileSteps.{step_parts}

-- ---- the state of a file is the one that its bytes lead to, by form alone

data Leads (d : Dialect) : FileState → Bytes → FileState → Type 0 where
  leads_here : {f : FileState} → Leads d f [] f
  leads_on : {f f' g : FileState} {p : ByteRole} {b : ℕ} {bs : Bytes} → file_step d f b ≡ Ok (f', p) → Leads d f' bs g → Leads d f (b ∷ bs) g

leads_completes : {d : Dialect} {f g : FileState} {xs zs : Bytes} → Leads d f xs g → Completes d g zs → Completes d f (xs ++ zs)
leads_completes leads_here k = k
leads_completes (leads_on e l) k = onward e (leads_completes l k)

next_completes :
    (d : Dialect) (f f' : FileState) (p : ByteRole) (b : ℕ) (bs : Bytes) → file_step d f b ≡ Ok (f', p) → 0 < length bs →
    Completes d f (b ∷ bs) → Completes d f' bs
next_completes d f f' p b bs e h (completed x) = absurd (omega arith)
next_completes d f f' p b bs e h (onward x k) = rw (step_parts x e).0 at k

completes_after : {d : Dialect} {f g : FileState} {xs : Bytes} (zs : Bytes) → 0 < length zs → Leads d f xs g → Completes d f (xs ++ zs) → Completes d g zs
completes_after zs h leads_here k = k
completes_after {d} zs h (leads_on {f} {f'} {p} {b} {bs} e l) k =
    let n : 0 < length (bs ++ zs) = omega (arith, length-append bs zs) in
    completes_after zs h l (next_completes d f f' p b (bs ++ zs) e n k)

validated_form : {A : Type 0} (r next : Read) (v : CheckResult) (e : ByteFault) → OfRecord v → validated r next v ≡ stopped (Byte e) r → A
validated_form r next (Ok _) e of_sound h = let z : ◌≡◌ {A = ℕ} 0 1 = cc in absurd (omega arith)
validated_form r next (Err x) e (of_fault k) h = let q : x ≡ Byte e = cc in impossible (sym k ∙ ap is_at_byte q)

module _ (d : Dialect) (target : Option Target) where
  -- a byte that was read moved the file by form
  data Moves (r : Read) (b : ℕ) : Progress → Type 0 where
    moves : {next : Read} {p : ByteRole} → file_step d r.state b ≡ Ok (next.state, p) → Moves r b (going next)
    halts : {e : Fault} {at : Read} → Moves r b (stopped e at)

  validated_moves : (r next : Read) (b : ℕ) (p : ByteRole) (v : CheckResult) → file_step d r.state b ≡ Ok (next.state, p) → Moves r b (validated r next v)
  validated_moves r next b p (Ok _) e = moves e
  validated_moves r next b p (Err x) e = halts

  move_moves : (r : Read) (b : ℕ) (s : Step) → file_step d r.state b ≡ s → Moves r b (move d target r b s)
  unfolding move complete
  move_moves r b (Err x) e = halts
  move_moves r b (Ok (f, Outside)) e = moves e
  move_moves r b (Ok (f, Passed)) e = moves e
  move_moves r b (Ok (f, OfCell)) e = moves e
  move_moves r b (Ok (f, Between k)) e = moves e
  move_moves r b (Ok (f, Tail k)) e = moves e
  move_moves r b (Ok (f, Ends k)) e = validated_moves r _ b (Ends k) (record_fault d target r.done (closing d k r)) e

  byte_moves : (r : Read) (b : ℕ) → Moves r b (read_byte d target r b)
  unfolding read_byte
  byte_moves r b =
      split (Moves r b) _ (λ _. halts) λ _. split (Moves r b) _ (λ _. halts) λ _. move_moves r b (file_step d r.state b) refl

  no_stop : {A : Type 0} {e : Fault} {r at : Read} → going r ≡ stopped e at → A
  no_stop x = let z : ◌≡◌ {A = ℕ} 0 1 = cc in absurd (omega arith)

  -- only a refusal by form is fault 2 or 3
  move_refused : (r : Read) (b : ℕ) (s : Step) (e : ByteFault) → move d target r b s ≡ stopped (Byte e) r → s ≡ Err e
  unfolding move complete
  move_refused r b (Err x) e h = let q : x ≡ e = cc in ap Err q
  move_refused r b (Ok (f, Outside)) e h = no_stop h
  move_refused r b (Ok (f, Passed)) e h = no_stop h
  move_refused r b (Ok (f, OfCell)) e h = no_stop h
  move_refused r b (Ok (f, Between k)) e h = no_stop h
  move_refused r b (Ok (f, Tail k)) e h = no_stop h
  move_refused r b (Ok (f, Ends k)) e h =
      validated_form r _ (record_fault d target r.done (closing d k r)) e (fault_record d target r.done (closing d k r)) h

  no_going : {A : Type 0} {e : Fault} {at r : Read} → stopped e at ≡ going r → A
  no_going x = let z : ◌≡◌ {A = ℕ} 0 1 = cc in absurd (omega arith)

  read_leads : (q : Read) (xs : Bytes) (r : Read) → read_from d target (going q) xs ≡ going r → Leads d q.state xs r.state
  unfolding read_from
  read_leads q [] r e = let h : q ≡ r = cc in rw h leads_here
  read_leads q (x ∷ xs) r e = go (read_byte d target q x) (byte_moves q x) e (λ next. read_leads next xs r)
    where
      go :
          (p : Progress) → Moves q x p → read_from d target p xs ≡ going r →
          ((next : Read) → read_from d target (going next) xs ≡ going r → Leads d next.state xs r.state) →
          Leads d q.state (x ∷ xs) r.state
      go (going next) (moves m) k ih = leads_on m (ih next k)
      go (stopped y at) halts k ih = no_going (sym (read_stopped d target y at xs) ∙ k)

  file_leads : (xs : Bytes) (r : Read) → read_bytes d target xs ≡ going r → Leads d Top xs r.state
  unfolding read_bytes nothing_read
  file_leads xs r e = read_leads nothing_read xs r e

  -- the byte after them, within the limits
  module _ (xs : Bytes) (r : Read) (b : ℕ) (read : read_bytes d target xs ≡ going r) (file : file_full r ≡ false) (size : record_full r b ≡ false) where
    next_byte : read_bytes d target (xs ++ (b ∷ [])) ≡ move d target r b (file_step d r.state b)
    unfolding read_bytes read_from read_byte choose◌then◌else◌
    next_byte = rw (read_append, read, file, size)

    rejected : (e : ByteFault) → file_step d r.state b ≡ Err e → read_bytes d target (xs ++ (b ∷ [])) ≡ stopped (Byte e) r
    unfolding move
    rejected e h = next_byte ∙ rw h

    refused : (e : ByteFault) → read_bytes d target (xs ++ (b ∷ [])) ≡ stopped (Byte e) r → file_step d r.state b ≡ Err e
    refused e h = move_refused r b (file_step d r.state b) e (sym next_byte ∙ h)

    viable_file : Viable d r.state b → CanGoOn d xs b
    viable_file v = (v.0, leads_completes (file_leads xs r read) v.1)

    file_viable : CanGoOn d xs b → Viable d r.state b
    file_viable g = (g.0, completes_after (b ∷ g.0) (omega arith) (file_leads xs r read) g.1)

    -- fault 2 or 3, exactly where no file continues with this byte
    pub refused_file : ((e : ByteFault) × (read_bytes d target (xs ++ (b ∷ [])) ≡ stopped (Byte e) r)) ↔ ¬ (CanGoOn d xs b)
    refused_file =
        let v = refused_iff d r.state b in (
          λ h g. v.0 (h.0, refused h.0 h.1) (file_viable g),
          λ n. let x = v.1 (λ g. n (viable_file g)) in (x.0, rejected x.0 x.1),
        )

    -- fault 2, exactly where it breaks the UTF-8 table
    pub encoding_file : (read_bytes d target (xs ++ (b ∷ [])) ≡ stopped (Byte Encoding) r) ↔ (breaks (text_at d r.state) b ≡ true)
    encoding_file =
        let v = encoding_iff d r.state b in
        (λ h. v.0 (refused Encoding h), λ t. rejected Encoding (v.1 t))

    -- fault 3, exactly where no file continues with it and it does not break the table
    pub syntax_file : (read_bytes d target (xs ++ (b ∷ [])) ≡ stopped (Byte Syntax) r) ↔ (¬ (CanGoOn d xs b) × (breaks (text_at d r.state) b ≡ false))
    syntax_file =
        let v = refused_file in
        let w = encoding_iff d r.state b in (
          λ h. (v.0 (Syntax, h), syntax_whole d r.state b (refused Syntax h)),
          λ n. go (v.1 n.0) n.1,
        )
      where
        go :
            (h : (e : ByteFault) × (read_bytes d target (xs ++ (b ∷ [])) ≡ stopped (Byte e) r)) → breaks (text_at d r.state) b ≡ false →
            read_bytes d target (xs ++ (b ∷ [])) ≡ stopped (Byte Syntax) r
        go (Syntax, h) t = h
        go (Encoding, h) t = impossible (sym t ∙ (encoding_iff d r.state b).0 (refused Encoding h))
