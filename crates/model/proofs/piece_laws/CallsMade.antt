-- One theorem over every list of calls, from the contracts of the calls alone: whatever a state is, if each call answers as the
-- ledger does after the calls made so far, then the answers to any list of calls are the ledger's.
use Prim.Native.Nat.{ℕ}
use mathlib.Core.Path.{◌≡◌, refl, sym, ap, ◌∙◌}
use Rattle.std.specs.Prelude.{None, Some}
use mathlib.Core.List.{List, [], ◌∷◌, ◌++◌, map, map-append}
use Rattle.model.specs.rules.Types.{Dialect}
use Rattle.model.specs.rules.Dialect.{dialect_of, into}
use Rattle.model.specs.rules.Report.{refusal}
use Rattle.model.specs.rules.Api.{Written, unwritten}
use Rattle.model.specs.rules.Ledger.{Call, Entry, answer_to, answer_now, history_from, history, ledger}
use Rattle.model.specs.laws.Demands.{CallsMade, fresh, call, PreservesLedger}

abbrev call_of : Entry → Call
call_of x = x.call

abbrev read_answer : Entry → Written
read_answer x = x.answer

module _ (m n : ℕ) where
  -- the history after one more call
  abbrev pub after : (past : List Entry) → Call → List Entry
  after past c = past ++ (record { call = c; answer = answer_now m n past c } ∷ [])

  pub history_snoc : (past : List Entry) (cs : List Call) (c : Call) → history_from m n past (cs ++ (c ∷ [])) ≡ after (history_from m n past cs) c
  unfolding history_from
  history_snoc past [] c = refl
  history_snoc past (x ∷ cs) c = history_snoc (after past x) cs c

  -- one call's answer where both numbers are dialects
  pub answer_known :
      (d t : Dialect) (past : List Entry) (c : Call) → dialect_of m ≡ Some d → dialect_of n ≡ Some t →
      answer_now m n past c ≡ answer_to d (into t) past c
  unfolding answer_now
  answer_known d t past c p q = rw (p, answer_now, q)

  -- and where one is none
  pub answer_source : (past : List Entry) (c : Call) → dialect_of m ≡ None → answer_now m n past c ≡ unwritten (refusal 11)
  unfolding answer_now
  answer_source past c p = rw (p, answer_now)

  pub answer_target : (d : Dialect) (past : List Entry) (c : Call) → dialect_of m ≡ Some d → dialect_of n ≡ None → answer_now m n past c ≡ unwritten (refusal 11)
  unfolding answer_now
  answer_target d past c p q = rw (p, answer_now, q)

-- ---- sessions

record Lies {S : Type 0} (Carries : ℕ → ℕ → List Entry → S → Type 0) (m n : ℕ) (made : List Entry) (s : S) : Type 0 where
  carries : Carries m n made s
  made_is : made ≡ history m n (map call_of made)

stands : {S : Type 0} {Carries : ℕ → ℕ → List Entry → S → Type 0} {m n : ℕ} {made : List Entry} {s : S} → CallsMade Carries m n made s → Lies Carries m n made s
unfolding history_from
stands (fresh k) = record { carries = k; made_is = refl }
stands {Carries = Carries} {m = m} {n = n} (call {made} {s} {next} {c} {a} past answers) =
    let before = stands past in
    let now = answers m n made before.carries in
    let x : Entry = record { call = c; answer = a } in
    let e : map call_of (made ++ (x ∷ [])) ≡ map call_of made ++ (c ∷ []) = map-append call_of made (x ∷ []) in
    let sum : history m n (map call_of (made ++ (x ∷ []))) ≡ made ++ (x ∷ []) =
    ap (λ l. history m n l) e ∙ history_snoc m n [] (map call_of made) c ∙ ap (λ l. after m n l c) (sym before.made_is)
    ∙ ap (λ w. made ++ (record { call = c; answer = w } ∷ [])) (sym now.0) in
    record { carries = now.1; made_is = sym sum }

pub preserves_ledger : {S : Type 0} (Carries : ℕ → ℕ → List Entry → S → Type 0) → PreservesLedger Carries
unfolding ledger
preserves_ledger Carries m n made s session = ap (map read_answer) (stands session).made_is
