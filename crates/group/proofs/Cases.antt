-- The cases of an event on a circuit of a table, each from the tests that lead to it, and that the program's way comes to the definition's answer.
-- Assumes nothing.
use Rattle.std.specs.Prelude.{Option}
use Rattle.circuit.specs.declared.Event.{Event}
use mathlib.Core.Path.{◌≡◌, refl, sym, subst}
use mathlib.Core.Bool.{Bool, true, false, not, cond, ◌&&◌}
use mathlib.Core.List.{List, [], ◌∷◌, ◌++◌}
use Prim.Native.Nat.{ℕ, zero, suc, ◌<◌, ◌≤◌}
use native.Mathlib.Omega.{arith}
use lib.Dec.{T, eqb, leb, ltb}
use lib.ListN.{length}
use borrow.Author.Tests.{le-leb, lt-leb, lt-ltb, le-ltb, ltb-true, ltb-false, eqb-false}
use Rattle.circuit.specs.declared.Record.{Record}
use Rattle.circuit.specs.declared.Outcome.{Outcome}
use Rattle.circuit.specs.Records.{valid}
use Rattle.circuit.specs.Groups.{bad_group, controls}
use Rattle.circuit.specs.Refusals.{refuse, first_rule}
use Rattle.words.specs.Words.{largest}
use Rattle.step.specs.Step.{step_found}
use Rattle.step.specs.Refusals.{found_rules}
use Rattle.step.specs.Frees.{freed, frees_found}
use Rattle.step.proofs.Always.{frees_listed_found}
use Rattle.step.proofs.Refused.{refuses_found, at_least3, then_last}
use Rattle.layout.specs.Layout.{records_in, counter_in, state_at, flags_at, record_of, record_at, allowed_at}
use Rattle.group.specs.Refusals.{spent}
use Rattle.group.specs.Table.{nowhere, refused_at, stored, released, answering, outcome_at, step_in}
use Rattle.group.specs.Way.{accepted, landed, on_circuit}

module _ (c : Bool) (table : List ℕ) (cic : ℕ) (event : Option Event) where
  pub no_flags : 15 < flags_at table cic → on_circuit c table cic event ≡ refused_at 12 table cic
  unfolding on_circuit
  no_flags h = simp (lt-ltb _ _ h)

  pub stepped : flags_at table cic ≤ 15 → on_circuit c table cic event ≡ landed table cic (step_found c (record_at table cic) event)
  unfolding on_circuit
  stepped h = simp (le-ltb _ _ h)

-- an accepted event, and then 13
answered : (table : List ℕ) (cic : ℕ) (o : Outcome) (a spent : Bool) → freed (state_at table cic) o ≡ a
    → answering (cond (a && spent) 13 0) table cic o ≡ cond a (cond spent (refused_at 13 table cic) (released table cic o)) (stored table cic o)
answered table cic o true true e = refl
answered table cic o true false e = rw e refl
answered table cic o false spent e = rw e refl

-- a refusal of the circuit's own shows its record
refused_here : (n : ℕ) (table : List ℕ) (cic : ℕ) (o : Outcome) → 3 ≤ n → answering n table cic o ≡ refused_at n table cic
refused_here zero table cic o h = absurd (omega arith)
refused_here (suc n) table cic o h = rw (lt-leb (suc n) 2 (omega arith)) refl

module _ (own far : ℕ) (table : List ℕ) (cic : ℕ) (event : Option Event) where
  abbrev c : Bool
  c = controls own far cic

  abbrev r : Record
  r = record_at table cic

  abbrev o : Outcome
  o = outcome_at own far table cic event

  abbrev m : ℕ
  m = first_rule (found_rules r event)

  abbrev last : Bool
  last = spent own far table cic event

  -- the rules behind 12, on a valid record
  by_step : T (valid r) → o.refusal ≡ m → answering (first_rule (found_rules r event ++ (refuse 13 last ∷ []))) table cic o ≡ landed table cic o
  unfolding record_of
  by_step v known =
      rw (then_last r event 13 last)
      (subst (λ (k : ℕ). answering (cond (eqb m 0) (cond last 13 0) m) table cic o ≡ cond (eqb k 0) (accepted table cic o) (refused_at k table cic)) (sym known) (go (eqb m 0) refl))
    where
      free : freed (state_at table cic) o ≡ frees_found c (state_at table cic) event
      free = frees_listed_found c r event v

      go : (b : Bool) → eqb m 0 ≡ b → answering (cond b (cond last 13 0) m) table cic o ≡ cond b (accepted table cic o) (refused_at m table cic)
      go true e = rw free (answered table cic o (frees_found c (state_at table cic) event) (leb largest (counter_in table)) free)
      go false e = refused_here m table cic o (at_least3 r event (eqb-false _ _ e))

  on_way : answering (cond (not (allowed_at table cic)) 12 (first_rule (found_rules r event ++ (refuse 13 last ∷ [])))) table cic o ≡ on_circuit c table cic event
  unfolding on_circuit
  on_way = go (ltb 15 (flags_at table cic)) refl
    where
      go₂ : (b : Bool) → valid r ≡ b → o.refusal ≡ cond (not b) 12 m → answering (cond (not b) 12 (first_rule (found_rules r event ++ (refuse 13 last ∷ [])))) table cic o ≡ landed table cic o
      go₂ true v known = by_step (subst T (sym v) tt) known
      go₂ false v known = subst (λ (k : ℕ). refused_at 12 table cic ≡ cond (eqb k 0) (accepted table cic o) (refused_at k table cic)) (sym known) refl

      go : (b : Bool) → ltb 15 (flags_at table cic) ≡ b
          → answering (cond (not (leb (flags_at table cic) 15 && valid r)) 12 (first_rule (found_rules r event ++ (refuse 13 last ∷ [])))) table cic o ≡ cond b (refused_at 12 table cic) (landed table cic o)
      go true e = rw (lt-leb (flags_at table cic) 15 (ltb-true _ _ e)) refl
      go false e = rw (le-leb (flags_at table cic) 15 (ltb-false _ _ e)) (go₂ (valid r) refl (refuses_found c r event))

  pub no_group : bad_group own far (records_in (length table)) ≡ true → step_in own far table cic event ≡ nowhere 1 table
  unfolding step_in
  no_group bad = rw bad

  pub no_circuit : bad_group own far (records_in (length table)) ≡ false → records_in (length table) ≤ cic → step_in own far table cic event ≡ nowhere 2 table
  unfolding step_in
  no_circuit good h = rw (good, le-leb _ _ h)

  pub in_group : bad_group own far (records_in (length table)) ≡ false → cic < records_in (length table) → step_in own far table cic event ≡ on_circuit (controls own far cic) table cic event
  unfolding step_in
  in_group good h = rw (good, lt-leb _ _ h) on_way
