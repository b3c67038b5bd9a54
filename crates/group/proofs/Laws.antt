-- What holds of every event on every circuit of every table, for any circuit number.
-- Assumes nothing.
use Rattle.std.specs.Prelude.{Option}
use Rattle.circuit.specs.declared.Event.{Event}
use mathlib.Core.Path.{◌≡◌, refl, sym, ap, ◌∙◌, subst}
use mathlib.Core.Bool.{Bool, true, false, cond}
use mathlib.Core.List.{List}
use Prim.Native.Nat.{ℕ, zero, suc, ◌<◌, ◌≤◌}
use native.Mathlib.Omega.{arith}
use lib.Dec.{eqb, leb, ltb}
use lib.ListN.{length}
use borrow.Author.Tests.{eqb-true, eqb-false, leb-true, leb-false, ltb-false}
use Rattle.circuit.specs.declared.Record.{Record}
use Rattle.circuit.specs.declared.Outcome.{Outcome}
use Rattle.circuit.specs.declared.Sends.TheVariants.{Nothing}
use Rattle.circuit.specs.Groups.{bad_group, controls}
use Rattle.circuit.specs.Rows as Rows
use Rattle.step.proofs.Refused.{keeps_found}
use Rattle.step.specs.Frees.{freed}
use Rattle.words.specs.Words.{largest}
use Rattle.layout.specs.Layout.{group_in, Held, records_in, counter_in, state_at, flags_at, rank_at, held_at, record_of, record_at, put}
use Rattle.layout.proofs.Laws.{record_back, put_length, put_record, put_keeps_rank, other_held, other_rank, ranked_length, ranked_held, ranked_record}
use Rattle.answers.specs.Answers.{Answer, refusal}
use Rattle.group.specs.Table.{Step, nowhere, refused_at, taken, stored, released, taking, answering, outcome_at, step_in}
use Rattle.group.specs.Way.{freeing, accepted, landed, on_circuit}
use Rattle.group.proofs.Cases.{stepped, no_group, no_circuit, in_group}
use Rattle.group.specs.Refusals.{refusal_in}

-- a refusal leaves the whole table, sends nothing and indicates 0
pub record Untouched (before : List ℕ) (s : Step) : Type 0 where
  pub table : s.table ≡ before
  pub sends : s.answer.sends ≡ Nothing
  pub ind : s.answer.ind ≡ 0

-- a circuit has the octets that it had
pub record Same (before after : List ℕ) (i : ℕ) : Type 0 where
  pub held : held_at after i ≡ held_at before i
  pub rank : rank_at after i ≡ rank_at before i

-- what an answer says by its refusal, what is held of the circuit, and what one circuit's step says
abbrev pub saying : (refusal : ℕ) → Held → Outcome → Answer
saying zero h o = taken o
saying (suc n) h o = cond (leb (suc n) 2) (refusal (suc n) 0 0) (refusal (suc n) h.state h.flags)

-- the answer is what one circuit's step says, and so is the circuit's record then, in the answer and in the table
pub record Carries (cic : ℕ) (o : Outcome) (s : Step) : Type 0 where
  pub refusal : s.answer.refusal ≡ o.refusal
  pub shown : record_of s.answer.state s.answer.flags ≡ o.after
  pub stored : record_at s.table cic ≡ o.after
  pub sends : s.answer.sends ≡ o.sends
  pub ind : s.answer.ind ≡ o.ind

module _ (own far : ℕ) (table : List ℕ) (cic : ℕ) (event : Option Event) where
  -- whatever holds of each way to be refused, and of an accepted event that frees the circuit or does not, holds of a step
  pub by_cases : (P : Step → Type 0)
      → P (nowhere 1 table)
      → P (nowhere 2 table)
      → ((n : ℕ) → (n ≡ 0 → ⊥) → P (refused_at n table cic))
      → (cic < records_in (length table) → flags_at table cic ≤ 15 → (outcome_at own far table cic event).refusal ≡ 0
      → freed (state_at table cic) (outcome_at own far table cic event) ≡ false → P (stored table cic (outcome_at own far table cic event)))
      → (cic < records_in (length table) → flags_at table cic ≤ 15 → (outcome_at own far table cic event).refusal ≡ 0
      → freed (state_at table cic) (outcome_at own far table cic event) ≡ true → counter_in table < largest → P (released table cic (outcome_at own far table cic event)))
      → P (step_in own far table cic event)
  unfolding on_circuit
  by_cases P p₁ p₂ refused stores releases = go₁ (bad_group own far (records_in (length table))) refl
    where
      o : Outcome
      o = outcome_at own far table cic event

      go₁₃ : cic < records_in (length table) → flags_at table cic ≤ 15 → o.refusal ≡ 0 → freed (state_at table cic) o ≡ true → (b : Bool) → leb largest (counter_in table) ≡ b → P (cond b (refused_at 13 table cic) (released table cic o))
      go₁₃ h l a f true e = refused 13 (λ e. omega arith)
      go₁₃ h l a f false e = releases h l a f (leb-false _ _ e)

      goₐ : cic < records_in (length table) → flags_at table cic ≤ 15 → o.refusal ≡ 0 → (b : Bool) → freed (state_at table cic) o ≡ b → P (cond b (freeing table cic o) (stored table cic o))
      goₐ h l a true e = go₁₃ h l a e (leb largest (counter_in table)) refl
      goₐ h l a false e = stores h l a e

      go₃ : cic < records_in (length table) → flags_at table cic ≤ 15 → (b : Bool) → eqb o.refusal 0 ≡ b → P (cond b (accepted table cic o) (refused_at o.refusal table cic))
      go₃ h l true e = goₐ h l (eqb-true _ _ e) (freed (state_at table cic) o) refl
      go₃ h l false e = refused o.refusal (eqb-false _ _ e)

      go₁₂ : cic < records_in (length table) → (b : Bool) → ltb 15 (flags_at table cic) ≡ b → P (cond b (refused_at 12 table cic) (landed table cic o))
      go₁₂ h true e = refused 12 (λ e. omega arith)
      go₁₂ h false e = go₃ h (ltb-false _ _ e) (eqb o.refusal 0) refl

      go₂ : bad_group own far (records_in (length table)) ≡ false → (b : Bool) → leb (records_in (length table)) cic ≡ b → P (step_in own far table cic event)
      go₂ g true e = subst P (sym (no_circuit own far table cic event g (leb-true _ _ e))) p₂
      go₂ g false e = subst P (sym (in_group own far table cic event g (leb-false _ _ e))) (go₁₂ (leb-false _ _ e) (ltb 15 (flags_at table cic)) refl)

      go₁ : (b : Bool) → bad_group own far (records_in (length table)) ≡ b → P (step_in own far table cic event)
      go₁ true e = subst P (sym (no_group own far table cic event e)) p₁
      go₁ false e = go₂ e (leb (records_in (length table)) cic) refl

  -- a refusal changes nothing lent
  pub refused : ((step_in own far table cic event).answer.refusal ≡ 0 → ⊥) → Untouched table (step_in own far table cic event)
  refused =
      by_cases (λ s. (s.answer.refusal ≡ 0 → ⊥) → Untouched table s)
      (λ n. untouched) (λ n. untouched) (λ n h k. untouched) (λ h l a f n. absurd (n refl)) (λ h l a f k n. absurd (n refl))
    where
      untouched : {n s f : ℕ} → Untouched table (record { answer = refusal n s f; table = table })
      untouched = record { table = refl; sends = refl; ind = refl }

  -- an accepted event puts into the table, and answers, what one circuit's step says
  pub took : (step_in own far table cic event).answer.refusal ≡ 0 → step_in own far table cic event ≡ taking table cic (outcome_at own far table cic event)
  took =
      by_cases (λ s. s.answer.refusal ≡ 0 → s ≡ taking table cic (outcome_at own far table cic event))
      (λ z. absurd (omega arith)) (λ z. absurd (omega arith)) (λ n h z. absurd (h z)) (λ h l a f z. rw f refl) (λ h l a f k z. rw f refl)

  -- and changes only that circuit's record
  pub others : (i : ℕ) → (i ≡ cic → ⊥) → Same table (step_in own far table cic event).table i
  others i other =
      by_cases (λ s. Same table s.table i)
      same same (λ n h. same) (λ h l a f. beside o.after)
      (λ h l a f k. record {
        held = ranked_held (put table cic o.after) cic i _ ∙ (beside o.after).held;
        rank = other_rank (put table cic o.after) cic i _ other ∙ (beside o.after).rank;
      })
    where
      o : Outcome
      o = outcome_at own far table cic event

      same : Same table table i
      same = record { held = refl; rank = refl }

      beside : (r : Record) → Same table (put table cic r) i
      beside r = record { held = other_held table cic i r other; rank = put_keeps_rank table cic i r }

  pub keeps_length : length (step_in own far table cic event).table ≡ length table
  keeps_length =
      by_cases (λ s. length s.table ≡ length table)
      refl refl (λ n h. refl) (λ h l a f. put_length table cic _) (λ h l a f k. ranked_length (put table cic _) cic _ ∙ put_length table cic _)

  pub keeps_group : group_in (step_in own far table cic event).table ≡ group_in table
  keeps_group = λ i. record { records = records_in (keeps_length i) }

  -- of a circuit of the group whose flags are some, but for 13: the step on the table is one circuit's step on its record
  pub is_step : bad_group own far (records_in (length table)) ≡ false
      → cic < records_in (length table)
      → flags_at table cic ≤ 15
      → ((step_in own far table cic event).answer.refusal ≡ 13 → ⊥)
      → Carries cic (outcome_at own far table cic event) (step_in own far table cic event)
  is_step good h l not13 =
      let e : step_in own far table cic event ≡ landed table cic o = in_group own far table cic event good h ∙ stepped (controls own far cic) table cic event l in
      subst (Carries cic o) (sym e) (go₃ (eqb o.refusal 0) refl (subst (λ (s : Step). s.answer.refusal ≡ 13 → ⊥) e not13))
    where
      o : Outcome
      o = outcome_at own far table cic event

      go₁₃ : o.refusal ≡ 0 → (b : Bool) → ((cond b (refused_at 13 table cic) (released table cic o)).answer.refusal ≡ 13 → ⊥) → Carries cic o (cond b (refused_at 13 table cic) (released table cic o))
      go₁₃ a true n = absurd (n refl)
      go₁₃ a false n = record { refusal = sym a; shown = record_back o.after; stored = ranked_record (put table cic o.after) cic cic _ ∙ put_record table cic o.after h; sends = refl; ind = refl }

      goₐ : o.refusal ≡ 0 → (b : Bool) → ((cond b (freeing table cic o) (stored table cic o)).answer.refusal ≡ 13 → ⊥) → Carries cic o (cond b (freeing table cic o) (stored table cic o))
      goₐ a true n = go₁₃ a (leb largest (counter_in table)) n
      goₐ a false n = record { refusal = sym a; shown = record_back o.after; stored = put_record table cic o.after h; sends = refl; ind = refl }

      go₃ : (b : Bool) → eqb o.refusal 0 ≡ b → ((cond b (accepted table cic o) (refused_at o.refusal table cic)).answer.refusal ≡ 13 → ⊥) → Carries cic o (cond b (accepted table cic o) (refused_at o.refusal table cic))
      go₃ true e n = goₐ (eqb-true _ _ e) (freed (state_at table cic) o) n
      go₃ false e n =
          let k : o ≡ Rows.refused o.refusal (record_at table cic) = keeps_found (controls own far cic) (record_at table cic) event (eqb-false _ _ e) in
          record { refusal = refl; shown = sym (ap (λ (x : Outcome). x.after) k); stored = sym (ap (λ (x : Outcome). x.after) k); sends = sym (ap (λ (x : Outcome). x.sends) k); ind = sym (ap (λ (x : Outcome). x.ind) k) }

  -- an answer goes by nothing else in the table
  pub answers : (step_in own far table cic event).answer ≡ saying (refusal_in own far table cic event) (held_at table cic) (outcome_at own far table cic event)
  unfolding step_in
  answers = go (refusal_in own far table cic event)
    where
      o : Outcome
      o = outcome_at own far table cic event

      by_freed : (b : Bool) → (cond b (released table cic o) (stored table cic o)).answer ≡ taken o
      by_freed true = refl
      by_freed false = refl

      by_place : (n : ℕ) (b : Bool) → (cond b (nowhere n table) (refused_at n table cic)).answer ≡ cond b (refusal n 0 0) (refusal n (state_at table cic) (flags_at table cic))
      by_place n true = refl
      by_place n false = refl

      go : (n : ℕ) → (answering n table cic o).answer ≡ saying n (held_at table cic) o
      go zero = by_freed (freed (state_at table cic) o)
      go (suc n) = by_place (suc n) (leb (suc n) 2)

  -- each refusal number is given exactly when docs/RULES.md says
  pub refusals : (step_in own far table cic event).answer.refusal ≡ refusal_in own far table cic event
  refusals = ap (λ (a : Answer). a.refusal) answers ∙ numbered (refusal_in own far table cic event)
    where
      shows : (n s f : ℕ) (b : Bool) → (cond b (refusal n 0 0) (refusal n s f)).refusal ≡ n
      shows n s f true = refl
      shows n s f false = refl

      numbered : (n : ℕ) → (saying n (held_at table cic) (outcome_at own far table cic event)).refusal ≡ n
      numbered zero = refl
      numbered (suc n) = shows (suc n) (state_at table cic) (flags_at table cic) (leb (suc n) 2)
