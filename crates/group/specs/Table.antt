-- An event on a circuit of a group whose records lie in a lent table (docs/RULES.md, "Events
-- and answers" and "Release ranks"): what is answered, and what the table holds then.
-- Assumes nothing.
use Rattle.circuit.specs.declared.Event.{Event}
use Rattle.std.specs.Prelude.{cond, List, ℕ, zero, suc, ◌+◌, leb, Option}
use Rattle.circuit.specs.declared.Outcome.{Outcome}
use Rattle.circuit.specs.Groups.{controls}
use Rattle.step.specs.Step.{step_found}
use Rattle.step.specs.Frees.{freed}
use Rattle.answers.specs.Answers.{Answer, refusal}
use Rattle.layout.specs.Layout.{counter_in, state_at, flags_at, flags_of, record_at, put, ranked}
use Rattle.group.specs.Refusals.{refusal_in}

-- the answer, and the table after it
pub record Step : Type 0 where
  pub answer : Answer
  pub table : List ℕ

-- where there is no such group or circuit: no record to show
abbrev pub nowhere : ℕ → List ℕ → Step
nowhere n table = record { answer = refusal n 0 0; table = table }

-- where there is: the record as it stands
abbrev pub refused_at : ℕ → List ℕ → ℕ → Step
refused_at n table cic = record { answer = refusal n (state_at table cic) (flags_at table cic); table = table }

-- 1 and 2 are of no such group or circuit
abbrev pub refused_in : ℕ → List ℕ → (cic : ℕ) → Step
refused_in n table cic = cond (leb n 2) (nowhere n table) (refused_at n table cic)

-- an event that is not refused: the record after it is shown, and put into the table
abbrev pub taken : Outcome → Answer
taken o = record { refusal = 0; state = o.after.state; flags = flags_of o.after; sends = o.sends; ind = o.ind }

abbrev pub stored : List ℕ → ℕ → Outcome → Step
stored table cic o = record { answer = taken o; table = put table cic o.after }

-- one that frees the circuit (T-01): the counter goes up by one and the record takes it
abbrev pub released : List ℕ → ℕ → Outcome → Step
released table cic o = record { answer = taken o; table = ranked (put table cic o.after) cic (counter_in table + 1) }

abbrev pub taking : List ℕ → (cic : ℕ) → Outcome → Step
taking table cic o = cond (freed (state_at table cic) o) (released table cic o) (stored table cic o)

-- by the refusal, 0 for none
abbrev pub answering : (refusal : ℕ) → List ℕ → (cic : ℕ) → Outcome → Step
answering zero table cic o = taking table cic o
answering (suc n) table cic o = refused_in (suc n) table cic

-- what one circuit's step says: on this circuit's record, in our role there
abbrev pub outcome_at : (own far : ℕ) → List ℕ → (cic : ℕ) → Option Event → Outcome
outcome_at own far table cic event = step_found (controls own far cic) (record_at table cic) event

unfoldable pub step_in : (own far : ℕ) → List ℕ → (cic : ℕ) → Option Event → Step
step_in own far table cic event = answering (refusal_in own far table cic event) table cic (outcome_at own far table cic event)
