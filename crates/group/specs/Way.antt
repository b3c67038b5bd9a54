-- The program's way through an event on a circuit, test by test. The contracts of private functions cite it; no promise leans on it.
-- Assumes nothing.
use Rattle.circuit.specs.declared.Event.{Event}
use Rattle.std.specs.Prelude.{Bool, cond, List, ℕ, eqb, leb, ltb, Option}
use Rattle.circuit.specs.declared.Outcome.{Outcome}
use Rattle.words.specs.Words.{largest}
use Rattle.step.specs.Step.{step_found}
use Rattle.step.specs.Frees.{freed}
use Rattle.layout.specs.Layout.{counter_in, state_at, flags_at, record_at}
use Rattle.group.specs.Table.{Step, refused_at, stored, released}

-- 13: the counter is at its largest value and the event would raise it
abbrev pub freeing : List ℕ → ℕ → Outcome → Step
freeing table cic o =
    cond (leb largest (counter_in table)) (refused_at 13 table cic)
    (released table cic o)

abbrev pub accepted : List ℕ → ℕ → Outcome → Step
accepted table cic o =
    cond (freed (state_at table cic) o) (freeing table cic o)
    (stored table cic o)

-- what one circuit's step says, on the circuit's record in the table
abbrev pub landed : List ℕ → ℕ → Outcome → Step
landed table cic o =
    cond (eqb o.refusal 0) (accepted table cic o)
    (refused_at o.refusal table cic)

-- a circuit of the group, c: our end controls it. 12 for flags that are none; then what the step of one circuit says: 12, 3, and 5, 4 or 6;
-- last 13
unfoldable pub on_circuit : (c : Bool) → List ℕ → (cic : ℕ) → Option Event → Step
on_circuit c table cic event =
    cond (ltb 15 (flags_at table cic)) (refused_at 12 table cic)
    (landed table cic (step_found c (record_at table cic) event))
