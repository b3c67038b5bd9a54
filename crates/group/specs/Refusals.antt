-- When an event on a circuit of a table is refused (docs/RULES.md, "Refusals"), in the order 1, 2, 12, 3, then 5, 4 or 6, and last 13.
-- Assumes nothing.
use Rattle.circuit.specs.declared.Event.{Event}
use Rattle.std.specs.Prelude.{Bool, not, ◌&&◌, List, [], ◌∷◌, ◌++◌, ℕ, leb, Option}
use Rattle.circuit.specs.Groups.{bad_group, controls}
use Rattle.circuit.specs.Refusals.{Rule, refuse, first_rule}
use Rattle.words.specs.Words.{largest}
use Rattle.step.specs.Refusals.{found_rules}
use Rattle.step.specs.Frees.{frees_found}
use Rattle.layout.specs.Layout.{Group, group_in, Held, held_at, counter_in, state_at, record_of, allowed}

-- those that go by the group and by what is held of the circuit
abbrev pub circuit_rules : (own far : ℕ) → Group → (cic : ℕ) → Held → Option Event → List Rule
circuit_rules own far g cic h event =
    refuse 1 (bad_group own far g.records)
    ∷ refuse 2 (leb g.records cic)
    ∷ refuse 12 (not (allowed h.state h.flags))
    ∷ found_rules (record_of h.state h.flags) event

-- 13: the event frees the circuit, and the counter is at its largest value
abbrev pub spent : (own far : ℕ) → List ℕ → (cic : ℕ) → Option Event → Bool
spent own far table cic event = frees_found (controls own far cic) (state_at table cic) event && leb largest (counter_in table)

abbrev pub rules_in : (own far : ℕ) → List ℕ → (cic : ℕ) → Option Event → List Rule
rules_in own far table cic event =
    circuit_rules own far (group_in table) cic (held_at table cic) event
    ++ (refuse 13 (spent own far table cic event) ∷ [])

-- 0: it is accepted
abbrev pub refusal_in : (own far : ℕ) → List ℕ → (cic : ℕ) → Option Event → ℕ
refusal_in own far table cic event = first_rule (rules_in own far table cic event)
