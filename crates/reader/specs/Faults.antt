-- What a reader looks for in a message, in order, and where: a refusal, whether it is to be given, and the place that it names.
-- Assumes nothing.
use Rattle.std.specs.Prelude.{Bool, cond, List, [], ◌∷◌, ℕ}
use Rattle.circuit.specs.Refusals.{refuse, Rule}

pub data Fault : Type 0 where
  fault : (refusal : ℕ) → (found : Bool) → (place : ℕ) → Fault

-- the refusals alone
abbrev pub rules_of : List Fault → List Rule
rules_of [] = []
rules_of (fault n found place ∷ faults) = refuse n found ∷ rules_of faults

-- the place of the first fault that is found, 0 where none is
abbrev pub place_of : List Fault → ℕ
place_of [] = 0
place_of (fault n found place ∷ faults) = cond found place (place_of faults)
