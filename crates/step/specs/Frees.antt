-- Which events free a circuit (docs/RULES.md, "Release ranks"): those that take a record from another state to idle. `Always` shows that the list is
-- exact.
-- Assumes nothing.
use Rattle.std.specs.Prelude.{Bool, false, not, ◌&&◌, ◌||◌, ℕ, eqb, Option, Some, None}
use Rattle.circuit.specs.declared.Signal.TheVariants.{Iam, Acm, Anc, Ann, Cbk, Clf, Ran, Rlg, Blo, Bla, Ubl, Uba, Rsc, Fail}
use Rattle.circuit.specs.declared.Event.{Event}
use Rattle.circuit.specs.declared.Event.TheVariants.{Arrives, Ordered, RunsOut}
use Rattle.circuit.specs.declared.Outcome.{Outcome}
use Rattle.step.specs.Refusals.{within}

-- from another state to idle
abbrev pub freed : (before : ℕ) → Outcome → Bool
freed before o = not (eqb before 0) && eqb o.after.state 0

-- CLF in 1 and 5 not controlling and in 6..12, RLG in 5 and 12, RSC in 6..11; no other signal, no command, no timer
abbrev pub frees : (c : Bool) → (state : ℕ) → Event → Bool
frees c s (Arrives Iam) = false
frees c s (Arrives (Acm octet)) = false
frees c s (Arrives Anc) = false
frees c s (Arrives Ann) = false
frees c s (Arrives Cbk) = false
frees c s (Arrives Clf) = (not c && (eqb s 1 || eqb s 5)) || within s 6 12
frees c s (Arrives Ran) = false
frees c s (Arrives Rlg) = eqb s 5 || eqb s 12
frees c s (Arrives Blo) = false
frees c s (Arrives Bla) = false
frees c s (Arrives Ubl) = false
frees c s (Arrives Uba) = false
frees c s (Arrives Rsc) = within s 6 11
frees c s (Arrives (Fail f)) = false
frees c s (Ordered k) = false
frees c s (RunsOut t) = false

-- an event by its numbers, which may be none
abbrev pub frees_found : (c : Bool) → (state : ℕ) → Option Event → Bool
frees_found c s (Some e) = frees c s e
frees_found c s None = false
