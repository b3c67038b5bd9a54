-- What holds of every event on every valid record: one test, computed over the 13 states, both roles and all flags for each event, and the laws
-- from it.
-- Assumes nothing.
use Rattle.std.specs.Prelude.{Option, Some, None}
use mathlib.Core.Path.{◌≡◌, sym, subst}
use mathlib.Core.Bool.{Bool, true, false, not, ◌&&◌}
use Prim.Native.Nat.{ℕ}
use native.Mathlib.Omega.{arith}
use lib.Dec.{T, eqb, eqb→eq}
use Rattle.std.proofs.lemmas.Bool.Decides.{nat_tests}
use Rattle.circuit.specs.declared.Record.{Record}
use Rattle.circuit.specs.declared.Failure.TheVariants.{Sec, Cgc, Nnc, Adi, Cfl, Ssb, Unn, Los, Sst}
use Rattle.circuit.specs.declared.Signal.TheVariants.{Iam, Acm, Anc, Ann, Cbk, Clf, Ran, Rlg, Blo, Bla, Ubl, Uba, Rsc, Fail}
use Rattle.circuit.specs.declared.Command.TheVariants.{Seize, Release, AddressComplete, Answer, ClearBack, ReAnswer, FailCall, Block, Unblock, Restart}
use Rattle.circuit.specs.declared.Timer.TheVariants.{AddressWait, AnswerWait, IncomingHangUp, Repeat, OneMinute, BlockRepeat}
use Rattle.circuit.specs.declared.Event.{Event}
use Rattle.circuit.specs.declared.Event.TheVariants.{Arrives, Ordered, RunsOut}
use Rattle.circuit.specs.Records.{valid}
use Rattle.circuit.specs.Rows.{first}
use Rattle.circuit.specs.Every.{implies}
use Rattle.circuit.proofs.Every.{then, left, right, both, alike, alike_same, everywhere, at_valid}
use Rattle.step.specs.Step.{step, step_found, is_signal, sent}
use Rattle.step.specs.Frees.{freed, frees, frees_found}
use Rattle.step.specs.Refusals.{refusal, refusal_found}

-- the claims of an event at a role and a record
abbrev stays_valid : Bool → Record → Event → Bool
stays_valid c r e = valid (step c r e).after

abbrev refuses_right : Bool → Record → Event → Bool
refuses_right c r e = eqb (step c r e).refusal (refusal r e)

abbrev frees_right : Bool → Record → Event → Bool
frees_right c r e = alike (freed r.state (step c r e)) (frees c r.state e)

abbrev sends_one : Bool → Record → Event → Bool
sends_one c r e = implies (not (is_signal e) && eqb (step c r e).refusal 0) (eqb (sent (step c r e).sends) 1)

abbrev claims : Event → Bool → Record → Bool
claims e c r = stays_valid c r e && (refuses_right c r e && (frees_right c r e && sends_one c r e))

tested : (e : Event) → T (everywhere (claims e))
unfolding step first
tested (Arrives Iam) = tt
tested (Arrives (Acm octet)) = tt
tested (Arrives Anc) = tt
tested (Arrives Ann) = tt
tested (Arrives Cbk) = tt
tested (Arrives Clf) = tt
tested (Arrives Ran) = tt
tested (Arrives Rlg) = tt
tested (Arrives Blo) = tt
tested (Arrives Bla) = tt
tested (Arrives Ubl) = tt
tested (Arrives Uba) = tt
tested (Arrives Rsc) = tt
tested (Arrives (Fail f)) = tt
tested (Ordered Seize) = tt
tested (Ordered Release) = tt
tested (Ordered (AddressComplete t true)) = tt
tested (Ordered (AddressComplete t false)) = tt
tested (Ordered (Answer charging)) = tt
tested (Ordered ClearBack) = tt
tested (Ordered ReAnswer) = tt
tested (Ordered (FailCall Sec)) = tt
tested (Ordered (FailCall Cgc)) = tt
tested (Ordered (FailCall Nnc)) = tt
tested (Ordered (FailCall Adi)) = tt
tested (Ordered (FailCall Cfl)) = tt
tested (Ordered (FailCall Ssb)) = tt
tested (Ordered (FailCall Unn)) = tt
tested (Ordered (FailCall Los)) = tt
tested (Ordered (FailCall Sst)) = tt
tested (Ordered Block) = tt
tested (Ordered Unblock) = tt
tested (Ordered Restart) = tt
tested (RunsOut AddressWait) = tt
tested (RunsOut AnswerWait) = tt
tested (RunsOut IncomingHangUp) = tt
tested (RunsOut Repeat) = tt
tested (RunsOut OneMinute) = tt
tested (RunsOut BlockRepeat) = tt

-- a law from its place among the claims
holds : (e : Event) (c : Bool) (r : Record) → T (valid r) → T (claims e c r)
holds e c r v = at_valid (claims e) (tested e) c r v

-- every event takes a valid record to a valid one
pub kept : (c : Bool) (r : Record) (e : Event) → T (valid r) → T (valid (step c r e).after)
kept c r e v = left (stays_valid c r e) _ (holds e c r v)

-- each refusal number is given exactly when docs/RULES.md says
pub refuses : (c : Bool) (r : Record) (e : Event) → T (valid r) → (step c r e).refusal ≡ refusal r e
refuses c r e v = eqb→eq _ _ (left (refuses_right c r e) _ (right (stays_valid c r e) _ (holds e c r v)))

-- exactly the events of the list take a record from another state to idle
pub frees_listed : (c : Bool) (r : Record) (e : Event) → T (valid r) → freed r.state (step c r e) ≡ frees c r.state e
frees_listed c r e v = alike_same _ _ (left (frees_right c r e) _ (right (refuses_right c r e) _ (right (stays_valid c r e) _ (holds e c r v))))

-- numbers that are no event are refused with 3, and on a record that is not valid with 12
pub refuses_missing : (c : Bool) (r : Record) → (step_found c r None).refusal ≡ refusal_found r None
unfolding step_found
refuses_missing c r = grind (arith, nat_tests)

-- the same of an event that may be none
pub frees_listed_found : (c : Bool) (r : Record) (f : Option Event) → T (valid r) → freed r.state (step_found c r f) ≡ frees_found c r.state f
unfolding step_found
frees_listed_found c r (Some e) v = frees_listed c r e v
frees_listed_found c r None v = grind (arith, nat_tests)

-- an accepted command or timer sends exactly one signal
pub one_sent : (c : Bool) (r : Record) (e : Event) → T (valid r) → T (not (is_signal e)) → (step c r e).refusal ≡ 0 → sent (step c r e).sends ≡ 1
one_sent c r e v host accepted =
    eqb→eq _ _
    (then (not (is_signal e) && eqb (step c r e).refusal 0) (eqb (sent (step c r e).sends) 1)
    (right (frees_right c r e) _ (right (refuses_right c r e) _ (right (stays_valid c r e) _ (holds e c r v))))
    (both (not (is_signal e)) _ host (subst (λ (n : ℕ). T (eqb n 0)) (sym accepted) tt)))
