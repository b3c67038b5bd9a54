-- Two ends of one circuit: what is claimed of them (docs/RULES.md, "The three demands", the third). What can happen to the pair is `Machine`, of ends
-- that hold a record.
-- How it is proved is told in docs/TWO-ENDS.md: whatever the queues, the two ends together stand in one of some 340 rooms, which the prover finds by following
-- every event from where a run may start. One computed test shows that no event leads out of them and that the ends agree in each; blocks are followed
-- beside that. `proofs/Lib.antt` leads through the files.
-- Assumes nothing.
use Rattle.circuit.specs.declared.Event.{Event}
use Rattle.std.specs.Prelude.{Bool, true, false, not, ◌&&◌, ◌||◌, List, [], ◌∷◌, ◌≡◌, ℕ, T, eqb, leb, Option, Some}
use Rattle.circuit.specs.declared.Record.{Record}
use Rattle.circuit.specs.declared.Signal.{Signal}
use Rattle.circuit.specs.declared.Signal.TheVariants.{Iam, Acm, Anc, Ann, Cbk, Clf, Ran, Rlg, Blo, Bla, Ubl, Uba, Rsc, Fail}
use Rattle.circuit.specs.declared.Command.TheVariants.{Restart}
use Rattle.circuit.specs.declared.Event.TheVariants.{Arrives, Ordered}
use Rattle.circuit.specs.declared.Sends.{Sends}
use Rattle.circuit.specs.declared.Sends.TheVariants.{Nothing, One, Two}
use Rattle.circuit.specs.declared.Outcome.{Outcome}
use Rattle.circuit.specs.Records.{plain, valid}
use Rattle.circuit.specs.Groups.{controls}
use Rattle.step.specs.Step.{step_found}
use Rattle.ends.specs.Machine.{Party, Both, Effect, Acts, when_given, Happening, Happening.host, turn, Reached}

abbrev pub End : Type 0
End = Party Record Signal

abbrev pub Pair : Type 0
Pair = Both Record Signal

-- an end that holds r, with w on its way to it
abbrev pub end : Record → List Signal → End
end r w = record { holds = r; coming = w }

-- idle, no flag, nothing on its way
abbrev pub idle : End
idle = end (plain 0) []

abbrev pub in_order : Sends → List Signal
in_order Nothing = []
in_order (One s) = s ∷ []
in_order (Two s t) = s ∷ t ∷ []

-- What an end does with an event: the very definition that the contract of the program's step cites. c: the end controls the circuit.
unfoldable pub does : (c : Bool) → Record → Option Event → Outcome
does c r e = step_found c r e

-- of that, what the pair sees: the new record, a refusal the old one, and what is sent
abbrev pub seen : Outcome → Effect Record Signal
seen o = record { after = o.after; sends = in_order o.sends }

-- every signal is about the circuit, and none is stuck; the host's event may come by any numbers: it is then `event_of kind code detail` of `codes`
abbrev pub end_acts : (c : Bool) → Acts Record Signal (Option Event)
end_acts c = record {
  stuck = λ r s. false;
  takes = λ r s. seen (does c r (Some (Arrives s)));
  when = λ r e. when_given e;
  about = λ e s. true;
  gives = λ r e. seen (does c r e);
}

abbrev pub restart : Happening (Option Event)
restart = host (Some (Ordered Restart))

-- Where a run of two ends may start; a, b: whether the first and the second control the circuit. Both are idle and nothing is on its way; or one of
-- them has just restarted, whatever two legal records they held before and whatever was on its way.
pub data Start (a b : Bool) : End → End → Type 0 where
  both_idle : Start a b idle idle
  first_restarted : (x y : End) → T (valid x.holds) → T (valid y.holds) → Start a b (turn (end_acts a) restart x y).0 (turn (end_acts a) restart x y).1
  second_restarted : (x y : End) → T (valid x.holds) → T (valid y.holds) → Start a b (turn (end_acts b) restart y x).1 (turn (end_acts b) restart y x).0

-- two ends can come to be such
abbrev pub EndsCome : (a b : Bool) → End → End → Type 0
EndsCome a b = Reached (Start a b) (end_acts a) (end_acts b)

-- both idle, or the first outgoing and the second incoming at the same stage
abbrev pub same_stage : ℕ → ℕ → Bool
same_stage p q = eqb p 0 && eqb q 0 || eqb p 1 && eqb q 6 || eqb p 2 && (eqb q 7 || eqb q 8) || eqb p 3 && eqb q 9 || eqb p 4 && eqb q 10

-- awaiting reset
abbrev pub awaits_reset : ℕ → Bool
awaits_reset p = eqb p 12

abbrev pub awaiting : End → Bool
awaiting e = awaits_reset e.holds.state

-- the far-block mark of one end equals the own block of the other
abbrev pub marks : (far own : Bool) → Bool
marks true own = own
marks false own = not own

-- one end is outgoing and the other incoming at the same stage, or both are idle; and each knows the other's block
pub record Agree (x y : End) : Type 0 where
  pub call : T (same_stage x.holds.state y.holds.state || same_stage y.holds.state x.holds.state)
  pub block_of_first : T (marks y.holds.far x.holds.own)
  pub block_of_second : T (marks x.holds.far y.holds.own)

-- Demand 3, and a little more, for every circuit number and every two different point codes: whenever nothing is on its way and neither end is in 12,
-- the two ends agree on the call and on both blocks. So an end rests in 5, awaiting release-guard, only opposite one in 12.
unfoldable pub Claim : Type 0
Claim =
    (own far cic : ℕ) → (own ≡ far → ⊥) → (x y : End) → EndsCome (controls own far cic) (controls far own cic) x y
    → x.coming ≡ [] → y.coming ≡ [] → T (not (awaiting x)) → T (not (awaiting y)) → Agree x y

-- signals that never arrive between two such ends: RLG but in 5 and 12; ANC, ANN, CBK, RAN in 1; CLF in 2..4
abbrev pub unheard : ℕ → Signal → Bool
unheard s Rlg = not (eqb s 5 || eqb s 12)
unheard s Anc = eqb s 1
unheard s Ann = eqb s 1
unheard s Cbk = eqb s 1
unheard s Ran = eqb s 1
unheard s Clf = leb 2 s && leb s 4
unheard s Iam = false
unheard s (Acm octet) = false
unheard s (Fail f) = false
unheard s Blo = false
unheard s Bla = false
unheard s Ubl = false
unheard s Uba = false
unheard s Rsc = false

-- the signal that arrives next is none of these
abbrev pub NextIsHeard : End → Type 0
NextIsHeard e = (s : Signal) (rest : List Signal) → e.coming ≡ s ∷ rest → T (not (unheard e.holds.state s))

unfoldable pub ClaimUnheard : Type 0
ClaimUnheard =
    (own far cic : ℕ) → (own ≡ far → ⊥) → (x y : End) → EndsCome (controls own far cic) (controls far own cic) x y
    → NextIsHeard x × NextIsHeard y
