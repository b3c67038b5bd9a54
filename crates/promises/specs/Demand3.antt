-- Demand 3: "Our program at both ends of a circuit, signals in order, none lost but by a restart, timers 4 to 6 only in silence: whenever nothing is
-- on its way and neither end awaits release-guard or reset, both are idle or at the same stage of one call, and each far-block mark equals the other
-- end's own block."
-- An end is a record and the queue of signals on their way to it, the oldest first. `EndsCome a b x y`: two ends can come to be x and y; a and b tell
-- whether the first and the second control the circuit. First the rules by which they can, then what is promised of them. The same over a link, from
-- octets to octets, is `Demand3Link`; what a restart heals, and when a host should restart, is `Restarts`.
-- Assumes nothing.
use Rattle.circuit.specs.declared.Event.{Event}
use Rattle.std.specs.Prelude.{◌≡◌, refl, Bool, true, false, ◌⊎◌, ℕ, T, Option, Some, None}
use Rattle.std.proofs.Math.Path.{subst, subst₂}
use mathlib.Core.List.{List, [], ◌∷◌, ◌++◌}
use Rattle.circuit.specs.declared.Record.{Record}
use Rattle.circuit.specs.declared.Failure.{Failure}
use Rattle.circuit.specs.declared.Failure.TheVariants.{Ssb, Cfl}
use Rattle.circuit.specs.declared.AddressType.{AddressType}
use Rattle.circuit.specs.declared.Charging.{Charging}
use Rattle.circuit.specs.declared.Signal.{Signal}
use Rattle.circuit.specs.declared.Signal.TheVariants.{Anc, Ann, Cbk, Clf, Ran, Rlg, Ubl, Rsc, Fail}
use Rattle.circuit.specs.declared.Command.{Command}
use Rattle.circuit.specs.declared.Command.TheVariants.{Seize, Release, AddressComplete, Answer, ClearBack, ReAnswer, FailCall, Block, Unblock, Restart}
use Rattle.circuit.specs.declared.Timer.{Timer}
use Rattle.circuit.specs.declared.Timer.TheVariants.{AddressWait, AnswerWait, IncomingHangUp, Repeat, OneMinute, BlockRepeat}
use Rattle.circuit.specs.declared.Event.TheVariants.{Arrives, Ordered, RunsOut}
use Rattle.circuit.specs.declared.Sends.TheVariants.{Nothing, One, Two}
use Rattle.circuit.specs.Records.{rec, plain}
use Rattle.circuit.specs.Groups.{controls}
use Rattle.step.specs.Step.{step_found}
use Rattle.ends.specs.Machine.{When, When.any_time, When.in_silence, When.losing_all, When.never, when_given, Happening.arrives, Happening.host, given, Reached.start, Reached.at_first}
use Rattle.ends.specs.Ends.{End, end, Pair, Start.both_idle as idle_pair, EndsCome, in_order, does, end_acts, unheard, Agree, Claim, ClaimUnheard}
use Rattle.ends.proofs.Machine.{all_lost}
use Rattle.ends.proofs.Standing.{mirror_ends}
use Rattle.ends.proofs.Claim.{two_ends_agree}
use Rattle.ends.proofs.Heard.{some_never_arrive}
use Rattle.ends.proofs.Plain.{told_plainly, not_awaiting, opposite12, unheard_rlg, not_both}
use Rattle.ends.specs.Cases.{C, N, Run, command, timer, ran_from, cases, runs, led}
use Rattle.ends.proofs.Cases.{as_told, reached}

-- THE RULES

-- what an end sends for an event, in order: two signals leave in the order in which the answer has them
pub nothing_sent : in_order Nothing ≡ []
nothing_sent = refl

pub one_sent : (s : Signal) → in_order (One s) ≡ s ∷ []
one_sent s = refl

pub two_sent : (s t : Signal) → in_order (Two s t) ≡ s ∷ t ∷ []
two_sent s t = refl

-- When the host can let an event happen: timers 4 to 6 in silence, command 10 (restart) with the loss of all that is on its way, the other commands,
-- whatever their detail, timers 1 to 3 and numbers that name no event at any time. A signal never comes from the host.
abbrev when : List (Option Event) → List When
when [] = []
when (e ∷ l) = when_given e ∷ when l

abbrev order : Command → Option Event
order k = Some (Ordered k)

abbrev runs_out : Timer → Option Event
runs_out t = Some (RunsOut t)

pub any_times : (t : AddressType) (free : Bool) (charging : Charging) (failure : Failure)
    → when (order Seize ∷ order Release ∷ order (AddressComplete t free) ∷ order (Answer charging) ∷ order ClearBack ∷ order ReAnswer
    ∷ order (FailCall failure) ∷ order Block ∷ order Unblock ∷ runs_out AddressWait ∷ runs_out AnswerWait ∷ runs_out IncomingHangUp ∷ None ∷ [])
    ≡ any_time ∷ any_time ∷ any_time ∷ any_time ∷ any_time ∷ any_time
    ∷ any_time ∷ any_time ∷ any_time ∷ any_time ∷ any_time ∷ any_time ∷ any_time ∷ []
any_times t free charging failure = refl

pub silent_times : when (runs_out Repeat ∷ runs_out OneMinute ∷ runs_out BlockRepeat ∷ []) ≡ in_silence ∷ in_silence ∷ in_silence ∷ []
silent_times = refl

pub restart_time : when_given (order Restart) ≡ losing_all
restart_time = refl

pub signal_times : (s : Signal) → when_given (Some (Arrives s)) ≡ never
signal_times s = refl

-- the pair is reached
abbrev Come : (a b : Bool) → Pair → Type 0
Come a b p = EndsCome a b p.0 p.1

-- What happens at the first end, which holds r with w on its way to it, while the second holds t with v on its way. What our program does with an
-- event is `step_found`, the definition that the contract of its step cites; a refusal keeps the record and sends nothing.
module _ {a b : Bool} where
  -- at first both ends are idle with no flag, and nothing is on its way
  pub both_idle : EndsCome a b (end (plain 0) []) (end (plain 0) [])
  both_idle = start idle_pair

  module _ {r t : Record} {w v : List Signal} where
    -- the oldest signal on its way arrives, and what the end sends for it comes last in the other's queue
    pub signal_arrives : {s : Signal} → EndsCome a b (end r (s ∷ w)) (end t v)
        → EndsCome a b (end (step_found a r (Some (Arrives s))).after w) (end t (v ++ in_order (step_found a r (Some (Arrives s))).sends))
    unfolding does
    signal_arrives q = at_first q arrives

    -- the host gives an event that may come at any time, and nothing is lost
    pub at_any_time : (e : Option Event) → when_given e ≡ any_time → EndsCome a b (end r w) (end t v)
        → EndsCome a b (end (step_found a r e).after w) (end t (v ++ in_order (step_found a r e).sends))
    unfolding does
    at_any_time e k q = subst (λ (h : When). Come a b (given (end_acts a) h e (end r w) (end t v))) k (at_first q (host e))

    -- a restart: all that was on its way is lost, in both directions; the end sends its RSC after that
    pub at_restart : (e : Option Event) → when_given e ≡ losing_all → EndsCome a b (end r w) (end t v)
        → EndsCome a b (end (step_found a r e).after []) (end t (in_order (step_found a r e).sends))
    unfolding does
    at_restart e k q = subst₂ (λ (w v : List Signal). EndsCome a b (end (step_found a r e).after w) (end t (v ++ in_order (step_found a r e).sends))) (all_lost w) (all_lost v)
        (subst (λ (h : When). Come a b (given (end_acts a) h e (end r w) (end t v))) k (at_first q (host e)))

  -- nothing is on its way, and a timer runs out that waits for that
  pub at_silence : {r t : Record} → (e : Option Event) → when_given e ≡ in_silence → EndsCome a b (end r []) (end t [])
      → EndsCome a b (end (step_found a r e).after []) (end t (in_order (step_found a r e).sends))
  unfolding does
  at_silence {r} {t} e k q = subst (λ (h : When). Come a b (given (end_acts a) h e (end r []) (end t []))) k (at_first q (host e))

  -- the same happens at the second end: first and second may change places
  pub either_first : {x y : End} → EndsCome a b x y → EndsCome b a y x
  either_first = mirror_ends

-- THE PROMISE

-- the stages of a call at the outgoing and at the incoming end, and both idle: these six pairs of states and no other
pub data SameStage : (outgoing incoming : ℕ) → Type 0 where
  idle : SameStage 0 0
  seized : SameStage 1 6
  complete : SameStage 2 7
  free : SameStage 2 8
  answered : SameStage 3 9
  cleared : SameStage 4 10

-- Two records tell of the same stage of one call, either end being the outgoing one, or are both idle; and each far-block mark equals the other end's
-- own block.
abbrev pub AgreeOn : Record → Record → Type 0
AgreeOn r t = (SameStage r.state t.state ⊎ SameStage t.state r.state) × (t.far ≡ r.own) × (r.far ≡ t.own)

abbrev pub agree_on : (r t : Record) → Agree (end r []) (end t []) → AgreeOn r t
agree_on = told_plainly SameStage idle seized complete free answered cleared

-- For every circuit number and every two different point codes: whenever nothing is on its way and neither end is in 5 (awaiting release-guard) or
-- 12 (awaiting reset), both are idle or at the same stage of one call, and each far-block mark equals the other end's own block.
pub ends_agree : (own far cic : ℕ) → (own ≡ far → ⊥)
    → (r t : Record) → EndsCome (controls own far cic) (controls far own cic) (end r []) (end t [])
    → (r.state ≡ 5 → ⊥) → (r.state ≡ 12 → ⊥) → (t.state ≡ 5 → ⊥) → (t.state ≡ 12 → ⊥) → AgreeOn r t
unfolding Claim
ends_agree own far cic different r t q r5 r12 t5 t12 =
    told_plainly SameStage idle seized complete free answered cleared r t
    (two_ends_agree own far cic different (end r []) (end t []) q refl refl (not_awaiting r.state r12) (not_awaiting t.state t12))

-- And more: an end rests in 5 only opposite one in 12. So neither being in 12 is enough.
pub in5_only_opposite12 : (own far cic : ℕ) → (own ≡ far → ⊥)
    → (r t : Record) → EndsCome (controls own far cic) (controls far own cic) (end r []) (end t []) → r.state ≡ 5 → t.state ≡ 12
unfolding Claim
in5_only_opposite12 own far cic different r t q = opposite12 r.state t.state (λ r12 t12. (two_ends_agree own far cic different (end r []) (end t []) q refl refl r12 t12).call)

-- signals that never arrive, and the states in which they do not: RLG but in 5 and 12; ANC, ANN, CBK, RAN in 1; CLF in 2, 3 and 4
pub data Never : Signal → (state : ℕ) → Type 0 where
  release_guard : {p : ℕ} → (p ≡ 5 → ⊥) → (p ≡ 12 → ⊥) → Never Rlg p
  answer_charged : Never Anc 1
  answer_free : Never Ann 1
  clear_back : Never Cbk 1
  re_answer : Never Ran 1
  clear_forward2 : Never Clf 2
  clear_forward3 : Never Clf 3
  clear_forward4 : Never Clf 4

abbrev pub is_unheard : {s : Signal} {p : ℕ} → Never s p → T (unheard p s)
is_unheard (release_guard {p} h k) = unheard_rlg p h k
is_unheard answer_charged = tt
is_unheard answer_free = tt
is_unheard clear_back = tt
is_unheard re_answer = tt
is_unheard clear_forward2 = tt
is_unheard clear_forward3 = tt
is_unheard clear_forward4 = tt

-- no such signal is the next to arrive
pub never_next : (own far cic : ℕ) → (own ≡ far → ⊥)
    → (r : Record) (s : Signal) (w : List Signal) (y : End) → EndsCome (controls own far cic) (controls far own cic) (end r (s ∷ w)) y
    → Never s r.state → ⊥
unfolding ClaimUnheard
never_next own far cic different r s w y q n = not_both (unheard r.state s) (unheard_then n) ((some_never_arrive own far cic different (end r (s ∷ w)) y q).0 s w refl)
  where
    unheard_then : {s : Signal} {p : ℕ} → Never s p → T (unheard p s)
    unheard_then (release_guard {p} h k) = unheard_rlg p h k
    unheard_then answer_charged = tt
    unheard_then answer_free = tt
    unheard_then clear_back = tt
    unheard_then re_answer = tt
    unheard_then clear_forward2 = tt
    unheard_then clear_forward3 = tt
    unheard_then clear_forward4 = tt

-- NOT OF NOTHING

-- Runs from two idle ends, C at the end that controls the circuit and N at the other, with commands (code, detail) and timers by their
-- numbers: each of the stages, re-answer, a release, a failed call, dual seizure, blocks at one end and at both and the end of one, BLO crossing IAM, a
-- restart that loses what is on its way to the end that restarts, a CLF lost by one, its repetition by timer 4, timers 1, 2, 3 and 5, a UBL lost by a
-- restart and its repetition by timer 6, a restart that loses what is on its way to the other end, and the run that docs/TWO-ENDS.md works out.
pub runs_shown : runs cases
    ≡ (C (command 1 0) ∷ N arrives ∷ [])
    ∷ (C (command 1 0) ∷ N arrives ∷ N (command 3 0) ∷ C arrives ∷ [])
    ∷ (C (command 1 0) ∷ N arrives ∷ N (command 3 4) ∷ C arrives ∷ [])
    ∷ (C (command 1 0) ∷ N arrives ∷ N (command 3 4) ∷ C arrives ∷ N (command 4 0) ∷ C arrives ∷ [])
    ∷ (C (command 1 0) ∷ N arrives ∷ N (command 3 4) ∷ C arrives ∷ N (command 4 0) ∷ C arrives ∷ N (command 5 0) ∷ C arrives ∷ [])
    ∷ (C (command 1 0) ∷ N arrives ∷ N (command 3 4) ∷ C arrives ∷ N (command 4 0) ∷ C arrives ∷ N (command 5 0) ∷ C arrives ∷ N (command 6 0) ∷ C arrives ∷ [])
    ∷ (C (command 1 0) ∷ N arrives ∷ N (command 3 4) ∷ C arrives ∷ N (command 4 0) ∷ C arrives ∷ C (command 2 0) ∷ N arrives ∷ C arrives ∷ [])
    ∷ (C (command 1 0) ∷ N arrives ∷ N (command 7 0x65) ∷ [])
    ∷ (C (command 1 0) ∷ N (command 1 0) ∷ N arrives ∷ C arrives ∷ [])
    ∷ (N (command 8 0) ∷ C arrives ∷ N arrives ∷ C (command 1 0) ∷ [])
    ∷ (N (command 8 0) ∷ C arrives ∷ N arrives ∷ C (command 1 0) ∷ C (command 8 0) ∷ N arrives ∷ C arrives ∷ [])
    ∷ (N (command 8 0) ∷ C arrives ∷ N arrives ∷ C (command 1 0) ∷ C (command 8 0) ∷ N arrives ∷ C arrives ∷ N (command 9 0) ∷ C arrives ∷ N arrives ∷ [])
    ∷ (N (command 8 0) ∷ C (command 1 0) ∷ N arrives ∷ C arrives ∷ C arrives ∷ N arrives ∷ N arrives ∷ N arrives ∷ C arrives ∷ [])
    ∷ (C (command 1 0) ∷ N arrives ∷ N (command 3 4) ∷ C arrives ∷ N (command 4 0) ∷ C arrives ∷ N (command 5 0) ∷ C (command 10 0) ∷ N arrives ∷ C arrives ∷ [])
    ∷ (C (command 1 0) ∷ N arrives ∷ N (command 3 4) ∷ C arrives ∷ N (command 4 0) ∷ C arrives ∷ C (command 2 0) ∷ N (command 10 0) ∷ C (timer 4) ∷ [])
    ∷ (C (command 1 0) ∷ N arrives ∷ N (command 3 4) ∷ C arrives ∷ N (command 4 0) ∷ C arrives ∷ C (command 2 0) ∷ N (command 10 0) ∷ C (timer 4)
    ∷ C arrives ∷ C (timer 4) ∷ N arrives ∷ C arrives ∷ [])
    ∷ (C (command 1 0) ∷ N arrives ∷ C (timer 1) ∷ [])
    ∷ (C (command 1 0) ∷ N arrives ∷ N (command 3 4) ∷ C arrives ∷ C (timer 2) ∷ [])
    ∷ (C (command 1 0) ∷ N arrives ∷ N (command 3 4) ∷ C arrives ∷ N (command 4 0) ∷ C arrives ∷ N (command 5 0) ∷ C arrives ∷ N (timer 3) ∷ [])
    ∷ (C (command 1 0) ∷ N arrives ∷ N (command 3 4) ∷ C arrives ∷ N (command 4 0) ∷ C arrives ∷ C (command 2 0) ∷ N (command 10 0) ∷ C (timer 4)
    ∷ C arrives ∷ C (timer 5) ∷ [])
    ∷ (N (command 8 0) ∷ C arrives ∷ N arrives ∷ N (command 9 0) ∷ C (command 10 0) ∷ N arrives ∷ C arrives ∷ [])
    ∷ (N (command 8 0) ∷ C arrives ∷ N arrives ∷ N (command 9 0) ∷ C (command 10 0) ∷ N arrives ∷ C arrives ∷ N (timer 6) ∷ [])
    ∷ (C (command 1 0) ∷ C (command 10 0) ∷ [])
    ∷ (C (command 1 0) ∷ N (command 1 0) ∷ N arrives ∷ N (command 3 0) ∷ N (command 4 0) ∷ N (command 5 0) ∷ C (command 2 0) ∷ N arrives ∷ N (command 1 0)
    ∷ C arrives ∷ C arrives ∷ C arrives ∷ C arrives ∷ C arrives ∷ C arrives ∷ [])
    ∷ []
runs_shown = refl

-- where they lead
pub pairs_shown : led cases
    ≡ (end (plain 1) [], end (plain 6) [])
    ∷ (end (plain 2) [], end (plain 7) [])
    ∷ (end (plain 2) [], end (plain 8) [])
    ∷ (end (plain 3) [], end (plain 9) [])
    ∷ (end (plain 4) [], end (plain 10) [])
    ∷ (end (plain 3) [], end (plain 9) [])
    ∷ (end (plain 0) [], end (plain 0) [])
    ∷ (end (plain 1) (Fail Ssb ∷ []), end (plain 11) [])
    ∷ (end (plain 1) [], end (plain 6) [])
    ∷ (end (rec 0 false true false false) [], end (rec 0 true false false false) [])
    ∷ (end (rec 0 true true false false) [], end (rec 0 true true false false) [])
    ∷ (end (rec 0 true false false false) [], end (rec 0 false true false false) [])
    ∷ (end (rec 0 false true false false) [], end (rec 0 true false false false) [])
    ∷ (end (plain 0) [], end (plain 0) [])
    ∷ (end (plain 5) (Rsc ∷ []), end (plain 12) [])
    ∷ (end (plain 0) [], end (plain 0) [])
    ∷ (end (plain 5) [], end (plain 6) (Clf ∷ []))
    ∷ (end (plain 5) [], end (plain 8) (Clf ∷ []))
    ∷ (end (plain 4) (Fail Cfl ∷ []), end (plain 11) [])
    ∷ (end (plain 12) [], end (plain 12) (Rsc ∷ []))
    ∷ (end (plain 0) [], end (rec 0 false false false true) [])
    ∷ (end (plain 0) (Ubl ∷ []), end (rec 0 false false false true) [])
    ∷ (end (plain 12) [], end (plain 0) (Rsc ∷ []))
    ∷ (end (plain 6) [], end (plain 1) [])
    ∷ []
pairs_shown = as_told

-- and every run leads to a pair that is reached
pub runs_reach : (run : Run) → Come true false (ran_from (end (plain 0) [], end (plain 0) []) run)
runs_reach = reached
