-- Pairs of ends that are reached, each with the run that leads to it: the claims of `Ends` do not speak of nothing.
-- Assumes nothing.
use Rattle.circuit.specs.declared.Event.{Event}
use Rattle.std.specs.Prelude.{true, false, List, [], ◌∷◌, ◌++◌, ℕ, Option}
use Rattle.circuit.specs.declared.Failure.TheVariants.{Ssb, Cfl}
use Rattle.circuit.specs.declared.Record.{Record}
use Rattle.circuit.specs.declared.Signal.{Signal}
use Rattle.circuit.specs.declared.Signal.TheVariants.{Acm, Clf, Ubl, Rsc, Fail}
use Rattle.circuit.specs.Records.{rec, plain}
use Rattle.codes.specs.Numbers.{event_of}
use Rattle.ends.specs.Machine.{Happening, Happening.arrives, Happening.host, Step, Step.first, Step.second, after}
use Rattle.ends.specs.Ends.{end, idle, Pair, end_acts}
use Rattle.ends.specs.Calm.{watched, KeptPair, Gift, Gift.event, Gift.lull, idle_kept, kept_acts}

-- what happens at the controlling end, or at the other
abbrev pub C : Happening (Option Event) → Step (Option Event)
C = first

abbrev pub N : Happening (Option Event) → Step (Option Event)
N = second

-- a run of two ends
abbrev pub Run : Type 0
Run = List (Step (Option Event))

-- from two idle ends
abbrev pub ran_from : Pair → Run → Pair
ran_from = after (end_acts true) (end_acts false)

-- the host's events by their numbers
abbrev pub command : ℕ → ℕ → Happening (Option Event)
command code detail = host (event_of 2 code detail)

abbrev pub timer : ℕ → Happening (Option Event)
timer code = host (event_of 3 code 0)

-- seize
abbrev seized : Run
seized = C (command 1 0) ∷ N arrives ∷ []

-- address complete
abbrev complete : Run
complete = seized ++ (N (command 3 0) ∷ C arrives ∷ [])

-- address complete with subscriber free
abbrev free : Run
free = seized ++ (N (command 3 4) ∷ C arrives ∷ [])

-- answer
abbrev answered : Run
answered = free ++ (N (command 4 0) ∷ C arrives ∷ [])

-- clear-back
abbrev cleared : Run
cleared = answered ++ (N (command 5 0) ∷ C arrives ∷ [])

-- re-answer
abbrev answered_again : Run
answered_again = cleared ++ (N (command 6 0) ∷ C arrives ∷ [])

-- release: CLF and RLG
abbrev released : Run
released = answered ++ (C (command 2 0) ∷ N arrives ∷ C arrives ∷ [])

-- fail call, SSB: the other end waits in 11 for CLF
abbrev failed : Run
failed = seized ++ (N (command 7 0x65) ∷ [])

-- both ends seize, and their IAMs cross
abbrev dual_seizure : Run
dual_seizure = C (command 1 0) ∷ N (command 1 0) ∷ N arrives ∷ C arrives ∷ []

-- block: BLO and BLA arrive; a seizure is then refused
abbrev blocked : Run
blocked = N (command 8 0) ∷ C arrives ∷ N arrives ∷ C (command 1 0) ∷ []

-- the other end blocks as well
abbrev blocked_twice : Run
blocked_twice = blocked ++ (C (command 8 0) ∷ N arrives ∷ C arrives ∷ [])

-- and the first unblocks
abbrev unblocked : Run
unblocked = blocked_twice ++ (N (command 9 0) ∷ C arrives ∷ N arrives ∷ [])

-- a BLO and an IAM cross: the BLO ends the call, the IAM is answered by another BLO
abbrev crossed : Run
crossed = N (command 8 0) ∷ C (command 1 0) ∷ N arrives ∷ C arrives ∷ C arrives ∷ N arrives ∷ N arrives ∷ N arrives ∷ C arrives ∷ []

-- in an answered call, with a CBK on its way, the controlling end restarts
abbrev restarted : Run
restarted = answered ++ (N (command 5 0) ∷ C (command 10 0) ∷ N arrives ∷ C arrives ∷ [])

-- a CLF is lost by a restart, whose RSC is on its way: timer 4 does not run out yet
abbrev clf_lost : Run
clf_lost = answered ++ (C (command 2 0) ∷ N (command 10 0) ∷ C (timer 4) ∷ [])

-- the RSC finds state 5; then timer 4 repeats the CLF
abbrev repeated : Run
repeated = clf_lost ++ (C arrives ∷ C (timer 4) ∷ N arrives ∷ C arrives ∷ [])

-- no address complete comes: timer 1 runs out
abbrev timed_out : Run
timed_out = seized ++ (C (timer 1) ∷ [])

-- no answer comes: timer 2
abbrev unanswered : Run
unanswered = free ++ (C (timer 2) ∷ [])

-- the called party has hung up and stays so: timer 3 at the incoming end
abbrev hung_up : Run
hung_up = cleared ++ (N (timer 3) ∷ [])

-- after a CLF was lost, a minute has passed in 5: timer 5 resets the circuit
abbrev minute_passed : Run
minute_passed = clf_lost ++ (C arrives ∷ C (timer 5) ∷ [])

-- a UBL is lost by a restart: the block is gone, its end still awaits UBA
abbrev ubl_lost : Run
ubl_lost = N (command 8 0) ∷ C arrives ∷ N arrives ∷ N (command 9 0) ∷ C (command 10 0) ∷ N arrives ∷ C arrives ∷ []

-- timer 6 repeats it
abbrev ubl_repeated : Run
ubl_repeated = ubl_lost ++ (N (timer 6) ∷ [])

-- an end restarts that has an IAM on its way to the other
abbrev iam_lost : Run
iam_lost = C (command 1 0) ∷ C (command 10 0) ∷ []

-- the run that docs/TWO-ENDS.md works out: dual seizure, a whole call while nothing arrives at the controlling end, its release, and a new call the other way
abbrev worked : Run
worked = C (command 1 0) ∷ N (command 1 0) ∷ N arrives ∷ N (command 3 0) ∷ N (command 4 0) ∷ N (command 5 0) ∷ C (command 2 0) ∷ N arrives ∷ N (command 1 0)
    ∷ C arrives ∷ C arrives ∷ C arrives ∷ C arrives ∷ C arrives ∷ C arrives ∷ []

-- with these signals on their way
abbrev pub under_way : (c : Record) → List Signal → (n : Record) → List Signal → Pair
under_way c w n v = (end c w, end n v)

-- with nothing on its way
abbrev pub at_rest : (c n : Record) → Pair
at_rest c n = under_way c [] n []

pub record Case : Type 0 where
  pub steps : Run
  pub pair : Pair

abbrev pub cases : List Case
cases =
    record { steps = seized; pair = at_rest (plain 1) (plain 6) }
    ∷ record { steps = complete; pair = at_rest (plain 2) (plain 7) }
    ∷ record { steps = free; pair = at_rest (plain 2) (plain 8) }
    ∷ record { steps = answered; pair = at_rest (plain 3) (plain 9) }
    ∷ record { steps = cleared; pair = at_rest (plain 4) (plain 10) }
    ∷ record { steps = answered_again; pair = at_rest (plain 3) (plain 9) }
    ∷ record { steps = released; pair = at_rest (plain 0) (plain 0) }
    ∷ record { steps = failed; pair = under_way (plain 1) (Fail Ssb ∷ []) (plain 11) [] }
    ∷ record { steps = dual_seizure; pair = at_rest (plain 1) (plain 6) }
    ∷ record { steps = blocked; pair = at_rest (rec 0 false true false false) (rec 0 true false false false) }
    ∷ record { steps = blocked_twice; pair = at_rest (rec 0 true true false false) (rec 0 true true false false) }
    ∷ record { steps = unblocked; pair = at_rest (rec 0 true false false false) (rec 0 false true false false) }
    ∷ record { steps = crossed; pair = at_rest (rec 0 false true false false) (rec 0 true false false false) }
    ∷ record { steps = restarted; pair = at_rest (plain 0) (plain 0) }
    ∷ record { steps = clf_lost; pair = under_way (plain 5) (Rsc ∷ []) (plain 12) [] }
    ∷ record { steps = repeated; pair = at_rest (plain 0) (plain 0) }
    ∷ record { steps = timed_out; pair = under_way (plain 5) [] (plain 6) (Clf ∷ []) }
    ∷ record { steps = unanswered; pair = under_way (plain 5) [] (plain 8) (Clf ∷ []) }
    ∷ record { steps = hung_up; pair = under_way (plain 4) (Fail Cfl ∷ []) (plain 11) [] }
    ∷ record { steps = minute_passed; pair = under_way (plain 12) [] (plain 12) (Rsc ∷ []) }
    ∷ record { steps = ubl_lost; pair = at_rest (plain 0) (rec 0 false false false true) }
    ∷ record { steps = ubl_repeated; pair = under_way (plain 0) (Ubl ∷ []) (rec 0 false false false true) [] }
    ∷ record { steps = iam_lost; pair = under_way (plain 12) [] (plain 0) (Rsc ∷ []) }
    ∷ record { steps = worked; pair = at_rest (plain 6) (plain 1) }
    ∷ []

-- the runs, the pairs to which they lead, and the pairs that are told
abbrev pub runs : List Case → List Run
runs [] = []
runs (k ∷ l) = k.steps ∷ runs l

abbrev pub led : List Case → List Pair
led [] = []
led (k ∷ l) = ran_from (idle, idle) k.steps ∷ led l

abbrev pub told : List Case → List Pair
told [] = []
told (k ∷ l) = k.pair ∷ told l

-- THE RULE THAT A HOST CAN KEEP

abbrev pub KeptRun : Type 0
KeptRun = List (Step Gift)

abbrev pub ran_kept : KeptPair → KeptRun → KeptPair
ran_kept = after (kept_acts true) (kept_acts false)

abbrev pub kept_command : ℕ → ℕ → Happening Gift
kept_command code detail = host (event (event_of 2 code detail))

abbrev pub kept_timer : ℕ → Happening Gift
kept_timer code = host (event (event_of 3 code 0))

-- in a call that is seized, the controlling end notes that nothing is on its way; an ACM is sent to it; being calm, it restarts
abbrev calm_restart : KeptRun
calm_restart = first (kept_command 1 0) ∷ second arrives ∷ first (host lull) ∷ second (kept_command 3 0) ∷ first (kept_command 10 0) ∷ []

-- nothing was lost, and all arrives
abbrev calm_settled : KeptRun
calm_settled = calm_restart ++ (first arrives ∷ second arrives ∷ first arrives ∷ [])

-- an end in 5 repeats its CLF at once, without the calm: nothing happens
abbrev too_early : KeptRun
too_early = first (kept_command 1 0) ∷ second arrives ∷ first (kept_command 2 0) ∷ first (kept_timer 4) ∷ []

pub record KeptCase : Type 0 where
  pub steps : KeptRun
  pub pair : KeptPair

abbrev pub kept : List KeptCase
kept =
    record { steps = calm_restart; pair = (watched (plain 12) false (Acm 0 ∷ []), watched (plain 7) false (Rsc ∷ [])) }
    ∷ record { steps = calm_settled; pair = (watched (plain 0) false [], watched (plain 0) false []) }
    ∷ record { steps = too_early; pair = (watched (plain 5) false [], watched (plain 6) false (Clf ∷ [])) }
    ∷ []

abbrev pub kept_runs : List KeptCase → List KeptRun
kept_runs [] = []
kept_runs (k ∷ l) = k.steps ∷ kept_runs l

abbrev pub kept_led : List KeptCase → List KeptPair
kept_led [] = []
kept_led (k ∷ l) = ran_kept (idle_kept true, idle_kept true) k.steps ∷ kept_led l

abbrev pub kept_told : List KeptCase → List KeptPair
kept_told [] = []
kept_told (k ∷ l) = k.pair ∷ kept_told l
