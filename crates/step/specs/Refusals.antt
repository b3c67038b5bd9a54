-- When each refusal is given (docs/RULES.md, "Refusals"), apart from the tables: 12 first, 3 for an event that is none, then 5, 4 or 6.
-- Assumes nothing.
use Rattle.std.specs.Prelude.{Bool, true, false, not, ◌&&◌, ◌||◌, List, [], ◌∷◌, ℕ, eqb, leb, Option, Some, None}
use Rattle.circuit.specs.declared.Record.{Record}
use Rattle.circuit.specs.declared.Command.{Command}
use Rattle.circuit.specs.declared.Command.TheVariants.{Seize, Release, AddressComplete, Answer, ClearBack, ReAnswer, FailCall, Block, Unblock, Restart}
use Rattle.circuit.specs.declared.Timer.{Timer}
use Rattle.circuit.specs.declared.Timer.TheVariants.{AddressWait, AnswerWait, IncomingHangUp, Repeat, OneMinute, BlockRepeat}
use Rattle.circuit.specs.declared.Event.{Event}
use Rattle.circuit.specs.declared.Event.TheVariants.{Arrives, Ordered, RunsOut}
use Rattle.circuit.specs.Records.{valid}
use Rattle.circuit.specs.Refusals.{Rule, refuse, first_rule}
use Rattle.codes.specs.Numbers.{refusal_of}
use Rattle.commands.specs.Tables.{late}

abbrev pub within : ℕ → ℕ → ℕ → Bool
within s low high = leb low s && leb s high

-- the column "allowed in" of the commands
abbrev pub allowed : Record → Command → Bool
allowed r Seize = eqb r.state 0 && not r.far
allowed r Release = within r.state 1 4
allowed r (AddressComplete t free) = eqb r.state 6
allowed r (Answer charging) = eqb r.state 7 || eqb r.state 8
allowed r ClearBack = eqb r.state 9
allowed r ReAnswer = eqb r.state 10
allowed r (FailCall f) = eqb r.state 6 || (eqb r.state 7 && late f)
allowed r Block = not r.own && not (eqb r.state 12)
allowed r Unblock = r.own
allowed r Restart = true

-- the states and flags that the timers are for
abbrev pub runs : Record → Timer → Bool
runs r AddressWait = eqb r.state 1
runs r AnswerWait = eqb r.state 2 || eqb r.state 4
runs r IncomingHangUp = eqb r.state 10
runs r Repeat = eqb r.state 5 || eqb r.state 11 || eqb r.state 12
runs r OneMinute = eqb r.state 5 || eqb r.state 11 || eqb r.state 12
runs r BlockRepeat = r.bla || r.uba

-- a seizure in state 0 with far block
abbrev pub seizes_blocked : Record → Command → Bool
seizes_blocked r Seize = eqb r.state 0 && r.far
seizes_blocked r Release = false
seizes_blocked r (AddressComplete t free) = false
seizes_blocked r (Answer charging) = false
seizes_blocked r ClearBack = false
seizes_blocked r ReAnswer = false
seizes_blocked r (FailCall f) = false
seizes_blocked r Block = false
seizes_blocked r Unblock = false
seizes_blocked r Restart = false

-- the refusals of an event: no signal is refused; of a command 4, and 5 for any other case that is not allowed; of a timer 6
abbrev pub event_rules : Record → Event → List Rule
event_rules r (Arrives s) = []
event_rules r (Ordered k) = refuse 4 (seizes_blocked r k) ∷ refuse 5 (not (allowed r k)) ∷ []
event_rules r (RunsOut t) = refuse 6 (not (runs r t)) ∷ []

-- of an event that may be none: 3 for that
abbrev pub found_rules : Record → Option Event → List Rule
found_rules r (Some e) = event_rules r e
found_rules r None = refuse (refusal_of None) true ∷ []

-- on any record: 12 first
abbrev pub step_rules : Record → Option Event → List Rule
step_rules r f = refuse 12 (not (valid r)) ∷ found_rules r f

-- the refusal that is given, 0: it is accepted
abbrev pub refusal : Record → Event → ℕ
refusal r e = first_rule (event_rules r e)

abbrev pub refusal_found : Record → Option Event → ℕ
refusal_found r f = first_rule (step_rules r f)
