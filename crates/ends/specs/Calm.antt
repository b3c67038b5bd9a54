-- The rule that a host can keep: it sees its own end alone. An end is calm while it has itself neither sent nor received a signal on the circuit since
-- nothing was on its way. Command 10, and timers 4 and 5 in states 5 and 12, wait until the end is calm, whatever the other end may have sent
-- meanwhile, and nothing is lost by them. A restart may also come at any time if all that is on its way is lost by it.
-- The machine is that of `Machine`, of ends that know whether they are calm. Whenever nothing is on its way, an end may note it, each by itself: that
-- both always do is the rule, and runs in which they do not are included. So is every run under the rule of `Ends`, and both have one proof.
-- Assumes nothing.
use Rattle.circuit.specs.declared.Event.{Event}
use Rattle.std.specs.Prelude.{Bool, true, false, cond, not, ◌||◌, List, [], ◌∷◌, ◌≡◌, ℕ, T, eqb, Option, Some, None}
use Rattle.circuit.specs.declared.Record.{Record}
use Rattle.circuit.specs.declared.Signal.{Signal}
use Rattle.circuit.specs.declared.Command.{Command}
use Rattle.circuit.specs.declared.Command.TheVariants.{Seize, Release, AddressComplete, Answer, ClearBack, ReAnswer, FailCall, Block, Unblock, Restart}
use Rattle.circuit.specs.declared.Timer.{Timer}
use Rattle.circuit.specs.declared.Timer.TheVariants.{AddressWait, AnswerWait, IncomingHangUp, Repeat, OneMinute, BlockRepeat}
use Rattle.circuit.specs.declared.Event.TheVariants.{Arrives, Ordered, RunsOut}
use Rattle.circuit.specs.declared.Outcome.{Outcome}
use Rattle.circuit.specs.Records.{plain, valid}
use Rattle.circuit.specs.Groups.{controls}
use Rattle.ends.specs.Machine.{Party, Both, Effect, Acts, When, When.any_time, When.in_silence, When.losing_all, When.never, Happening.host, turn, Step, Step.first, Step.second, Reached}
use Rattle.ends.specs.Ends.{End, end, in_order, does, awaiting, Agree}

-- a circuit's record at an end, and whether the end is calm
pub record Watched : Type 0 where
  pub of : Record
  pub calm : Bool

abbrev pub WatchedEnd : Type 0
WatchedEnd = Party Watched Signal

abbrev pub watched : Record → (calm : Bool) → List Signal → WatchedEnd
watched r calm w = record { holds = record { of = r; calm = calm }; coming = w }

abbrev pub KeptPair : Type 0
KeptPair = Both Watched Signal

-- the end without that knowledge
abbrev pub bare : WatchedEnd → End
bare x = end x.holds.of x.coming

-- sending ends the calm
abbrev pub still : {M : Type 0} → List M → Bool → Bool
still [] calm = calm
still (s ∷ rest) calm = false

-- what the host gives: an event; a restart by which all is lost that is on its way; or the end notes that nothing is on its way
pub data Gift : Type 0 where
  event : Option Event → Gift
  cut lull : Gift

-- whether the host may give an event at once, once the end is calm, or not at all
pub data Leave : Type 0 where
  at_once once_calm withheld : Leave

abbrev pub leave_ordered : Command → Leave
leave_ordered Seize = at_once
leave_ordered Release = at_once
leave_ordered (AddressComplete t free) = at_once
leave_ordered (Answer charging) = at_once
leave_ordered ClearBack = at_once
leave_ordered ReAnswer = at_once
leave_ordered (FailCall f) = at_once
leave_ordered Block = at_once
leave_ordered Unblock = at_once
leave_ordered Restart = once_calm

-- in 5 and in 12 the end awaits release-guard or reset, and says its CLF or RSC again
abbrev pub waits : Record → Bool
waits r = eqb r.state 5 || eqb r.state 12

abbrev pub leave_runs_out : Record → Timer → Leave
leave_runs_out r AddressWait = at_once
leave_runs_out r AnswerWait = at_once
leave_runs_out r IncomingHangUp = at_once
leave_runs_out r Repeat = cond (waits r) once_calm at_once
leave_runs_out r OneMinute = cond (waits r) once_calm at_once
leave_runs_out r BlockRepeat = at_once

abbrev pub leave : Record → Option Event → Leave
leave r (Some (Arrives s)) = withheld
leave r (Some (Ordered k)) = leave_ordered k
leave r (Some (RunsOut t)) = leave_runs_out r t
leave r None = at_once

-- whether it may be given now
abbrev pub ready : (calm : Bool) → Leave → Bool
ready calm at_once = true
ready calm once_calm = calm
ready calm withheld = false

abbrev pub when_kept : Watched → Gift → When
when_kept h (event e) = cond (ready h.calm (leave h.of e)) any_time never
when_kept h cut = losing_all
when_kept h lull = in_silence

-- of what an end does, what the pair sees, and the calm that is left
abbrev pub seen_calm : Bool → Outcome → Effect Watched Signal
seen_calm calm o = record { after = record { of = o.after; calm = calm }; sends = in_order o.sends }

-- a cut is command 10 at an end that need not be calm; its RSC is on its way then, so the end is not
abbrev pub gives_kept : (c : Bool) → Watched → Gift → Effect Watched Signal
gives_kept c h (event e) = let o = does c h.of e in seen_calm (still (in_order o.sends) h.calm) o
gives_kept c h cut = seen_calm false (does c h.of (Some (Ordered Restart)))
gives_kept c h lull = record { after = record { of = h.of; calm = true }; sends = [] }

-- every signal is about the circuit, and none is stuck; a signal that arrives ends the calm
abbrev pub kept_acts : (c : Bool) → Acts Watched Signal Gift
kept_acts c = record {
  stuck = λ h s. false;
  takes = λ h s. seen_calm false (does c h.of (Some (Arrives s)));
  when = when_kept;
  about = λ e s. true;
  gives = gives_kept c;
}

abbrev pub idle_kept : Bool → WatchedEnd
idle_kept calm = watched (plain 0) calm []

-- Where a run may start, as in `Ends`, whatever is known of the calm: both ends are idle and nothing is on its way, or one of them has just restarted
-- and lost everything.
pub data KeptStart (a b : Bool) : WatchedEnd → WatchedEnd → Type 0 where
  both_idle : (k j : Bool) → KeptStart a b (idle_kept k) (idle_kept j)
  first_restarted : (x y : WatchedEnd) → T (valid x.holds.of) → T (valid y.holds.of)
      → KeptStart a b (turn (kept_acts a) (host cut) x y).0 (turn (kept_acts a) (host cut) x y).1
  second_restarted : (x y : WatchedEnd) → T (valid x.holds.of) → T (valid y.holds.of)
      → KeptStart a b (turn (kept_acts b) (host cut) y x).1 (turn (kept_acts b) (host cut) y x).0

-- two ends whose hosts keep the rule can come to be such
abbrev pub KeptCome : (a b : Bool) → WatchedEnd → WatchedEnd → Type 0
KeptCome a b = Reached (KeptStart a b) (kept_acts a) (kept_acts b)

-- Demand 3 under this rule: whenever nothing is on its way and neither end is in 12, the two ends agree on the call and on both blocks.
unfoldable pub ClaimKept : Type 0
ClaimKept =
    (own far cic : ℕ) → (own ≡ far → ⊥) → (x y : WatchedEnd) → KeptCome (controls own far cic) (controls far own cic) x y
    → x.coming ≡ [] → y.coming ≡ [] → T (not (awaiting (bare x))) → T (not (awaiting (bare y))) → Agree (bare x) (bare y)

-- what the second end's host gives, one event after another; then the first end, being calm, restarts, and nothing is lost by that
abbrev pub by_other : List (Option Event) → List (Step Gift)
by_other [] = first (host (event (Some (Ordered Restart)))) ∷ []
by_other (e ∷ events) = second (host (event e)) ∷ by_other events
