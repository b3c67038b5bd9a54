-- Two parties that send each other messages, said once, for two ends of a circuit and for two exchanges over a link: what can happen to the pair, by
-- the rules of demand 3: messages in order, none lost but by a restart, timers 4 to 6 only in silence. What a party holds, what a message is, what
-- the host gives and what a party does with either are parameters.
-- Assumes nothing.
use Rattle.circuit.specs.declared.Event.{Event}
use Rattle.std.specs.Prelude.{Bool, true, cond, not, ◌&&◌, List, [], ◌∷◌, ◌++◌, Option, Some, None}
use Rattle.circuit.specs.declared.Command.{Command}
use Rattle.circuit.specs.declared.Command.TheVariants.{Seize, Release, AddressComplete, Answer, ClearBack, ReAnswer, FailCall, Block, Unblock, Restart}
use Rattle.circuit.specs.declared.Timer.{Timer}
use Rattle.circuit.specs.declared.Timer.TheVariants.{AddressWait, AnswerWait, IncomingHangUp, Repeat, OneMinute, BlockRepeat}
use Rattle.circuit.specs.declared.Event.TheVariants.{Arrives, Ordered, RunsOut}

-- what a party holds, and the messages on their way to it in a queue of any length, the oldest first
pub record Party (H M : Type 0) : Type 0 where
  pub holds : H
  pub coming : List M

-- the party where something happened, and the other
abbrev pub Both : Type 0 → Type 0 → Type 0
Both H M = Party H M × Party H M

-- what a party does: what it holds then, and what it sends, in order
pub record Effect (H M : Type 0) : Type 0 where
  pub after : H
  pub sends : List M

-- when the host can let an event happen, and with what loss
pub data When : Type 0 where
  any_time in_silence losing_all never : When

-- command 10 loses all that is on its way
abbrev pub when_ordered : Command → When
when_ordered Seize = any_time
when_ordered Release = any_time
when_ordered (AddressComplete t free) = any_time
when_ordered (Answer charging) = any_time
when_ordered ClearBack = any_time
when_ordered ReAnswer = any_time
when_ordered (FailCall f) = any_time
when_ordered Block = any_time
when_ordered Unblock = any_time
when_ordered Restart = losing_all

-- timers 4, 5 and 6 run out only while nothing is on its way
abbrev pub when_runs_out : Timer → When
when_runs_out AddressWait = any_time
when_runs_out AnswerWait = any_time
when_runs_out IncomingHangUp = any_time
when_runs_out Repeat = in_silence
when_runs_out OneMinute = in_silence
when_runs_out BlockRepeat = in_silence

-- signals come from the other end, never from the host; numbers that name no event are refused whenever they come
abbrev pub when_given : Option Event → When
when_given (Some (Arrives s)) = never
when_given (Some (Ordered k)) = when_ordered k
when_given (Some (RunsOut t)) = when_runs_out t
when_given None = any_time

-- What a party does that holds something: with a message that arrives, unless it is stuck and stays where it is; and with what its host gives, when
-- the host can give it, where silence and loss are of the messages that it is about.
pub record Acts (H M E : Type 0) : Type 0 where
  pub stuck : H → M → Bool
  pub takes : H → M → Effect H M
  pub when : H → E → When
  pub about : E → M → Bool
  pub gives : H → E → Effect H M

-- none of a queue's messages is such; the queue without those that are
abbrev pub none : {M : Type 0} → (M → Bool) → List M → Bool
none such [] = true
none such (m ∷ rest) = not (such m) && none such rest

abbrev pub without : {M : Type 0} → (M → Bool) → List M → List M
without such [] = []
without such (m ∷ rest) = cond (such m) (without such rest) (m ∷ without such rest)

-- what can happen at a party
pub data Happening (E : Type 0) : Type 0 where
  arrives : Happening E
  host : E → Happening E

module _ {H M : Type 0} where
  abbrev pub silence : (M → Bool) → (me other : Party H M) → Bool
  silence such me other = none such me.coming && none such other.coming

  -- `rest` is still on its way to the party that acted, and what it sends comes last in the other's queue
  abbrev pub acted : Effect H M → (rest : List M) → (other : Party H M) → Both H M
  acted o rest other = (record { holds = o.after; coming = rest }, record { holds = other.holds; coming = other.coming ++ o.sends })

  -- messages are lost on their way to a party
  abbrev pub spared : (M → Bool) → Party H M → Party H M
  spared such p = record { holds = p.holds; coming = without such p.coming }

  module _ {E : Type 0} (a : Acts H M E) where
    -- the message at the head of the queue arrives
    abbrev pub arrival : H → List M → (other : Party H M) → Both H M
    arrival h [] other = (record { holds = h; coming = [] }, other)
    arrival h (m ∷ rest) other = cond (a.stuck h m) (record { holds = h; coming = m ∷ rest }, other) (acted (a.takes h m) rest other)

    abbrev pub given : When → E → (me other : Party H M) → Both H M
    given any_time e me other = acted (a.gives me.holds e) me.coming other
    given in_silence e me other = cond (silence (a.about e) me other) (acted (a.gives me.holds e) me.coming other) (me, other)
    given losing_all e me other = acted (a.gives me.holds e) (without (a.about e) me.coming) (spared (a.about e) other)
    given never e me other = (me, other)

    abbrev pub turn : Happening E → (me other : Party H M) → Both H M
    turn arrives me other = arrival me.holds me.coming other
    turn (host e) me other = given (a.when me.holds e) e me other

-- one thing that happens, at the first party or at the second, and what a run of such things leads to
pub data Step (E : Type 0) : Type 0 where
  first second : Happening E → Step E

abbrev pub after : {H M E : Type 0} → (a b : Acts H M E) → Both H M → List (Step E) → Both H M
after a b p [] = p
after a b p (first h ∷ steps) = after a b (turn a h p.0 p.1) steps
after a b p (second h ∷ steps) = let q = turn b h p.1 p.0 in after a b (q.1, q.0) steps

-- the pairs that are reached from those where a run may start; a, b: what the first party does, and the second
pub data Reached {H M E : Type 0} (Start : Party H M → Party H M → Type 0) (a b : Acts H M E) : Party H M → Party H M → Type 0 where
  start : {x y : Party H M} → Start x y → Reached Start a b x y
  at_first : {x y : Party H M} → Reached Start a b x y → (h : Happening E) → Reached Start a b (turn a h x y).0 (turn a h x y).1
  at_second : {x y : Party H M} → Reached Start a b x y → (h : Happening E) → Reached Start a b (turn b h y x).1 (turn b h y x).0
