-- What the check leaves of the proof that `codes::event_of` meets its contract.
-- Assumes nothing.
use Rattle.std.proofs.Common.{rules}
use Rattle.codes.specs.Numbers.{event_of}
use Rattle.codes.proofs.event_of.Goals as goal

pub returns-in-1 : goal.returns-in-1
unfolding event_of
returns-in-1 c = rw (c.signal_event.ensures, c.in-1.is)

pub returns-in-2 : goal.returns-in-2
unfolding event_of
returns-in-2 c = rw (c.command_event.ensures, c.in-2.is)

pub returns-in-3 : goal.returns-in-3
unfolding event_of
returns-in-3 c = rw (c.timer_event.ensures, c.in-3.is)

pub returns-in_default : goal.returns-in_default
unfolding event_of
returns-in_default c = search rules
