-- The numbers of an event (docs/RULES.md, "Events and answers"): its kind, its code and its detail. These and no others are read as that event.
-- Assumes nothing.
use Rattle.std.specs.Prelude.{ℕ, ◌≤◌}
use Rattle.circuit.specs.declared.Charging.{Charging}
use Rattle.circuit.specs.declared.Charging.TheVariants.{Charged, Free}
use Rattle.circuit.specs.declared.Signal.{Signal}
use Rattle.circuit.specs.declared.Command.{Command}
use Rattle.circuit.specs.declared.Command.TheVariants.{Seize, Release, AddressComplete, Answer, ClearBack, ReAnswer, FailCall, Block, Unblock, Restart}
use Rattle.circuit.specs.declared.Timer.{Timer}
use Rattle.circuit.specs.declared.Timer.TheVariants.{AddressWait, AnswerWait, IncomingHangUp, Repeat, OneMinute, BlockRepeat}
use Rattle.circuit.specs.declared.Event.{Event}
use Rattle.circuit.specs.declared.Event.TheVariants.{Arrives, Ordered, RunsOut}
use Rattle.circuit.specs.Records.{complete_octet}
use Rattle.codes.specs.Headings.{failure_heading, heading_of, octet_of}

-- kind, code and detail
abbrev pub Numbers : Type 0
Numbers = ℕ × ℕ × ℕ

-- a signal: kind 1, its heading; its detail is ACM's octet, else 0
abbrev pub of_signal : Signal → Numbers
of_signal s = (1, heading_of s, octet_of s)

-- ANC, ANN for detail 0, 1
abbrev pub charging_bit : Charging → ℕ
charging_bit Charged = 0
charging_bit Free = 1

-- a command: kind 2
abbrev pub of_command : Command → Numbers
of_command Seize = (2, 1, 0)
of_command Release = (2, 2, 0)
of_command (AddressComplete t free) = (2, 3, complete_octet t free)
of_command (Answer charging) = (2, 4, charging_bit charging)
of_command ClearBack = (2, 5, 0)
of_command ReAnswer = (2, 6, 0)
of_command (FailCall f) = (2, 7, failure_heading f)
of_command Block = (2, 8, 0)
of_command Unblock = (2, 9, 0)
of_command Restart = (2, 10, 0)

-- a timer: kind 3
abbrev pub of_timer : Timer → Numbers
of_timer AddressWait = (3, 1, 0)
of_timer AnswerWait = (3, 2, 0)
of_timer IncomingHangUp = (3, 3, 0)
of_timer Repeat = (3, 4, 0)
of_timer OneMinute = (3, 5, 0)
of_timer BlockRepeat = (3, 6, 0)

abbrev pub numbers_of : Event → Numbers
numbers_of (Arrives s) = of_signal s
numbers_of (Ordered k) = of_command k
numbers_of (RunsOut t) = of_timer t

-- a signal's detail is one octet
abbrev pub OneOctet : Event → Type 0
OneOctet (Arrives s) = octet_of s ≤ 255
OneOctet (Ordered k) = Unit
OneOctet (RunsOut t) = Unit
