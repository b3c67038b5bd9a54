-- The numbers of the refusals (docs/RULES.md, "Refusals"); 0 stands for none.
-- Assumes nothing.
use Rattle.std.specs.Prelude.{ℕ}
use Rattle.names.specs.declared.Refusal.{Refusal}
use Rattle.names.specs.declared.Refusal.TheVariants.{NoSuchGroup, NoSuchCircuit, NoSuchEvent, FarBlocked, CommandNotAllowed, TimerNotRunning, WrongLength, WrongLabel, NoSuchHeading, WrongAddress, OutputTooShort, BadRecord, CounterFull, NoCircuit, ShortNumber}

abbrev pub number_of : Refusal → ℕ
number_of NoSuchGroup = 1
number_of NoSuchCircuit = 2
number_of NoSuchEvent = 3
number_of FarBlocked = 4
number_of CommandNotAllowed = 5
number_of TimerNotRunning = 6
number_of WrongLength = 7
number_of WrongLabel = 8
number_of NoSuchHeading = 9
number_of WrongAddress = 10
number_of OutputTooShort = 11
number_of BadRecord = 12
number_of CounterFull = 13
number_of NoCircuit = 14
number_of ShortNumber = 17
