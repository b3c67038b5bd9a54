-- One event on one circuit's record (docs/RULES.md): what it answers, with its refusals in the order 12, 3, then 5, 4 or 6.
-- Assumes nothing.
use Rattle.std.specs.Prelude.{Bool, cond, true, false, ℕ, Option, Some, None}
use Rattle.circuit.specs.declared.Record.{Record}
use Rattle.circuit.specs.declared.Event.{Event}
use Rattle.circuit.specs.declared.Event.TheVariants.{Arrives, Ordered, RunsOut}
use Rattle.circuit.specs.declared.Outcome.{Outcome}
use Rattle.circuit.specs.Records.{valid}
use Rattle.circuit.specs.Rows.{refused}
use Rattle.codes.specs.Numbers.{refusal_of}
use Rattle.signals.specs.Table.{on_signal}
use Rattle.commands.specs.Tables.{on_command, on_timer}
use Rattle.circuit.specs.declared.Sends.{Sends}
use Rattle.circuit.specs.declared.Sends.TheVariants.{Nothing, One, Two}

-- what the tables say: of signals, of commands (with their refusals 5 and 4), of timers (with 6); c: our end controls the circuit
abbrev pub by_tables : (c : Bool) → Record → Event → Outcome
by_tables c r (Arrives s) = on_signal c r s
by_tables c r (Ordered k) = on_command r k
by_tables c r (RunsOut t) = on_timer r t

-- 12: the record has a state above 12 or flags not allowed
unfoldable pub step : (c : Bool) → Record → Event → Outcome
step c r e = cond (valid r) (by_tables c r e) (refused 12 r)

-- an event by its numbers, which may be none: 12 still comes before the 3 of that
unfoldable pub step_found : (c : Bool) → Record → Option Event → Outcome
step_found c r (Some e) = step c r e
step_found c r None = cond (valid r) (refused (refusal_of None) r) (refused 12 r)

abbrev pub is_signal : Event → Bool
is_signal (Arrives s) = true
is_signal (Ordered k) = false
is_signal (RunsOut t) = false

abbrev pub sent : Sends → ℕ
sent Nothing = 0
sent (One s) = 1
sent (Two s t) = 2
