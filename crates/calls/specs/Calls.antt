-- The call part of the rows for signals (docs/RULES.md, "Signals that arrive"), at each state, role and signal, and the numbers that stand for it.
-- Assumes nothing.
use Rattle.std.specs.Prelude.{Bool, true, false, cond, ◌&&◌, ◌||◌, ℕ, ◌/◌, ◌%◌, eqb, leb, ltb}
use Rattle.circuit.specs.declared.Record.{Record}
use Rattle.circuit.specs.declared.Signal.{Signal}
use Rattle.circuit.specs.declared.Sends.{Sends}
use Rattle.circuit.specs.declared.Sends.TheVariants.{Nothing, One, Two}
use Rattle.circuit.specs.declared.Outcome.{Outcome}
use Rattle.circuit.specs.Records.{rec}
use Rattle.codes.specs.Headings.{heading_of}
use Rattle.signals.specs.Table.{on_signal}
use Rattle.calls.specs.declared.Call.{Call}

-- the new state, the heading of what the call sends (0 for nothing), the indication
abbrev pub call : (state sends ind : ℕ) → Call
call s sends ind = record { state = s; sends = sends; ind = ind }

-- a call sends CLF and RLG; BLO, BLA and UBA, which stand before them, are the marks'
abbrev pub of_call : Signal → ℕ
of_call s = cond (eqb (heading_of s) 0x46 || eqb (heading_of s) 0x17) (heading_of s) 0

abbrev pub call_sends : Sends → ℕ
call_sends Nothing = 0
call_sends (One s) = of_call s
call_sends (Two s t) = of_call t

abbrev pub call_part : Outcome → Call
call_part o = call o.after.state (call_sends o.sends) o.ind

-- marks that keep nothing from a call: no block, BLA and UBA awaited
abbrev pub unmarked : (state : ℕ) → Record
unmarked s = rec s false false true true

-- the call part of a signal, c: our end controls the circuit; above 12 there is no state, and nothing changes
unfoldable pub on_call : (c : Bool) → (state : ℕ) → Signal → Call
on_call c s sig = cond (leb s 12) (call_part (on_signal c (unmarked s) sig)) (call s 0 7)

-- THE NUMBERS. Two hexadecimal digits. The first is the new state; the second is the indication where nothing is sent, a: CLF with 10,
-- b: CLF with 6, c: RLG with 0, d: RLG with 5, e: RLG with 6
abbrev pub by_digit : (state digit : ℕ) → Call
by_digit s d =
    cond (ltb d 0xa) (call s 0 d)
    (cond (eqb d 0xa) (call s 0x46 10)
    (cond (eqb d 0xb) (call s 0x46 6)
    (cond (eqb d 0xc) (call s 0x17 0)
    (cond (eqb d 0xd) (call s 0x17 5)
    (call s 0x17 6)))))

unfoldable pub meaning : ℕ → Call
meaning n = by_digit (n / 16) (n % 16)

-- the numbers there are
abbrev pub is_number : ℕ → Bool
is_number n = leb (n / 16) 12 && leb (n % 16) 0xe
