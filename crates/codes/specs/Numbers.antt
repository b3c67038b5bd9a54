-- An event by numbers: its kind (1 signal, 2 command, 3 timer), its code and its detail, as docs/RULES.md lists them. What it does not list is
-- refusal 3.
-- Assumes nothing.
use Rattle.circuit.specs.declared.Signal.{Signal}
use Rattle.circuit.specs.declared.Failure.{Failure}
use Rattle.std.specs.Prelude.{Bool, true, false, cond, ◌&&◌, ◌||◌, ℕ, eqb, leb, Option, Some, None}
use Rattle.circuit.specs.declared.AddressType.TheVariants.{Plain, Charge, NoCharge, Payphone}
use Rattle.circuit.specs.declared.Charging.TheVariants.{Charged, Free}
use Rattle.circuit.specs.declared.Command.TheVariants.{Seize, Release, AddressComplete, Answer, ClearBack, ReAnswer, FailCall, Block, Unblock, Restart}
use Rattle.circuit.specs.declared.Timer.TheVariants.{AddressWait, AnswerWait, IncomingHangUp, Repeat, OneMinute, BlockRepeat}
use Rattle.circuit.specs.declared.Event.{Event}
use Rattle.circuit.specs.declared.Event.TheVariants.{Arrives, Ordered, RunsOut}
use Rattle.codes.specs.Headings.{failure_of, signal_of}

-- the refusal that an answer stands for
abbrev pub refusal_of : Option Event → ℕ
refusal_of (Some e) = 0
refusal_of None = 3

-- an event with no detail: 0
abbrev pub bare : ℕ → Event → Option Event
bare detail e = cond (eqb detail 0) (Some e) None

-- a signal's detail is any octet for ACM, else 0
abbrev pub detail_fits : ℕ → ℕ → Bool
detail_fits code detail = leb detail 255 && (eqb code 0x14 || eqb detail 0)

abbrev pub arrives : Option Signal → Option Event
arrives (Some s) = Some (Arrives s)
arrives None = None

abbrev pub signal_event : ℕ → ℕ → Option Event
signal_event code detail = cond (detail_fits code detail) (arrives (signal_of code detail)) None

-- address complete, 0..7: the type in the bits worth 1 and 2, subscriber free in the bit worth 4
abbrev pub complete : ℕ → Option Event
complete detail =
    cond (eqb detail 0) (Some (Ordered (AddressComplete Plain false)))
    (cond (eqb detail 1) (Some (Ordered (AddressComplete Charge false)))
    (cond (eqb detail 2) (Some (Ordered (AddressComplete NoCharge false)))
    (cond (eqb detail 3) (Some (Ordered (AddressComplete Payphone false)))
    (cond (eqb detail 4) (Some (Ordered (AddressComplete Plain true)))
    (cond (eqb detail 5) (Some (Ordered (AddressComplete Charge true)))
    (cond (eqb detail 6) (Some (Ordered (AddressComplete NoCharge true)))
    (cond (eqb detail 7) (Some (Ordered (AddressComplete Payphone true)))
    None)))))))

-- answer: 0 with charge (ANC), 1 without (ANN)
abbrev pub answer : ℕ → Option Event
answer detail = cond (eqb detail 0) (Some (Ordered (Answer Charged))) (cond (eqb detail 1) (Some (Ordered (Answer Free))) None)

-- fail: a failure heading
abbrev pub fail_with : Option Failure → Option Event
fail_with (Some f) = Some (Ordered (FailCall f))
fail_with None = None

abbrev pub command_event : ℕ → ℕ → Option Event
command_event code detail =
    cond (eqb code 1) (bare detail (Ordered Seize))
    (cond (eqb code 2) (bare detail (Ordered Release))
    (cond (eqb code 3) (complete detail)
    (cond (eqb code 4) (answer detail)
    (cond (eqb code 5) (bare detail (Ordered ClearBack))
    (cond (eqb code 6) (bare detail (Ordered ReAnswer))
    (cond (eqb code 7) (fail_with (failure_of detail))
    (cond (eqb code 8) (bare detail (Ordered Block))
    (cond (eqb code 9) (bare detail (Ordered Unblock))
    (cond (eqb code 10) (bare detail (Ordered Restart))
    None)))))))))

abbrev pub timer_event : ℕ → ℕ → Option Event
timer_event code detail =
    cond (eqb code 1) (bare detail (RunsOut AddressWait))
    (cond (eqb code 2) (bare detail (RunsOut AnswerWait))
    (cond (eqb code 3) (bare detail (RunsOut IncomingHangUp))
    (cond (eqb code 4) (bare detail (RunsOut Repeat))
    (cond (eqb code 5) (bare detail (RunsOut OneMinute))
    (cond (eqb code 6) (bare detail (RunsOut BlockRepeat))
    None)))))

unfoldable pub event_of : ℕ → ℕ → ℕ → Option Event
event_of kind code detail =
    cond (eqb kind 1) (signal_event code detail)
    (cond (eqb kind 2) (command_event code detail)
    (cond (eqb kind 3) (timer_event code detail)
    None))
