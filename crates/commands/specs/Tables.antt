-- Document 01's "Commands and timers", the rows in the printed order.
-- Assumes nothing.
use Rattle.std.specs.Prelude.{Bool, true, false, not, cond, ◌&&◌, List, [], ◌∷◌, ℕ, eqb}
use Rattle.circuit.specs.declared.Record.{Record}
use Rattle.circuit.specs.declared.Failure.{Failure}
use Rattle.circuit.specs.declared.Failure.TheVariants.{Sec, Cgc, Nnc, Adi, Cfl, Ssb, Unn, Los, Sst}
use Rattle.circuit.specs.declared.Signal.{Signal}
use Rattle.circuit.specs.declared.Signal.TheVariants.{Iam, Acm, Anc, Ann, Cbk, Clf, Ran, Blo, Ubl, Rsc, Fail}
use Rattle.circuit.specs.declared.Sends.TheVariants.{One}
use Rattle.circuit.specs.declared.Charging.{Charging}
use Rattle.circuit.specs.declared.Charging.TheVariants.{Charged, Free}
use Rattle.circuit.specs.declared.Command.{Command}
use Rattle.circuit.specs.declared.Command.TheVariants.{Seize, Release, AddressComplete, Answer, ClearBack, ReAnswer, FailCall, Block, Unblock, Restart}
use Rattle.circuit.specs.declared.Timer.{Timer}
use Rattle.circuit.specs.declared.Timer.TheVariants.{AddressWait, AnswerWait, IncomingHangUp, Repeat, OneMinute, BlockRepeat}
use Rattle.circuit.specs.declared.Row.{Row}
use Rattle.circuit.specs.declared.Outcome.{Outcome}
use Rattle.circuit.specs.Records.{to, block, unblock, restarted, complete_octet}
use Rattle.circuit.specs.Rows.{row, first, refused}

-- the failures that may be sent in state 7: CFL, NNC, CGC (Q.724, 1.6)
abbrev pub late : Failure → Bool
late Sec = false
late Cgc = true
late Nnc = true
late Adi = false
late Cfl = true
late Ssb = false
late Unn = false
late Los = false
late Sst = false

-- ANC, ANN for an answer with and without charge
abbrev pub answer_signal : Charging → Signal
answer_signal Charged = Anc
answer_signal Free = Ann

-- The commands. A row: the states where it is allowed, from .. to, its condition, what is sent, the new record, indication 0.
abbrev pub command_table : Record → Command → List Row
command_table r Seize =
    row 0 0 (not r.far) (One Iam) (to r 1) 0
    ∷ []
command_table r Release =
    row 1 4 true (One Clf) (to r 5) 0
    ∷ []
command_table r (AddressComplete t free) =
    row 6 6 true (One (Acm (complete_octet t free))) (to r (cond free 8 7)) 0
    ∷ []
command_table r (Answer charging) =
    row 7 8 true (One (answer_signal charging)) (to r 9) 0
    ∷ []
command_table r ClearBack =
    row 9 9 true (One Cbk) (to r 10) 0
    ∷ []
command_table r ReAnswer =
    row 10 10 true (One Ran) (to r 9) 0
    ∷ []
command_table r (FailCall f) =
    row 6 6 true (One (Fail f)) (to r 11) 0
    ∷ row 7 7 (late f) (One (Fail f)) (to r 11) 0
    ∷ []
command_table r Block =
    row 0 11 (not r.own) (One Blo) (block r) 0
    ∷ []
command_table r Unblock =
    row 0 12 r.own (One Ubl) (unblock r) 0
    ∷ []
command_table r Restart =
    row 0 12 true (One Rsc) restarted 0
    ∷ []

-- 4: seize in state 0 with far block
abbrev pub seize_refusal : Record → ℕ
seize_refusal r = cond (eqb r.state 0 && r.far) 4 5

-- 5: any other case of a command, seize included, not allowed there
abbrev pub command_refusal : Record → Command → ℕ
command_refusal r Seize = seize_refusal r
command_refusal r Release = 5
command_refusal r (AddressComplete t free) = 5
command_refusal r (Answer charging) = 5
command_refusal r ClearBack = 5
command_refusal r ReAnswer = 5
command_refusal r (FailCall f) = 5
command_refusal r Block = 5
command_refusal r Unblock = 5
command_refusal r Restart = 5

abbrev pub on_command : Record → Command → Outcome
on_command r k = first r.state (command_table r k) (refused (command_refusal r k) r)

-- The timers: the states, the condition, what is sent, the new record, the indication.
abbrev pub timer_table : Record → Timer → List Row
timer_table r AddressWait =
    row 1 1 true (One Clf) (to r 5) 10
    ∷ []
timer_table r AnswerWait =
    row 2 2 true (One Clf) (to r 5) 10
    ∷ row 4 4 true (One Clf) (to r 5) 10
    ∷ []
timer_table r IncomingHangUp =
    row 10 10 true (One (Fail Cfl)) (to r 11) 0
    ∷ []
timer_table r Repeat =
    row 5 5 true (One Clf) r 0
    ∷ row 11 11 true (One (Fail Cfl)) r 0
    ∷ row 12 12 true (One Rsc) r 0
    ∷ []
timer_table r OneMinute =
    row 5 5 true (One Rsc) restarted 8
    ∷ row 11 11 true (One Rsc) restarted 8
    ∷ row 12 12 true (One Rsc) r 8
    ∷ []
timer_table r BlockRepeat =
    row 0 12 r.bla (One Blo) r 0
    ∷ row 0 12 r.uba (One Ubl) r 0
    ∷ []

-- 6: a timer not for this state or flag
abbrev pub on_timer : Record → Timer → Outcome
on_timer r t = first r.state (timer_table r t) (refused 6 r)
