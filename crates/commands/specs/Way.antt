-- The program's way through a command and a timer, on a record of two octets. The contracts of this crate cite it; no promise leans on it, since
-- `step` shows that it comes to what `Tables` says.
-- Assumes nothing.
use Rattle.std.specs.Prelude.{cond, ◌&&◌, ◌||◌, ℕ, eqb, leb}
use Rattle.circuit.specs.declared.Command.{Command}
use Rattle.circuit.specs.declared.Command.TheVariants.{Seize, Release, AddressComplete, Answer, ClearBack, ReAnswer, FailCall, Block, Unblock, Restart}
use Rattle.circuit.specs.declared.Timer.{Timer}
use Rattle.circuit.specs.declared.Timer.TheVariants.{AddressWait, AnswerWait, IncomingHangUp, Repeat, OneMinute, BlockRepeat}
use Rattle.codes.specs.Headings.{failure_heading, heading_of}
use Rattle.answers.specs.Answers.{word}
use Rattle.marks.specs.Flags.{own, far, bla, uba}
use Rattle.marks.specs.Way.{blocked, unblocked}
use Rattle.commands.specs.Tables.{late, answer_signal}

-- refused, and taken with one signal
abbrev pub refused : (n state flags : ℕ) → ℕ
refused n s f = word n 0 s f 0 0

abbrev pub sent : (heading state flags ind : ℕ) → ℕ
sent heading s f ind = word 0 ind s f heading 0

-- in the states from low to high
abbrev pub within : (state flags low high heading new ind unmet : ℕ) → ℕ
within s f low high heading new ind unmet = cond (leb low s && leb s high) (sent heading new f ind) (refused unmet s f)

abbrev pub command_way : (state flags : ℕ) → Command → ℕ
command_way s f Seize = cond (eqb s 0 && far f) (refused 4 s f) (within s f 0 0 0x11 1 0 5)
command_way s f Release = within s f 1 4 0x46 5 0 5
command_way s f (AddressComplete t free) = within s f 6 6 0x14 (cond free 8 7) 0 5
command_way s f (Answer charging) = within s f 7 8 (heading_of (answer_signal charging)) 9 0 5
command_way s f ClearBack = within s f 9 9 0x36 10 0 5
command_way s f ReAnswer = within s f 10 10 0x56 9 0 5
command_way s f (FailCall g) = within s f 6 (cond (late g) 7 6) (failure_heading g) 11 0 5
command_way s f Block = cond (own f || eqb s 12) (refused 5 s f) (sent 0x27 s (blocked f) 0)
command_way s f Unblock = cond (own f) (sent 0x47 s (unblocked f) 0) (refused 5 s f)
command_way s f Restart = sent 0x77 12 0 0

abbrev pub timer_way : (state flags : ℕ) → Timer → ℕ
timer_way s f AddressWait = within s f 1 1 0x46 5 10 6
timer_way s f AnswerWait = cond (eqb s 2 || eqb s 4) (sent 0x46 5 f 10) (refused 6 s f)
timer_way s f IncomingHangUp = within s f 10 10 0x55 11 0 6
timer_way s f Repeat =
    cond (eqb s 5) (sent 0x46 s f 0)
    (cond (eqb s 11) (sent 0x55 s f 0)
    (cond (eqb s 12) (sent 0x77 s f 0)
    (refused 6 s f)))
timer_way s f OneMinute =
    cond (eqb s 5 || eqb s 11) (sent 0x77 12 0 8)
    (cond (eqb s 12) (sent 0x77 s f 8)
    (refused 6 s f))
timer_way s f BlockRepeat = cond (bla f) (sent 0x27 s f 0) (cond (uba f) (sent 0x47 s f 0) (refused 6 s f))
