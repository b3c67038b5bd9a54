-- What the check leaves of the proof that `text::signal_digits` meets its contract.
-- Assumes nothing.
use Rattle.std.proofs.Common.{take, ◌≡◌}
use lib.Seq.{sets}
use Rattle.text.specs.Lines.{signals}
use Rattle.text.proofs.signal_digits.Given as goal

abbrev pub invariant-loop-i : goal.invariant-loop-i
invariant-loop-i l = l.room ≡ sets l.initial.room l.at (signals (take l.i l.address))
