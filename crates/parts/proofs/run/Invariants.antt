-- What the check leaves of the proof that `parts::run` meets its contract.
-- Assumes nothing.
use Rattle.std.proofs.Common.{length, ◌-◌}
use Rattle.parts.proofs.Loop.{Sofar}
use Rattle.parts.proofs.run.Given as goal

abbrev pub invariant-loop-t : goal.invariant-loop-t
invariant-loop-t g l =
    let k = g.K.Kind in
    Sofar k.making l.initial.here (k.state_in l.initial.lent) l.part l.initial.room l.here (k.state_in l.lent) l.room l.at l.out

abbrev pub decreases-loop-t : goal.decreases-loop-t
decreases-loop-t g l = length l.part - l.at
