-- What the check leaves of the proof that `parts::one` meets its contract.
-- Assumes nothing.
use Rattle.std.proofs.Common.{sym}
use Rattle.parts.proofs.Turns.{nothing_lands, may_take, may_not, room_enough}
use Rattle.parts.proofs.one.Goals as goal

pub returns-then-may_go : goal.returns-then-may_go
returns-then-may_go g c =
    let m = sym c.if-may_go.ensures in
    rw (may_take _ c.args.r _ _ m) (rw (room_enough _ c.args.r _ _ m) at c.turn.ensures)

pub returns : goal.returns
returns g c = rw (may_not _ _ _ _ (sym c.if-may_go.ensures)) (nothing_lands _ _)
