-- What the check leaves of the proof that `trace::ReplayKind::turn` meets its contract.
-- Assumes nothing.
use Rattle.std.proofs.Common.{sym}
use Rattle.parts.proofs.Turns.{room_for}
use Rattle.trace.proofs.Turns.{event_lands}
use Rattle.trace.proofs.ReplayKind.turn.Goals as goal

pub returns : goal.returns
returns c =
    let a = c.args in
    let s = c.step-answer in
    let n = c.new-reader.ensures in
    rw (room_for _ _ _ c.if-room-lt-LINE.false)
    (event_lands a.r a.table.now a.part.now c.in-Event.e (sym (rw (n.0, n.1) at c.in-Event.ensures)) s.result c.line_of.result _ a.room.now _ c.event_line-written.result _
    (rw (c.from.ensures, c.numbers_of.ensures) at s.ensures.unpacks) (rw (c.from.ensures, c.numbers_of.ensures) at s.ensures.leaves)
    c.line_of.ensures c.if-room-lt-LINE.false c.event_line-written.ensures (rw (n.0, n.1) at c.next-taken.ensures.1))
