-- What the check leaves of the proof that `parts::begin` meets its contract.
-- Assumes nothing.
use Rattle.std.proofs.Common.{sym}
use mathlib.Core.Path.{◌∙◌}
use Rattle.parts.proofs.Opening.{too_few, is_refused, no_line, opens}
use Rattle.parts.proofs.begin.Goals as goal

pub returns-then-part-octets-clause-answers : goal.returns-then-part-octets-clause-answers
returns-then-part-octets-clause-answers c =
    c.stay.ensures ∙ (too_few c.args.part.now c.args.room.now (rw (← c.octets_of-octets.ensures) c.if-part-octets.true)).0

pub returns-then-part-octets-clause-writes : goal.returns-then-part-octets-clause-writes
returns-then-part-octets-clause-writes c =
    (too_few c.args.part.now c.args.room.now (rw (← c.octets_of-octets.ensures) c.if-part-octets.true)).1.0

pub returns-then-refused_start-clause-answers : goal.returns-then-refused_start-clause-answers
returns-then-refused_start-clause-answers c =
    c.stay-then-refused_start.ensures ∙ (is_refused c.args.part.now c.args.room.now (rw (← c.octets_of-octets.ensures) c.if-part-octets.false) (sym c.if-refused_start.ensures)).0

pub returns-then-refused_start-clause-writes : goal.returns-then-refused_start-clause-writes
returns-then-refused_start-clause-writes c =
    (is_refused c.args.part.now c.args.room.now (rw (← c.octets_of-octets.ensures) c.if-part-octets.false) (sym c.if-refused_start.ensures)).1.0

pub returns-then-room-lt-LINE-clause-answers : goal.returns-then-room-lt-LINE-clause-answers
returns-then-room-lt-LINE-clause-answers c =
    c.stay-then-room-lt-LINE.ensures ∙ (no_line c.args.part.now c.args.room.now (rw (← c.octets_of-octets.ensures) c.if-part-octets.false) (sym c.if-refused_start.ensures) c.if-room-lt-LINE.true).0

pub returns-then-room-lt-LINE-clause-writes : goal.returns-then-room-lt-LINE-clause-writes
returns-then-room-lt-LINE-clause-writes c =
    (no_line c.args.part.now c.args.room.now (rw (← c.octets_of-octets.ensures) c.if-part-octets.false) (sym c.if-refused_start.ensures) c.if-room-lt-LINE.true).1.0

pub returns : goal.returns
returns c =
    let b = opens c.args.part.now c.args.room.now c.group_line-written.new.room c.group_in-group.result c.group_line-written.result c.octets_of-octets.result
    (rw (← c.octets_of-octets.ensures) c.if-part-octets.false) (sym c.if-refused_start.ensures) c.if-room-lt-LINE.false c.group_in-group.ensures c.group_line-written.ensures
    c.octets_of-octets.ensures c.group_line-written.auto.room in
    record { answers = b.0; writes = b.1.0; within = b.1.1 }
