-- What the check leaves of the proof that `messages::ListingKind::turn` meets its contract.
-- Assumes nothing.
use Rattle.std.proofs.Common.{refl}
use Rattle.parts.proofs.Turns.{nothing_lands, room_for}
use Rattle.messages.proofs.Turns.{not_there, there, message_lands}
use Rattle.messages.proofs.ListingKind.turn.Goals as goal

pub returns-in_err-octets : goal.returns-in_err-octets
returns-in_err-octets c =
    rw (room_for _ _ _ c.if-room-lt-LINE.false, not_there c.args.r c.args.part.now (c.in_err-octets.ensures.none.0 refl), c.from_residual.ensures) (nothing_lands _ _)

pub returns : goal.returns
returns c =
    let a = c.args in
    let o = c.in_ok-octets in
    rw (room_for _ _ _ c.if-room-lt-LINE.false)
    (message_lands a.r a.part.now a.room.now _ _ _ (there a.part.now o.ensures.none.1) o.ensures.message c.if-room-lt-LINE.false c.message_line-written.ensures)
