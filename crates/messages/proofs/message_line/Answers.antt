-- What the check leaves of the proof that `messages::message_line` meets its contract.
-- Assumes nothing.
use Rattle.messages.proofs.Turns.{few_signals, read_is, refused_is}
use Rattle.messages.proofs.message_line.Goals as goal

pub read_line-requires : goal.read_line-requires
read_line-requires c =
    let g = c.args.g in
    rw (← c.in-Ok.ensures) at (few_signals g.codes.own.0 g.codes.far.0 c.from.result c.args.octets.now)

pub returns-in-Ok : goal.returns-in-Ok
returns-in-Ok c = rw (← c.from.ensures, ← c.in-Ok.ensures, read_is c.args.ordinal c.in-Ok.f) c.read_line.ensures

pub returns-in-Err : goal.returns-in-Err
returns-in-Err c = rw (← c.from.ensures, ← c.in-Err.ensures, refused_is c.args.ordinal c.in-Err.e, ← c.from-in-Err.ensures) c.refused_line.ensures
