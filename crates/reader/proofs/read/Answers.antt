-- What the check leaves of the proof that `reader::read` meets its contract.
-- Assumes nothing.
use Rattle.reader.proofs.Named.{has_signal}
use Rattle.reader.proofs.read.Goals as goal

pub unwrap-signal-requires : goal.unwrap-signal-requires
unwrap-signal-requires c = rw c.signal_of.ensures (has_signal _ _ _ _ _ c.in_ok-circuit.ensures _ c.from.ensures)
