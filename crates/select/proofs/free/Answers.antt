-- What the check leaves of the proof that `select::free` meets its contract.
-- Assumes nothing.
use Rattle.std.proofs.Common.{rules}
use Rattle.layout.specs.Layout.{record_of}
use Rattle.select.proofs.free.Goals as goal

pub returns-then-at-eq-IDLE : goal.returns-then-at-eq-IDLE
unfolding record_of
returns-then-at-eq-IDLE c = rw (c.from.ensures, c.if-at-eq-IDLE.true) (search rules)
