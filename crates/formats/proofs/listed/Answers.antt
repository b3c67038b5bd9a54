-- What the check leaves of the proof that `formats::listed` meets its contract.
-- Assumes nothing.
use Rattle.std.proofs.Common.{arith}
use Rattle.formats.proofs.Lengths.{by_set}
use Rattle.formats.proofs.listed.Goals as goal

pub returns-then-heading-lt256 : goal.returns-then-heading-lt256
returns-then-heading-lt256 c = rw c.group_of.ensures (by_set c.args.heading (omega (arith, c.if-heading-lt256.true)))
