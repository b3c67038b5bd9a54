-- What the check leaves of the proof that `records::octets_of` meets its contract.
-- Assumes nothing.
use Rattle.std.proofs.lemmas.Grind.{common_steps}
use native.Mathlib.Omega.{arith}
use Rattle.records.specs.Records.{octets_of}
use Rattle.records.proofs.octets_of.Goals as goal

pub returns-in-0 : goal.returns-in-0
unfolding octets_of
returns-in-0 c = rw c.in-0.is

pub returns-in-1 : goal.returns-in-1
unfolding octets_of
returns-in-1 c = grind (arith, common_steps)

pub returns-in-3 : goal.returns-in-3
unfolding octets_of
returns-in-3 c = rw c.in-3.is

pub returns-in_default : goal.returns-in_default
unfolding octets_of
returns-in_default c = grind (arith, common_steps)
