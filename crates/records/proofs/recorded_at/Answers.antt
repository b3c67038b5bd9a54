-- What the check leaves of the proof that `records::recorded_at` meets its contract.
-- Assumes nothing.
use native.Mathlib.Nat.{add-zero, add_assoc}
use Rattle.records.specs.Records.{recorded}
use Rattle.records.proofs.Items.{octet_drop}
use Rattle.records.proofs.recorded_at.Goals as goal

pub returns : goal.returns
unfolding recorded
returns c =
    simp (octet_drop, add-zero, c.detail.ensures, c.octet-2.ensures, c.octet.ensures, c.two.ensures, c.octet-kind.ensures, add_assoc)
