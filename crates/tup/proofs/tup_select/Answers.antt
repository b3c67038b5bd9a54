-- What the check leaves of the proof that `tup::tup_select` meets its contract.
-- Assumes nothing.
use Rattle.select.proofs.Laws.{small}
use Rattle.tup.proofs.tup_select.Goals as goal

pub pack_choice-requires : goal.pack_choice-requires
pack_choice-requires c = rw c.select.ensures (small _ _ _)
