-- What the check leaves of the proof that `select::select` meets its contract.
-- Assumes nothing.
use Rattle.std.proofs.Common.{sym, ◌∙◌}
use Rattle.select.proofs.Searching.{no_group, in_group}
use Rattle.select.proofs.select.Goals as goal

pub returns-then-bad_group : goal.returns-then-bad_group
returns-then-bad_group c = no_group _ _ _ (rw c.records-records.ensures at (sym c.if-bad_group.ensures))

pub returns : goal.returns
returns c =
    rw (c.records-records.ensures, c.lowest.ensures) at c.search.ensures
    ∙ in_group _ _ _ (rw c.records-records.ensures at (sym c.if-bad_group.ensures))
