-- `select::ours_from`: the best of ours so far is held.
-- Assumes nothing.
use Rattle.std.proofs.Common.{◌%◌, ◌-◌}
use Rattle.select.proofs.Searching.{Ours}
use Rattle.select.proofs.ours_from.Given as goal

abbrev pub invariant-loop-i : goal.invariant-loop-i
invariant-loop-i l = Ours (l.fn.from % 2) l.table l.records l.i l.best.cic.0 l.best.rank

abbrev pub decreases-loop-i : goal.decreases-loop-i
decreases-loop-i l = l.records - l.i
