-- `select::search`: none of ours was found so far, the best of theirs is held, and no bad record was met.
-- Assumes nothing.
use Rattle.circuit.specs.Groups.{by_parity}
use Rattle.select.specs.Way.{found}
use Rattle.select.proofs.Searching.{Scanned}
use Rattle.select.proofs.search.Given as goal

abbrev pub invariant-loop-i : goal.invariant-loop-i
invariant-loop-i l = Scanned (by_parity l.first) l.table l.i (found l.theirs l.records)
