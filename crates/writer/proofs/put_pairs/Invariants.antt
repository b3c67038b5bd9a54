-- The loop of `writer::put_pairs`: the pairs of address signals that it has put.
-- Assumes nothing.
use Rattle.std.proofs.Common.{◌≡◌}
use Rattle.std.proofs.Math.Seq.{paste}
use Rattle.formats.specs.Way.{pairs}
use Rattle.writer.proofs.put_pairs.Given as goal

abbrev pub invariant-loop-j : goal.invariant-loop-j
invariant-loop-j l = l.out ≡ paste l.fn.out 9 (pairs l.address) l.j
