-- What the check leaves of the proof that the closure in `text::iam_line` meets its contract.
-- Assumes nothing.
use native.Mathlib.Omega.{arith}
use borrow.Author.Tests.{le-ltb}
use Rattle.std.proofs.Common.{length}
use Rattle.text.specs.Lines.{iam_line}
use Rattle.text.proofs.Writing.{then, at_most}
use Rattle.text.proofs.fn.iam_line.written.Goals as goal

pub returns : goal.returns
unfolding iam_line
returns c =
    rw (le-ltb 15 (length c.captures.address.now) c.requires.1)
    (at_most (then c.read_start.ensures (then (rw c.from.ensures at c.number.ensures) (then (rw c.from-2.ensures at c.number-2.ensures) (then c.signals.ensures c.put.ensures)))) (omega arith))
