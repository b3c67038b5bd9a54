-- What the check leaves of the proof that the closure in `text::acm_line` meets its contract.
-- Assumes nothing.
use native.Mathlib.Omega.{arith}
use Rattle.text.specs.Lines.{acm_line}
use Rattle.text.proofs.Writing.{then, at_most}
use Rattle.text.proofs.fn.acm_line.written.Goals as goal

pub returns : goal.returns
unfolding acm_line
returns c = at_most (then c.read_start.ensures (rw c.from.ensures at c.number.ensures)) (omega arith)
