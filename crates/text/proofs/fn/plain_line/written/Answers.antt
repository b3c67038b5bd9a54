-- What the check leaves of the proof that the closure in `text::plain_line` meets its contract.
-- Assumes nothing.
use native.Mathlib.Omega.{arith}
use Rattle.text.specs.Lines.{plain_line}
use Rattle.text.proofs.Writing.{then, at_most}
use Rattle.text.proofs.fn.plain_line.written.Goals as goal

pub returns : goal.returns
unfolding plain_line
returns c = at_most (then c.read_start.ensures c.word.ensures) (omega arith)
