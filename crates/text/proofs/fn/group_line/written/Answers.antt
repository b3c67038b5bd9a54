-- What the check leaves of the proof that the closure in `text::group_line` meets its contract.
-- Assumes nothing.
use native.Mathlib.Omega.{arith}
use Rattle.text.specs.Lines.{group_line}
use Rattle.text.proofs.Writing.{then, at_most}
use Rattle.text.proofs.fn.group_line.written.Goals as goal

pub returns : goal.returns
unfolding group_line
returns c =
    at_most (then c.word.ensures (then (rw c.from.ensures at c.field.ensures) (then c.word-2.ensures (then (rw c.from-2.ensures at c.field-2.ensures)
    (rw c.from-3.ensures at c.numbered.ensures))))) (omega arith)
