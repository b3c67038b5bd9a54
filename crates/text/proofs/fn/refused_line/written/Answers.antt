-- What the check leaves of the proof that the closure in `text::refused_line` meets its contract.
-- Assumes nothing.
use native.Mathlib.Omega.{arith}
use Rattle.text.specs.Lines.{refused_line}
use Rattle.text.proofs.Writing.{then, at_most}
use Rattle.text.proofs.fn.refused_line.written.Goals as goal

pub returns : goal.returns
unfolding refused_line
returns c = at_most (then c.field.ensures (then (rw c.from.ensures at c.field-2.ensures) (then c.field-3.ensures c.word.ensures))) (omega arith)
