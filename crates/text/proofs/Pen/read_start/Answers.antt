-- What the check leaves of the proof that `text::Pen::read_start` meets its contract.
-- Assumes nothing.
use Rattle.text.specs.Lines.{read_start}
use Rattle.text.proofs.Writing.{then}
use Rattle.text.proofs.Pen.read_start.Goals as goal

pub returns : goal.returns
unfolding read_start
returns c = then c.field.ensures (then c.word.ensures (then (rw c.from.ensures at c.field-2.ensures) (then c.hex.ensures c.put.ensures)))
