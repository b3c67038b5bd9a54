-- What the check leaves of the proof that `text::Pen::number` meets its contract.
-- Assumes nothing.
use Rattle.text.proofs.Writing.{then}
use Rattle.text.proofs.Pen.number.Goals as goal

pub returns : goal.returns
returns c = then c.decimal.ensures c.put.ensures
