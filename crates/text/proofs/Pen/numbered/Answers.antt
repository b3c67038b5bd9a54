-- What the check leaves of the proof that `text::Pen::numbered` meets its contract.
-- Assumes nothing.
use Rattle.text.proofs.Writing.{then}
use Rattle.text.proofs.Pen.numbered.Goals as goal

pub returns : goal.returns
returns c = then c.word.ensures c.number.ensures
