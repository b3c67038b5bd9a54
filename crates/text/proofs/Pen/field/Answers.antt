-- What the check leaves of the proof that `text::Pen::field` meets its contract.
-- Assumes nothing.
use Rattle.text.specs.Lines.{field}
use Rattle.text.proofs.Pen.field.Goals as goal

pub returns : goal.returns
unfolding field
returns c = c.number.ensures
