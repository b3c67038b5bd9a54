-- What the check leaves of the proof that `text::cut_line` meets its contract.
-- Assumes nothing.
use Rattle.std.proofs.Common.{rules}
use Rattle.text.specs.Lines.{cut_line}
use Rattle.text.proofs.Writing.{at_most}
use Rattle.text.proofs.cut_line.Goals as goal

pub returns : goal.returns
unfolding cut_line
returns c = c.written.ensures _ (λ p q s r. search (rules, at_most))
