-- What the check leaves of the proof that the closure in `text::event_line` meets its contract.
-- Assumes nothing.
use Rattle.text.specs.Lines.{line}
use Rattle.text.proofs.Writing.{then}
use Rattle.text.proofs.fn.event_line.written.Goals as goal

pub returns : goal.returns
unfolding line
returns c =
    then c.field.ensures (then (rw c.from.ensures at c.field-2.ensures) (then (rw c.from-2.ensures at c.field-3.ensures) (then c.state_and_flags.ensures
    (then (rw c.from-3.ensures at c.field-4.ensures) (then c.headings.ensures c.put.ensures)))))
