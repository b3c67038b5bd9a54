-- What the check leaves of the proof that `text::Pen::headings` meets its contract.
-- Assumes nothing.
use borrow.Author.Tests.{ne_eqb}
use native.Mathlib.Omega.{arith}
use Rattle.text.specs.Lines.{headings}
use Rattle.text.proofs.Writing.{then, at_most}
use Rattle.text.proofs.Pen.headings.Goals as goal

pub returns-then-first-eq-NO_SIGNAL : goal.returns-then-first-eq-NO_SIGNAL
unfolding headings
returns-then-first-eq-NO_SIGNAL c = rw c.if-first-eq-NO_SIGNAL.true (at_most c.put.ensures (omega arith))

pub returns-then-second-eq-NO_SIGNAL : goal.returns-then-second-eq-NO_SIGNAL
unfolding headings
returns-then-second-eq-NO_SIGNAL c =
    rw (ne_eqb _ _ c.if-first-eq-NO_SIGNAL.false, c.if-second-eq-NO_SIGNAL.true) (at_most c.hex.ensures (omega arith))

pub returns : goal.returns
unfolding headings
returns c =
    rw (ne_eqb _ _ c.if-first-eq-NO_SIGNAL.false, ne_eqb _ _ c.if-second-eq-NO_SIGNAL.false) (then c.hex.ensures (then c.put-2.ensures c.hex-2.ensures))
