-- What the check leaves of the proof that `messages::read_line` meets its contract.
-- Assumes nothing.
use borrow.Author.Tests.{eq-eqb, ne_eqb}
use Rattle.messages.specs.Listing.{read_line}
use Rattle.messages.proofs.read_line.Goals as goal

pub returns-in-17 : goal.returns-in-17
unfolding read_line
returns-in-17 c = rw (eq-eqb _ _ c.in-17.is) c.iam_line.ensures

pub returns-in-20 : goal.returns-in-20
unfolding read_line
returns-in-20 c = rw c.in-20.is (rw c.in-20.is at c.acm_line.ensures)

pub returns-in_default : goal.returns-in_default
unfolding read_line
returns-in_default c = let is = c.in_default.in_default-own.rest in rw (ne_eqb _ _ is.0.1, ne_eqb _ _ is.1) c.plain_line.ensures
