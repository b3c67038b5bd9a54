-- What the check leaves of the proof that `text::Pen::state_and_flags` meets its contract.
-- Assumes nothing.
use mathlib.Core.Path.{sym, ◌∙◌}
use borrow.Author.Tests.{ne_eqb}
use native.Mathlib.Omega.{arith}
use Rattle.text.specs.Lines.{state_and_flags}
use Rattle.text.proofs.Writing.{then, at_most}
use Rattle.text.proofs.Pen.state_and_flags.Goals as goal

pub returns-then-l-from : goal.returns-then-l-from
unfolding state_and_flags
returns-then-l-from c = rw (c.if-l-from.true ∙ c.from.ensures) (at_most c.word.ensures (omega arith))

pub returns : goal.returns
unfolding state_and_flags
returns c = rw (ne_eqb _ _ (λ e. c.if-l-from.false (e ∙ sym c.from.ensures))) (then (rw c.from-2.ensures at c.field.ensures) (rw c.from-3.ensures at c.field-2.ensures))
