-- What the check leaves of the proof that `text::iam_line` meets its contract.
-- Assumes nothing.
use borrow.Author.Tests.{lt-ltb}
use Rattle.text.specs.Lines.{iam_line}
use Rattle.text.proofs.Writing.{no_text}
use Rattle.text.proofs.iam_line.Goals as goal

pub returns-then-address-gt-MOST_SIGNALS : goal.returns-then-address-gt-MOST_SIGNALS
unfolding iam_line
returns-then-address-gt-MOST_SIGNALS c = rw (lt-ltb 15 _ c.if-address-gt-MOST_SIGNALS.true) (no_text _)
