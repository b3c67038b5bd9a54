-- What the check leaves of the proof that `text::digits` meets its contract.
-- Assumes nothing.
use Rattle.text.proofs.+digits.Given as goal

abbrev pub decreases-digits : goal.decreases-digits
decreases-digits l = l.n
