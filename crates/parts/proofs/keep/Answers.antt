-- What the check leaves of the proof that `parts::keep` meets its contract.
-- Assumes nothing.
use mathlib.Core.Path.{◌∙◌}
use Rattle.parts.proofs.Kept.{none_kept, kept_length, moved}
use Rattle.parts.proofs.keep.Goals as goal

pub returns-then-buffer-have-clause-answers : goal.returns-then-buffer-have-clause-answers
returns-then-buffer-have-clause-answers c = let a = c.args in rw (none_kept a.buffer.now a.at a.have c.then-buffer-have.either)

pub returns-then-buffer-have-clause-moves : goal.returns-then-buffer-have-clause-moves
returns-then-buffer-have-clause-moves c = let a = c.args in rw (none_kept a.buffer.now a.at a.have c.then-buffer-have.either)

pub returns-clause-answers : goal.returns-clause-answers
returns-clause-answers c = let a = c.args in kept_length a.buffer.now a.at a.have c.if-have-at.false c.if-buffer-have.false

pub returns-clause-moves : goal.returns-clause-moves
returns-clause-moves c = let a = c.args in c.copy_within.ensures.after ∙ moved a.buffer.now a.at a.have c.if-have-at.false c.if-buffer-have.false
