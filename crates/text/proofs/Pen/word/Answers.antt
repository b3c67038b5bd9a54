-- What the check leaves of the proof that `text::Pen::word` meets its contract.
-- Assumes nothing.
use native.Mathlib.Omega.{arith}
use mathlib.Core.Path.{refl}
use Rattle.text.proofs.Writing.{copied}
use Rattle.text.proofs.Pen.word.Goals as goal

pub returns : goal.returns
returns c = record {
  place = refl;
  within = omega arith;
  room = copied _ _ _ _ _ c.copy_from_slice.ensures.after (omega arith) (omega arith);
  same = refl;
}
