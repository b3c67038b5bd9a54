-- What the check leaves of the proof that `text::Pen::decimal` meets its contract.
-- Assumes nothing.
use Rattle.std.proofs.Common.{rules}
use native.Mathlib.Omega.{arith}
use Rattle.text.proofs.Numbers.{decimal_small, decimal_64}
use Rattle.text.proofs.Writing.{at_most}
use Rattle.text.proofs.Pen.decimal.Goals as goal

pub returns-then-n-lt10 : goal.returns-then-n-lt10
returns-then-n-lt10 c = rw (decimal_small c.args.n c.if-n-lt10.true) (at_most {m = 1} c.put.ensures (omega arith))

pub digits-self-requires : goal.digits-self-requires
digits-self-requires c = omega (arith, decimal_64 c.args.n c.ranges.n.fits)

pub returns : goal.returns
returns c = record {
  place = c.digits-self.ensures.place;
  within = decimal_64 c.args.n c.ranges.n.fits;
  room = c.digits-self.ensures.room;
  same = search rules;
}
