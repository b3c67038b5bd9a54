-- What the check leaves of the proof that `text::digits` meets its contract.
-- Assumes nothing.
use native.Mathlib.Omega.{arith}
use Rattle.text.proofs.Numbers.{decimal_small_length, decimal_longer}
use Rattle.text.proofs.Writing.{sets_small, sets_large}
use Rattle.text.proofs.+digits.Goals as goal

pub bounds-room-at : goal.bounds-room-at
bounds-room-at t c = omega (arith, decimal_small_length c.args.n c.if-n-lt10.true)

pub returns-then-n-lt10 : goal.returns-then-n-lt10
returns-then-n-lt10 t c = record {
  place = omega (arith, decimal_small_length c.args.n c.if-n-lt10.true);
  room = sets_small _ _ _ c.if-n-lt10.true;
}

pub digits-next-requires : goal.digits-next-requires
digits-next-requires t c = (omega arith, omega (arith, decimal_longer c.args.n c.if-n-lt10.false))

pub bounds-room-next : goal.bounds-room-next
bounds-room-next t c = omega (arith, decimal_longer c.args.n c.if-n-lt10.false)

pub overflow_add-result-2 : goal.overflow_add-result-2
overflow_add-result-2 t c = omega (arith, decimal_longer c.args.n c.if-n-lt10.false)

pub returns : goal.returns
returns t c = record {
  place = omega (arith, decimal_longer c.args.n c.if-n-lt10.false);
  room = rw (c.digits-next.ensures.room, c.digits-next.ensures.place) (sets_large _ _ _ c.if-n-lt10.false);
}
