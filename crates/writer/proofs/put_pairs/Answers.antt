-- What the check leaves of the proof that `writer::put_pairs` meets its contract.
-- Assumes nothing.
use Rattle.std.proofs.Common.{arith}
use Rattle.writer.proofs.Pairs.{pairs_more, pairs_odd, pairs_even}
use Rattle.writer.proofs.put_pairs.Goals as goal

pub loop-j-preserved : goal.loop-j-preserved
loop-j-preserved c = pairs_more c.args.address.now c.args.out.now c.requires.1 _ _ c.loop-j.invariant c.loop-j-test.true

pub returns-then-n-eq1 : goal.returns-then-n-eq1
returns-then-n-eq1 c = pairs_odd c.args.address.now c.args.out.now c.requires.1 _ _ c.loop-j.invariant (omega arith) c.if-n-eq1.true

pub returns-else-n-eq1 : goal.returns-else-n-eq1
returns-else-n-eq1 c = pairs_even c.args.address.now c.args.out.now c.requires.1 _ _ c.loop-j.invariant (omega arith) (omega arith) c.if-n-eq1.false
