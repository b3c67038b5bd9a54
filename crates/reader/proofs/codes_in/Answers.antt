-- What the check leaves of the proof that `reader::codes_in` meets its contract.
-- Assumes nothing.
use Rattle.std.proofs.Common.{arith, length-set, ◌+◌}
use Rattle.reader.proofs.Signals.{reads, reads_two, read_all}
use Rattle.reader.proofs.codes_in.Goals.{then-i-count, else-i-count}
use Rattle.reader.proofs.codes_in.Goals as goal

pub loop-i-preserved : goal.loop-i-preserved
loop-i-preserved c = elim c.if-i-count.branch [
  | then-i-count w ↦ let u = c.loop-i.invariant in
      rw w.codes-is (
        omega arith,
        omega (arith, u.1),
        simp length-set u.2,
        reads_two c.args.octets.now c.loop-i.i u.1 (omega arith) (omega arith) _ _ _ c.half_of.ensures w.half_of-then-i-count.ensures u.3,
      )
  | else-i-count w ↦ absurd (omega arith)
]

pub returns : goal.returns
returns c = let u = c.loop-i.invariant in read_all c.args.octets.now c.args.count c.loop-i.i c.requires.1 u.0 c.loop-i-test.false c.loop-i.codes u.3

pub returns-after-i-count : goal.returns-after-i-count
returns-after-i-count c = elim c.if-i-count.branch [
  | then-i-count w ↦ let u = c.loop-i.invariant in
      read_all c.args.octets.now c.args.count (c.loop-i.i + 2) c.requires.1 (omega arith) (omega arith) _
      (rw w.codes-is (reads_two c.args.octets.now c.loop-i.i u.1 (omega arith) (omega arith) _ _ _ c.half_of.ensures w.half_of-then-i-count.ensures u.3))
  | else-i-count w ↦ let u = c.loop-i.invariant in
      read_all c.args.octets.now c.args.count (c.loop-i.i + 1) c.requires.1 (omega arith) (omega arith) _
      (rw w.codes-is (reads c.args.octets.now c.loop-i.i (omega arith) (omega arith) _ _ c.half_of.ensures u.3))
]
