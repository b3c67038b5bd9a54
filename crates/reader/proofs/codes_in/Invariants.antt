-- The loop of `reader::codes_in`: the address signals that it has taken, those of whole octets.
-- Assumes nothing.
use Rattle.std.proofs.Common.{◌≡◌, ◌≤◌, ◌%◌, length, drop}
use Rattle.std.proofs.Math.Seq.{paste}
use Rattle.formats.specs.Way.{halves}
use Rattle.reader.specs.Told.{no_codes}
use Rattle.reader.proofs.codes_in.Given as goal

abbrev pub invariant-loop-i : goal.invariant-loop-i
invariant-loop-i l = (l.i ≤ l.count) × (l.i % 2 ≡ 0) × (length l.codes ≡ 15) × (l.codes ≡ paste no_codes 0 (halves (drop 9 l.octets)) l.i)
