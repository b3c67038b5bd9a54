-- `words::put_short_word`: so many octets are put.
-- Assumes nothing.
use Rattle.std.proofs.Common.{◌≡◌}
use Rattle.words.specs.Words.{put}
use Rattle.words.proofs.put_short_word.Given as goal

abbrev pub invariant-loop-k : goal.invariant-loop-k
invariant-loop-k l = l.xs ≡ put l.k l.fn.xs l.at l.v
