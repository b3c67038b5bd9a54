-- What the check leaves of the proof that `words::put_word` meets its contract.
-- Assumes nothing.
use Rattle.std.proofs.Common.{◌≡◌, ◌+◌, ◌-◌, arith, ◌∙◌}
use Rattle.words.specs.Octets.{low_first}
use Rattle.words.proofs.Words.{eight_low, put_whole}
use Rattle.words.proofs.put_word.Goals as goal

pub returns-then-xs-at-ge8 : goal.returns-then-xs-at-ge8
returns-then-xs-at-ge8 c =
    let eight : c.args.at + 8 - c.args.at ≡ 8 = omega arith in
    let octets : c.to_le_bytes.result ≡ low_first 8 c.args.v = c.to_le_bytes.ensures ∙ eight_low c.args.v in
    rw (c.copy_from_slice.ensures.after, octets, eight) (put_whole 8 c.args.xs.now c.args.at c.args.v (omega arith))
