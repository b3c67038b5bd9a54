-- What the check leaves of the proof that `words::put_short_word` meets its contract.
-- Assumes nothing.
use Rattle.std.proofs.Common.{◌≡◌, add-one, arith, refl, sym, ◌∙◌}
use Rattle.words.specs.Words.{put}
use Rattle.words.specs.Octets.{low_first}
use Rattle.words.proofs.Words.{eight_low, put_next}
use Rattle.words.proofs.put_short_word.Goals as goal

pub loop-k-init : goal.loop-k-init
unfolding put
loop-k-init c = refl

pub loop-k-preserved : goal.loop-k-preserved
loop-k-preserved c =
    let octets : c.to_le_bytes.result ≡ low_first 8 c.args.v = c.to_le_bytes.ensures ∙ eight_low c.args.v in
    c.put_octet.ensures ∙ rw (add-one, c.loop-k.invariant, octets) (sym (put_next _ 8 _ _ _ c.loop-k-test.true))

pub returns : goal.returns
returns c = let all : c.loop-k.k ≡ 8 = omega arith in rw all at c.loop-k.invariant
