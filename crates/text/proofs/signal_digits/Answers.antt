-- What the check leaves of the proof that `text::signal_digits` meets its contract.
-- Assumes nothing.
use Rattle.std.proofs.Common.{length, take, ◌≡◌, List, ℕ, refl, ap}
use mathlib.Core.Path.{◌∙◌}
use native.Mathlib.Omega.{arith}
use lib.Seq.{sets, take-length}
use Rattle.text.specs.Lines.{signals}
use Rattle.text.proofs.Writing.{digit_more}
use Rattle.text.proofs.signal_digits.Goals as goal

pub loop-i-init : goal.loop-i-init
unfolding signals
loop-i-init c = refl

pub loop-i-preserved : goal.loop-i-preserved
loop-i-preserved c =
    rw (c.loop-i.invariant, c.hex_digit.ensures) (digit_more c.args.room.now c.args.address.now c.args.at c.loop-i.i c.loop-i-test.true)

pub returns : goal.returns
returns c =
    let x = c.args.address.now in
    let e : c.loop-i.i ≡ length x = omega (arith, c.loop-i.auto.i-end, c.loop-i-test.false) in
    c.loop-i.invariant ∙ ap (λ (k : ℕ). sets c.args.room.now c.args.at (signals (take k x))) e ∙ ap (λ (l : List ℕ). sets c.args.room.now c.args.at (signals l)) (take-length x)
