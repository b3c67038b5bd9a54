-- What the check leaves of the proof that `marks::FlagsFromU8::from` meets its contract: a flag's bit, in each octet.
-- Assumes nothing.
use Rattle.std.proofs.Common.{◌≡◌, not, ℕ, ◌<◌, ◌/◌, ◌%◌}
use Rattle.std.proofs.Math.Dec.{T, eqb}
use Rattle.std.proofs.Math.Nat.{div-one}
use Rattle.std.specs.Int.Bits.{bit_and}
use Rattle.circuit.specs.Every.{each_below}
use Rattle.circuit.proofs.Every.{at_below, alike, alike_same}
use Rattle.marks.proofs.FlagsFromU8.from.Goals as goal

bit : (worth : ℕ) → T (each_below 256 (λ f. alike (not (eqb (bit_and f worth) 0)) (eqb (f / worth % 2) 1)))
    → (f : ℕ) → f < 256 → not (eqb (bit_and f worth) 0) ≡ eqb (f / worth % 2) 1
bit worth t f fits = alike_same _ _ (at_below 256 (λ f. alike (not (eqb (bit_and f worth) 0)) (eqb (f / worth % 2) 1)) t f fits)

pub returns : goal.returns
returns c =
    let h = c.ranges.octet.fits in
    cc (bit 1 tt _ h, bit 2 tt _ h, bit 4 tt _ h, bit 8 tt _ h, div-one c.args.octet)
