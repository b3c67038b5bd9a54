-- The loop of `formats::first_bad`: whether some signal is refused is what the rest says, and so is how many stand before the first that is.
-- Assumes nothing.
use Rattle.std.proofs.Common.{◌≡◌, ◌+◌, drop}
use Rattle.formats.specs.Octets.{bad_codes, first_bad}
use Rattle.formats.proofs.first_bad.Given as goal

abbrev pub invariant-loop-i : goal.invariant-loop-i
invariant-loop-i l = (bad_codes l.address ≡ bad_codes (drop l.i l.address)) × (first_bad l.address ≡ l.i + first_bad (drop l.i l.address))
