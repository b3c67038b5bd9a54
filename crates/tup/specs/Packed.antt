-- A selection's answer as one number, 16 bits to a field: refusal, circuit, count of records looked at.
-- Assumes nothing.
use Rattle.std.specs.Prelude.{◌≡◌, ℕ, ◌+◌, ◌*◌, ◌/◌, ◌%◌}
use Rattle.select.specs.Selection.{Selected}

abbrev pub packed_choice : Selected → ℕ
packed_choice s = s.refusal + 0x10000 * (s.cic.0 + 0x10000 * s.looked)

pub record ChoiceUnpacked (r : ℕ) (s : Selected) : Type 0 where
  pub refusal : r % 0x10000 ≡ s.refusal
  pub cic : r / 0x10000 % 0x10000 ≡ s.cic.0
  pub looked : r / 0x100000000 ≡ s.looked
