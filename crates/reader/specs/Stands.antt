-- What it means that octets could stand in a message that the reader answers so: in one that is read, say.
-- Assumes nothing.
use Rattle.std.specs.Prelude.{◌≡◌, Bool, ◌&&◌, List, ℕ, ◌<◌, eqb, get_or, take}
use Rattle.formats.specs.Format.{INDICATORS, COUNT}
use Rattle.formats.specs.Messages.{iam_heading, format_of}
use Rattle.formats.specs.Octets.{short}
use Rattle.reader.specs.Places.{field_by, signals_by}
use Rattle.reader.specs.Reading.{fields_of}

-- some message begins with the first so many of these octets, and has this answer in a group of these codes with all 4096 circuits
pub record CouldStand (own far : ℕ) (xs : List ℕ) (so-many answer : ℕ) : Type 0 where
  pub message : List ℕ
  pub octets : (i : ℕ) → get_or message i 0 < 256
  pub begins : take so-many message ≡ take so-many xs
  pub is_answered : (fields_of own far 4096 message).refusal ≡ answer

-- the place is that of the third signal, the number has three and is short: with any other third signal it still is
abbrev pub short_anyway : (place : ℕ) → List ℕ → Bool
short_anyway place xs = eqb place 10 && (eqb (field_by (format_of iam_heading) COUNT xs) 3 && short (field_by (format_of iam_heading) INDICATORS xs) (signals_by (format_of iam_heading) xs))
