-- The cases hold: each is computed.
-- Assumes nothing.
use mathlib.Core.Path.{◌≡◌, refl}
use mathlib.Core.List.{map}
use lib.ListN.{replicate}
use Rattle.formats.specs.Octets.{short}
use Rattle.reader.specs.Reading.{fields_of}
use Rattle.writer.specs.Writing.{too_large, bad_address, octets_of, writing}
use Rattle.inverse.specs.Cases.{Written, written_cases, Arrived, short_arrived, arrived_cases, Ordered, short_ordered, ordered_cases}

-- P10 and its like: the octets of each message are these.
pub written_hold : map (λ (c : Written). octets_of 2 1 c.says) written_cases ≡ map (λ (c : Written). c.octets) written_cases
unfolding written_cases octets_of
written_hold = refl

-- Each of the octets that arrive is refused by its number, at its place, or taken.
pub arrived_hold : map (λ (c : Arrived). (fields_of 1 2 c.records c.octets).refusal) arrived_cases ≡ map (λ (c : Arrived). c.refusal) arrived_cases
unfolding arrived_cases short_arrived fields_of short
arrived_hold = refl

pub places_hold : map (λ (c : Arrived). (fields_of 1 2 c.records c.octets).place) arrived_cases ≡ map (λ (c : Arrived). c.place) arrived_cases
unfolding arrived_cases short_arrived fields_of short
places_hold = refl

-- Each message is refused by its number or written.
pub ordered_hold : map (λ (c : Ordered). (writing 2 1 1 c.says (replicate c.room 0)).answer.refusal) ordered_cases ≡ map (λ (c : Ordered). c.refusal) ordered_cases
unfolding ordered_cases short_ordered writing octets_of too_large bad_address short
ordered_hold = refl
