-- What a host in C gets from `tup_read` and `tup_write`: which refusals there are and in which order, and how the fields come back from the
-- 23 octets, and refusal and length from the number.
-- Assumes nothing.
use Rattle.std.specs.Prelude.{◌≡◌, List, [], ◌∷◌, ◌++◌, ℕ, ◌/◌, ◌%◌, ltb, length, get_or, take, drop}
use Rattle.circuit.specs.Refusals.{Rule}
use Rattle.words.specs.Octets.{number_of}
use Rattle.reader.specs.Told.{Told as Fields}
use Rattle.reader.specs.Faults.{Fault, fault, rules_of}
use Rattle.reader.specs.Reading.{read_faults}
use Rattle.writer.specs.Writing.{Written}

-- what the reader that fills a lent buffer looks for, in order: what the reader does, and then a buffer under 23 octets
abbrev pub into_faults : (own far count : ℕ) → List ℕ → (room : ℕ) → List Fault
into_faults own far count xs room = read_faults own far count xs ++ (fault 11 (ltb room 23) 0 ∷ [])

abbrev pub into_rules : (own far count : ℕ) → List ℕ → (room : ℕ) → List Rule
into_rules own far count xs room = rules_of (into_faults own far count xs room)

-- a buffer holds a message's fields: a number of two octets has the lower one first
pub record Holds (buffer : List ℕ) (f : Fields) : Type 0 where
  pub circuit : number_of (get_or buffer 0 0 ∷ get_or buffer 1 0 ∷ []) ≡ f.circuit.0
  pub heading : get_or buffer 2 0 ≡ f.heading
  pub acm : get_or buffer 3 0 ≡ f.acm
  pub category : get_or buffer 4 0 ≡ f.category
  pub indicators : number_of (get_or buffer 5 0 ∷ get_or buffer 6 0 ∷ []) ≡ f.indicators
  pub count : get_or buffer 7 0 ≡ f.count
  pub address : take 15 (drop 8 buffer) ≡ f.address

-- a number holds the writer's answer: the refusal is its lowest octet, the length the rest
pub record Packs (answer : ℕ) (w : Written) : Type 0 where
  pub refusal : answer % 256 ≡ w.refusal
  pub length : answer / 256 ≡ w.length

-- a buffer begins with a message's octets, and beyond them it is as it was before
pub record Begins (octets before after : List ℕ) : Type 0 where
  pub start : take (length octets) after ≡ octets
  pub beyond : drop (length octets) after ≡ drop (length octets) before
