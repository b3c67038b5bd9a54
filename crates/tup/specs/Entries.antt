-- The reader and the writer on plain numbers, as a host in C calls them: what they answer, and what a lent buffer holds then.
-- Assumes nothing.
use Rattle.std.specs.Prelude.{cond, List, [], ◌∷◌, ◌++◌, ℕ, zero, suc, ◌+◌, ◌*◌, min, ltb, length}
use Rattle.circuit.specs.declared.Codes.{Codes}
use Rattle.reader.specs.Told.{Told as Fields}
use Rattle.words.specs.Octets.{low_first, over}
use Rattle.reader.specs.Reading.{fields_of}
use Rattle.writer.specs.Writing.{Said, Written, writing}

-- the two codes of a group
abbrev pub codes_of : (own far : ℕ) → Codes
codes_of own far = record { own = record { 0 = own }; far = record { 0 = far } }

-- the fields of a message in 23 octets: circuit (two, lowest first), heading, ACM's octet, category, indicators (two, lowest first), count,
-- fifteen codes
abbrev pub fields_head : Fields → List ℕ
fields_head f = low_first 2 f.circuit.0 ++ (f.heading ∷ f.acm ∷ f.category ∷ low_first 2 f.indicators) ++ (f.count ∷ [])

abbrev pub fields_octets : Fields → List ℕ
fields_octets f = fields_head f ++ f.address

-- a number that is answered, and the buffer after it
pub record Told : Type 0 where
  pub answer : ℕ
  pub buffer : List ℕ

-- the refusal and 256 times the place, which is not given above 2^56 - 1: a longer message is told as one of that length
abbrev pub most_place : ℕ
most_place = 0xffffffffffffff

abbrev pub packed_refusal : (refusal place : ℕ) → ℕ
packed_refusal refusal place = refusal + 256 * min place most_place

-- the fields stand at the start of the buffer; a refusal leaves it as it was, and 11, a buffer under 23 octets, is the last of all, and no fault of
-- the message: its place is 0
abbrev pub telling : ℕ → Fields → List ℕ → Told
telling zero f buffer =
    cond (ltb (length buffer) 23) (record { answer = 11; buffer = buffer }) (record { answer = 0; buffer = over (fields_octets f) buffer })
telling (suc n) f buffer = record { answer = packed_refusal (suc n) f.place; buffer = buffer }

unfoldable pub read_into : ℕ → ℕ → ℕ → List ℕ → List ℕ → Told
read_into own far count xs buffer = telling (fields_of own far count xs).refusal (fields_of own far count xs) buffer

-- the refusal and 256 times the length
abbrev pub packed_written : Written → ℕ
packed_written w = w.refusal + 256 * w.length

abbrev pub write_from : ℕ → ℕ → ℕ → Said → List ℕ → Told
write_from own far count m buffer = record { answer = packed_written (writing own far count m buffer).answer; buffer = (writing own far count m buffer).buffer }
