-- A message as the writer is told it and as the reader tells it.
-- Assumes nothing.
use Rattle.std.specs.Prelude.{cond, ℕ, ◌+◌, length, take}
use Rattle.reader.specs.Told.{Told as Fields, no_codes}
use Rattle.formats.specs.Messages.{is_iam, is_acm, half}
use Rattle.words.specs.Octets.{over}
use Rattle.writer.specs.Writing.{Said, said}

-- the fields that a reader is to find
abbrev pub fields_said : Said → Fields
fields_said m = record {
  refusal = 0;
  place = 0;
  circuit = record { 0 = m.cic };
  heading = m.heading;
  acm = m.acm;
  category = m.category;
  indicators = m.indicators;
  count = length m.address;
  address = over m.address no_codes;
}

-- what a writer is to say of the fields that were read
abbrev pub said_of : Fields → Said
said_of f = said f.circuit.0 f.heading f.acm f.category f.indicators (take f.count f.address)

-- how long the message is: 6 octets, an ACM 7, an IAM 9 and half its count of address signals rounded up
abbrev pub length_of : Said → ℕ
length_of m = cond (is_iam m.heading) (9 + half (length m.address)) (cond (is_acm m.heading) 7 6)
