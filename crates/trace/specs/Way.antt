-- The program's way through the events of a part. Contracts of private functions cite it, and no promise leans on it.
-- Assumes nothing.
use Rattle.std.specs.Prelude.{ℕ, ◌/◌, ◌%◌}
use Rattle.codes.specs.declared.Numbers.{Numbers}
use Rattle.records.specs.declared.Recorded.{Recorded}
use Rattle.text.specs.declared.Line.{Line}

-- an event's line, from the number that is answered
abbrev pub word_line : (ordinal circuit answer : ℕ) → Line
word_line ordinal circuit w = record {
  ordinal = ordinal;
  circuit = circuit;
  refusal = w % 256;
  held = record { state = w / 0x10000 % 256; flags = w / 0x1000000 % 256 };
  ind = w / 0x100 % 256;
  first = w / 0x100000000 % 256;
  second = w / 0x10000000000 % 256;
}

-- an event's numbers
abbrev pub numbers_of : Recorded → Numbers
numbers_of e = record { kind = e.kind; code = e.code; detail = e.detail }
