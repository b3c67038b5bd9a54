-- The octets of a message with the bits cleared that say nothing.
-- Assumes nothing.
use Rattle.std.specs.Prelude.{List, ℕ}
use Rattle.formats.specs.Format.{cleared_by}
use Rattle.formats.specs.Messages.{format_of}
use Rattle.reader.specs.Places.{heading_in}

-- spare bits and filler, as the format of the message's heading has them
abbrev pub cleared : List ℕ → List ℕ
cleared xs = cleared_by (format_of (heading_in xs)) xs
