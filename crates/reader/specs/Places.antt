-- What stands in a message's octets, by the formats of the label, the heading and the message.
-- Assumes nothing.
use Rattle.std.specs.Prelude.{List, ℕ}
use Rattle.formats.specs.Format.{Name, DPC, OPC, CIC, HEADING, INDICATORS, COUNT, get, Format, content_in}
use Rattle.formats.specs.Messages.{head, format_of}
use Rattle.words.specs.Octets.{number_of}

-- label and heading, which every message has
abbrev pub dpc_in : List ℕ → ℕ
dpc_in xs = get head (number_of xs) DPC

abbrev pub opc_in : List ℕ → ℕ
opc_in xs = get head (number_of xs) OPC

abbrev pub cic_in : List ℕ → ℕ
cic_in xs = get head (number_of xs) CIC

abbrev pub heading_in : List ℕ → ℕ
heading_in xs = get head (number_of xs) HEADING

-- a field and the address signals by a format, 0 and none where it does not have them
abbrev pub field_by : Format → Name → List ℕ → ℕ
field_by f n xs = (content_in f xs).says n

abbrev pub signals_by : Format → List ℕ → List ℕ
signals_by f xs = (content_in f xs).signals

-- by the format of the message's own heading
abbrev pub indicators_in : List ℕ → ℕ
indicators_in xs = field_by (format_of (heading_in xs)) INDICATORS xs

abbrev pub count_in : List ℕ → ℕ
count_in xs = field_by (format_of (heading_in xs)) COUNT xs

abbrev pub address_in : List ℕ → List ℕ
address_in xs = signals_by (format_of (heading_in xs)) xs
