-- The formats of the messages (Q.723; docs/RULES.md, "Messages on the link"): the label, the heading, and what stands behind the heading. A message
-- with fields of its own is a format and a line of the list below.
-- Assumes nothing.
use Rattle.circuit.specs.declared.Signal.{Signal}
use Rattle.std.specs.Prelude.{Bool, true, false, cond, List, [], ◌∷◌, ◌++◌, ℕ, ◌+◌, ◌/◌, eqb, Option, Some, None}
use Rattle.codes.specs.Headings.{signal_of}
use Rattle.formats.specs.Format.{Field, field, spare, Behind, nothing, address_signals, Format, octets_for, DPC, OPC, CIC, HEADING, ACM, CATEGORY, INDICATORS, COUNT}

-- THE FORMATS

-- DPC + 2^14 · OPC + 2^28 · CIC
abbrev pub label : List Field
label =
    field DPC 14
    ∷ field OPC 14
    ∷ field CIC 12
    ∷ []

-- every message begins with the label and the heading
abbrev pub head : List Field
head = label ++ (field HEADING 8 ∷ [])

-- ACM: one octet more, of which the top two bits are spare
abbrev pub acm_format : Format
acm_format = record {
  fields =
      field ACM 6
      ∷ spare 2
      ∷ [];
  behind = nothing;
}

-- IAM: category, of which the top two bits are spare; 12 indicator bits, of which the bit worth 2048 is spare, and above them the count; the
-- address signals
abbrev pub iam_format : Format
iam_format = record {
  fields =
      field CATEGORY 6
      ∷ spare 2
      ∷ field INDICATORS 11
      ∷ spare 1
      ∷ field COUNT 4
      ∷ [];
  behind = address_signals;
}

-- the headings of messages with fields of their own, and what stands behind the heading
abbrev pub iam_heading : ℕ
iam_heading = 0x11

abbrev pub acm_heading : ℕ
acm_heading = 0x14

pub record Own : Type 0 where
  pub heading : ℕ
  pub format : Format

abbrev pub own_formats : List Own
own_formats =
    record { heading = iam_heading; format = iam_format }
    ∷ record { heading = acm_heading; format = acm_format }
    ∷ []

-- any other message ends with its heading
abbrev pub no_fields : Format
no_fields = record { fields = []; behind = nothing }

abbrev pub among_own : ℕ → List Own → Format
among_own h [] = no_fields
among_own h (o ∷ os) = cond (eqb h o.heading) o.format (among_own h os)

-- THE WHOLE MESSAGE

abbrev pub headed : Format → Format
headed f = record { fields = head ++ f.fields; behind = f.behind }

abbrev pub format_of : (heading : ℕ) → Format
format_of h = headed (among_own h own_formats)

-- whether address signals lie behind its fields
abbrev pub signals_behind : Behind → Bool
signals_behind nothing = false
signals_behind address_signals = true

abbrev pub has_signals : (heading : ℕ) → Bool
has_signals h = signals_behind (format_of h).behind

-- the octets before the address signals: 6; an ACM has 7, an IAM 9
abbrev pub fixed_length : (heading : ℕ) → ℕ
fixed_length h = octets_for (format_of h) 0

-- HEADINGS

abbrev pub is_known : Option Signal → Bool
is_known (Some s) = true
is_known None = false

-- a heading that is listed (docs/RULES.md, "Events and answers")
abbrev pub listed : ℕ → Bool
listed h = is_known (signal_of h 0)

abbrev pub is_iam : ℕ → Bool
is_iam h = eqb h iam_heading

abbrev pub is_acm : ℕ → Bool
is_acm h = eqb h acm_heading

-- the octets of so many address signals: half the count rounded up
abbrev pub half : ℕ → ℕ
half count = (count + 1) / 2
