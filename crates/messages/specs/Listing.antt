-- What is printed for a file of messages (docs/RULES.md, "A file of messages"), as octets: for each message a line with what it says, or why it is
-- refused and where it is wrong.
-- How line follows line, and the first and the last, is the same for every file that is made into text: `parts/specs/Whole`.
-- Assumes nothing.
use Rattle.std.specs.Prelude.{cond, List, ℕ, ◌+◌, eqb, ltb, length, take, drop}
use Rattle.formats.specs.Messages.{iam_heading, acm_heading}
use Rattle.reader.specs.Told.{Told}
use Rattle.reader.specs.Reading.{fields_of}
use Rattle.text.specs.Lines.{refused_line, plain_line, acm_line, iam_line}
use Rattle.records.specs.Records.{octet}
use Rattle.parts.specs.declared.Running.{Running}
use Rattle.parts.specs.Whole.{Ahead, Ahead.Takes, Ahead.Partial, Ahead.AtEnd, Making, Stateless, no_state, whole}

-- the line of an IAM, with as many address signals as it has
abbrev pub iam_line_of : ℕ → Told → List ℕ
iam_line_of ordinal f = iam_line ordinal f.circuit.0 f.heading f.category f.indicators (take f.count f.address)

-- the line of a message that was read, by its heading
unfoldable pub read_line : ℕ → Told → List ℕ
read_line ordinal f =
    cond (eqb f.heading iam_heading) (iam_line_of ordinal f)
    (cond (eqb f.heading acm_heading) (acm_line ordinal f.circuit.0 f.heading f.acm)
    (plain_line ordinal f.circuit.0 f.heading))

-- the line of what the reader answers
unfoldable pub message_line : ℕ → Told → List ℕ
message_line ordinal f = cond (eqb f.refusal 0) (read_line ordinal f) (refused_line ordinal f.refusal f.place)

-- the octets of the message at the start: so many as the first octet says, behind it
abbrev pub message_in : List ℕ → List ℕ
message_in s = take (octet s 0) (drop 1 s)

-- what the reader answers on it, in the group of the file
abbrev pub fields_at : Running → List ℕ → Told
fields_at r s = fields_of r.group.codes.own.0 r.group.codes.far.0 r.group.circuits (message_in s)

-- what stands ahead: a message that is there whole, behind its length, has its line, refused or not
unfoldable pub ahead_in : Running → List ℕ → Ahead Stateless
ahead_in r s =
    cond (eqb (length s) 0) AtEnd
    (cond (ltb (length s) (1 + octet s 0)) Partial
    (Takes (1 + octet s 0) (message_line r.next (fields_at r s)) no_state))

-- a line for each message; nothing goes along from one to the next
abbrev pub per_message : Making Stateless
per_message = record { fresh = λ circuits. no_state; ahead = λ r state s. ahead_in r s }

-- the whole text
abbrev pub listing : List ℕ → List ℕ
listing s = whole per_message s
