-- What a replay prints (docs/RULES.md, "The trace and its replay"), as octets, from the octets of the whole trace: what each record does, and its line.
-- How line follows line, and the first and the last, is the same for every file that is made into text: `parts/specs/Whole`.
-- Assumes nothing.
use Rattle.std.specs.Prelude.{List, ℕ, min}
use Rattle.codes.specs.Numbers.{event_of}
use Rattle.codes.specs.Headings.{first_heading, second_heading}
use Rattle.answers.specs.Answers.{Answer}
use Rattle.layout.specs.Layout as grouped
use Rattle.group.specs.Table.{Step, step_in}
use Rattle.text.specs.declared.Line.{Line}
use Rattle.text.specs.Lines.{line}
use Rattle.records.specs.declared.Recorded.{Recorded}
use Rattle.records.specs.declared.Item.{Item}
use Rattle.records.specs.declared.Item.TheVariants.{Event, NoEvent, Short, End}
use Rattle.records.specs.Records.{octets_of, item}
use Rattle.parts.specs.declared.Running.{Running}
use Rattle.parts.specs.declared.Stage.{Stage}
use Rattle.parts.specs.declared.Stage.TheVariants.{Start, Bad, Runs, Cut}
use Rattle.parts.specs.Whole.{Ahead, Ahead.Takes, Ahead.NoRecord, Ahead.Partial, Ahead.AtEnd, Making, whole}

-- what an event does in the group, on the table as all events before it left it
unfoldable pub happens : Running → List ℕ → Recorded → Step
happens r table e = step_in r.group.codes.own.0 r.group.codes.far.0 table e.circuit (event_of e.kind e.code e.detail)

-- ordinal, circuit, refusal, state, flags, indication, headings sent
abbrev pub line_of : ℕ → ℕ → Answer → Line
line_of ordinal circuit a = record {
  ordinal = ordinal;
  circuit = circuit;
  refusal = a.refusal;
  held = record { state = a.state; flags = a.flags };
  ind = a.ind;
  first = first_heading a.sends;
  second = second_heading a.sends;
}

abbrev pub event_text : Running → List ℕ → Recorded → List ℕ
event_text r table e = line (line_of r.next e.circuit (happens r table e).answer)

-- what stands ahead, for each case of an `Item`: an event takes its record's octets, prints its line and leaves the table so
abbrev pub ahead_of : Item → Running → List ℕ → Ahead (List ℕ)
ahead_of (Event e) r table = Takes (octets_of e.kind) (event_text r table e) (happens r table e).table
ahead_of NoEvent r table = NoRecord
ahead_of Short r table = Partial
ahead_of End r table = AtEnd

-- all records idle
abbrev pub idle : ℕ → List ℕ
idle circuits = grouped.idle (grouped.table_octets circuits)

-- a replay starts with all records idle, and the table goes along from event to event
abbrev pub replaying : Making (List ℕ)
replaying = record { fresh = idle; ahead = λ r table s. ahead_of (item s) r table }

-- the whole text
abbrev pub replay : List ℕ → List ℕ
replay s = whole replaying s

-- the octets of the group's table, which is empty before the group is known
abbrev pub table_octets : Stage → ℕ
table_octets Start = 0
table_octets Bad = 0
table_octets (Runs r) = grouped.table_octets (min r.group.circuits 4096)
table_octets (Cut next) = 0
