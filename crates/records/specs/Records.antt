-- The records of a trace (docs/RULES.md, "The trace and its replay"): how long one is, what it says, and what stands at the start of some octets.
-- Assumes nothing.
use Rattle.std.specs.Prelude.{Bool, cond, not, ◌||◌, List, ℕ, ◌+◌, ◌*◌, eqb, ltb, length, get_or, drop}
use Rattle.circuit.specs.Groups.{bad_group}
use Rattle.records.specs.declared.Group.{Group}
use Rattle.records.specs.declared.Recorded.{Recorded}
use Rattle.records.specs.declared.Item.{Item}
use Rattle.records.specs.declared.Item.TheVariants.{Event, NoEvent, Short, End}

-- the octets of a record, its kind included, by its kind: 0 the group (own code, far code, count), 1 a signal (circuit, heading, detail),
-- 2 a command (circuit, command, detail), 3 a timer (circuit, timer)
unfoldable pub octets_of : ℕ → ℕ
octets_of kind = cond (eqb kind 0) 7 (cond (eqb kind 1) 5 (cond (eqb kind 2) 5 (cond (eqb kind 3) 4 0)))

-- behind the group its kind stands for no record, and a kind above 3 never does
abbrev pub no_event : ℕ → Bool
no_event kind = eqb kind 0 || ltb 3 kind

-- the octet at a place, and a number of two octets, lowest first
abbrev pub octet : List ℕ → ℕ → ℕ
octet s i = get_or s i 0

abbrev pub two : List ℕ → ℕ → ℕ
two s i = octet s i + 256 * octet s (i + 1)

-- a timer has no detail
abbrev pub detail_of : ℕ → ℕ → ℕ
detail_of kind detail = cond (eqb kind 3) 0 detail

-- what the event's record at the start says
unfoldable pub recorded : List ℕ → Recorded
recorded s = record { kind = octet s 0; circuit = two s 1; code = octet s 3; detail = detail_of (octet s 0) (octet s 4) }

-- what stands at the start of these octets, behind the group
unfoldable pub item : List ℕ → Item
item s =
    cond (eqb (length s) 0) End
    (cond (no_event (octet s 0)) NoEvent
    (cond (ltb (length s) (octets_of (octet s 0))) Short
    (Event (recorded s))))

-- how many octets are taken, for each case of an `Item`: those of an event's record, by its kind, and none of anything else
unfoldable pub taken_of : Item → ℕ
taken_of (Event e) = octets_of e.kind
taken_of NoEvent = 0
taken_of Short = 0
taken_of End = 0

-- the place behind what stands at a place of a trace
unfoldable pub behind : List ℕ → ℕ → ℕ
behind s at = at + taken_of (item (drop at s))

-- the group's record
abbrev pub own_in : List ℕ → ℕ
own_in s = two s 1

abbrev pub far_in : List ℕ → ℕ
far_in s = two s 3

abbrev pub circuits_in : List ℕ → ℕ
circuits_in s = two s 5

abbrev pub group_in : List ℕ → Group
group_in s = record { codes = record { own = record { 0 = own_in s }; far = record { 0 = far_in s } }; circuits = circuits_in s }

-- a group's record of another kind, or refused
abbrev pub refused_start : List ℕ → Bool
refused_start s = not (eqb (octet s 0) 0) || bad_group (own_in s) (far_in s) (circuits_in s)

-- a missing, short or refused group
abbrev pub bad_start : List ℕ → Bool
bad_start s = ltb (length s) (octets_of 0) || refused_start s
