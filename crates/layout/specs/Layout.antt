-- Where things lie in a lent table of octets: nothing else knows the layout.
-- First the counter of releases, a word of eight octets; then a record to each circuit, ten octets: the state, the flags, and the release rank,
-- a word. Record i is circuit i, and a table of zeros is an idle group.
-- Assumes nothing.
use Rattle.std.specs.Prelude.{Bool, cond, ◌&&◌, List, ℕ, ◌+◌, ◌*◌, ◌-◌, ◌/◌, ◌%◌, eqb, leb, length, get_or, set, replicate}
pub use Rattle.circuit.specs.declared.Held.{Held}
use Rattle.circuit.specs.declared.Record.{Record}
use Rattle.circuit.specs.Records.{rec, valid}
use Rattle.marks.specs.Flags.{flags, own, far, bla, uba}
use Rattle.layout.specs.declared.Stored.{Stored}
use Rattle.words.specs.Words.{word, put_word}

abbrev pub counter_octets : ℕ
counter_octets = 8

abbrev pub record_octets : ℕ
record_octets = 10

-- the octets of a table of so many circuits; a circuit's record begins where the table of those before it would end
abbrev pub table_octets : ℕ → ℕ
table_octets circuits = counter_octets + record_octets * circuits

-- how many records a table of so many octets holds; none if it is not a counter and whole records
unfoldable pub records_in : ℕ → ℕ
records_in octets = cond (eqb ((octets - counter_octets) % record_octets) 0) ((octets - counter_octets) / record_octets) 0

-- what a table says of its group: how many circuits it has
pub record Group : Type 0 where
  pub records : ℕ

abbrev pub group_in : List ℕ → Group
group_in table = record { records = records_in (length table) }

unfoldable pub counter_in : List ℕ → ℕ
counter_in table = word table 0

-- the octets of circuit i
unfoldable pub state_at : List ℕ → ℕ → ℕ
state_at table i = get_or table (table_octets i) 0

unfoldable pub flags_at : List ℕ → ℕ → ℕ
flags_at table i = get_or table (table_octets i + 1) 0

unfoldable pub rank_at : List ℕ → ℕ → ℕ
rank_at table i = word table (table_octets i + 2)

-- a record and its two octets: the state, and the flags 1 own block, 2 far block, 4 awaiting BLA, 8 awaiting UBA
unfoldable pub flags_of : Record → ℕ
flags_of r = flags r.own r.far r.bla r.uba

unfoldable pub record_of : (state flags : ℕ) → Record
record_of s f = rec s (own f) (far f) (bla f) (uba f)

abbrev pub record_at : List ℕ → ℕ → Record
record_at table i = record_of (state_at table i) (flags_at table i)

-- two octets are a legal record (docs/RULES.md, "Records"): refusal 12 is for the others
abbrev pub allowed : (state flags : ℕ) → Bool
allowed s f = leb f 15 && valid (record_of s f)

abbrev pub allowed_at : List ℕ → ℕ → Bool
allowed_at table i = allowed (state_at table i) (flags_at table i)

-- what is held of circuit i apart from its rank
abbrev pub holding : (state flags : ℕ) → Held
holding s f = record { state = s; flags = f }

abbrev pub held_at : List ℕ → ℕ → Held
held_at table i = holding (state_at table i) (flags_at table i)

-- all that stands at circuit i; zeros where the table has no such circuit
abbrev pub stored : (state flags rank : ℕ) → Stored
stored s f r = record { held = holding s f; rank = r }

abbrev pub stored_at : List ℕ → ℕ → Stored
stored_at table i = cond (leb (table_octets i + record_octets) (length table)) (stored (state_at table i) (flags_at table i) (rank_at table i)) (stored 0 0 0)

-- the table with a record put at circuit i, which keeps its rank
unfoldable pub put_octets : List ℕ → ℕ → (state flags : ℕ) → List ℕ
put_octets table i s f = set (set table (table_octets i) s) (table_octets i + 1) f

abbrev pub put : List ℕ → ℕ → Record → List ℕ
put table i r = put_octets table i r.state (flags_of r)

-- the table with its counter at n, and with the rank n at circuit i
unfoldable pub put_counter : List ℕ → (n : ℕ) → List ℕ
put_counter table n = put_word table 0 n

unfoldable pub put_rank : List ℕ → ℕ → (n : ℕ) → List ℕ
put_rank table i n = put_word table (table_octets i + 2) n

-- with both: the circuit takes the counter
abbrev pub ranked : List ℕ → ℕ → (n : ℕ) → List ℕ
ranked table i n = put_rank (put_counter table n) i n

-- the table of an idle group
abbrev pub idle : (octets : ℕ) → List ℕ
idle octets = replicate octets 0
