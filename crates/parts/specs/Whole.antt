-- The text of a whole file (docs/RULES.md, "The trace and its replay"): the group's line, then the lines of the records one after another, and a
-- last line. What a record is, and what its line says, differs from one kind of file to another: it is said by a `Making`.
-- Assumes nothing.
use Rattle.std.specs.Prelude.{◌≡◌, Bool, true, false, cond, List, [], ◌++◌, ℕ, zero, suc, ◌+◌, ◌-◌, ◌≤◌, ◌<◌, length, drop}
use Rattle.text.specs.Lines.{group_line, end_line, cut_line, bad_group_line}
use Rattle.records.specs.Records.{octets_of, own_in, far_in, circuits_in, group_in, bad_start}
use Rattle.parts.specs.declared.Running.{Running}

-- what stands at the start of some octets behind the group: a record, with how many octets it takes, its line and the state that it leaves; an
-- octet that starts none; a record's start and then the end; nothing more
pub data Ahead (T : Type 0) : Type 0 where
  Takes : (taken : ℕ) (text : List ℕ) (state : T) → Ahead T
  NoRecord : Ahead T
  Partial : Ahead T
  AtEnd : Ahead T

-- a kind of file, with a state of type T that goes along from record to record: the state of a group of so many circuits before the first record,
-- and what stands ahead
pub record Making (T : Type 0) : Type 0 where
  pub fresh : ℕ → T
  pub ahead : Running → T → List ℕ → Ahead T

-- the state of a kind of file that needs none
abbrev pub Stateless : Type 0
Stateless = Unit {0}

abbrev pub no_state : Stateless
no_state = tt

-- the next record has the next ordinal
abbrev pub onward : Running → Running
onward r = record { group = r.group; next = r.next + 1 }

-- what is printed for what stands ahead, where `next` is the next record's ordinal: for a record its line and all that follows, as `more` gives it;
-- for an octet that starts none, and for a record cut short, "cut" and that ordinal; where nothing more stands, "end" and the number of records
unfoldable pub text_at : {T : Type 0} → Ahead T → (ℕ → T → List ℕ) → ℕ → List ℕ
text_at (Takes taken text state) more next = text ++ more taken state
text_at NoRecord more next = cut_line next
text_at Partial more next = cut_line next
text_at AtEnd more next = end_line (next - 1)

-- what is a whole record, or the start of none, is so whatever stands behind; what was cut short may be whole with more
abbrev pub settled : {T : Type 0} → Ahead T → Bool
settled (Takes taken text state) = true
settled NoRecord = true
settled Partial = false
settled AtEnd = false

-- the group of a file, before its first record
abbrev pub opened : List ℕ → Running
opened s = record { group = group_in s; next = 1 }

module _ {T : Type 0} (w : Making T) where
  -- the lines of the records in these octets, and the last line; k bounds the number of records
  unfoldable pub lines_within : ℕ → Running → T → List ℕ → List ℕ
  lines_within zero r state s = []
  lines_within (suc k) r state s = text_at (w.ahead r state s) (λ taken after. lines_within k (onward r) after (drop taken s)) r.next

  unfoldable pub lines : Running → T → List ℕ → List ℕ
  lines r state s = lines_within (suc (length s)) r state s

  -- the whole text
  unfoldable pub whole : List ℕ → List ℕ
  whole s =
      cond (bad_start s) bad_group_line
      (group_line (own_in s) (far_in s) (circuits_in s) ++ lines (opened s) (w.fresh (circuits_in s)) (drop (octets_of 0) s))

  -- what must hold so that a file can be read in parts: a record takes an octet at least, and no more than there are; what is settled stays as it is,
  -- whatever stands behind; and the end is where no octet is
  pub record Lawful : Type 0 where
    pub fits : (r : Running) (state : T) (s : List ℕ) (taken : ℕ) (text : List ℕ) (after : T) → w.ahead r state s ≡ Takes taken text after → (0 < taken) × (taken ≤ length s)
    pub stays : (r : Running) (state : T) (s rest : List ℕ) → settled (w.ahead r state s) ≡ true → w.ahead r state (s ++ rest) ≡ w.ahead r state s
    pub ends : (r : Running) (state : T) (s : List ℕ) → length s ≡ 0 → w.ahead r state s ≡ AtEnd
    pub ended : (r : Running) (state : T) (s : List ℕ) → w.ahead r state s ≡ AtEnd → length s ≡ 0
