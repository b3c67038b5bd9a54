-- A file in parts: how far its text comes with a part of it and some room for text, and what is left.
-- Assumes nothing.
use Rattle.std.specs.Prelude.{◌≤◌, Bool, true, false, cond, ◌&&◌, List, [], ◌++◌, ℕ, zero, suc, ◌+◌, ◌-◌, eqb, leb, ltb, length, take, drop}
use Rattle.words.specs.Words.{largest}
use Rattle.text.specs.Lines.{group_line, end_line, cut_line, bad_group_line}
use Rattle.text.specs.Writing.{line_room}
use Rattle.records.specs.Records.{octets_of, own_in, far_in, circuits_in, refused_start}
use Rattle.parts.specs.declared.Running.{Running}
use Rattle.parts.specs.declared.Stage.{Stage}
use Rattle.parts.specs.declared.Stage.TheVariants.{Start, Bad, Runs, Cut}
use Rattle.parts.specs.declared.Fed.{Fed}
use Rattle.parts.specs.Whole.{Ahead, Takes, NoRecord, Partial, AtEnd, Making, onward, opened}

-- what is taken of the part, what is written, where the text stands then and the state that goes along
pub record Part (T : Type 0) : Type 0 where
  pub taken : ℕ
  pub text : List ℕ
  pub stage : Stage
  pub state : T

-- no more is taken than the part has, and no more written than the room
abbrev pub Within : Fed → List ℕ → List ℕ → Type 0
Within fed part room = (fed.taken ≤ length part) × (fed.written ≤ length room)

-- one record's share
pub record Share (T : Type 0) : Type 0 where
  pub taken : ℕ
  pub text : List ℕ
  pub state : T

-- a record is taken where the room has the octets of any line and a further ordinal fits 64 bits
abbrev pub may_go : Running → ℕ → Bool
may_go r room = leb line_room room && ltb r.next largest

-- after "bad group" and "cut" nothing more of the file is read
abbrev pub is_over : Stage → Bool
is_over Start = false
is_over Bad = true
is_over (Runs r) = false
is_over (Cut next) = true

-- the last line that is printed for each case of a `Stage`, where `rest` is what was not taken of the whole file: "bad group" where no good group
-- came; among the records "end" and their number if nothing is left, else "cut" and the next one's ordinal; "cut" and that ordinal where the file was cut
unfoldable pub last_line : Stage → List ℕ → List ℕ
last_line Start rest = bad_group_line
last_line Bad rest = bad_group_line
last_line (Runs r) rest = cond (eqb (length rest) 0) (end_line (r.next - 1)) (cut_line r.next)
last_line (Cut next) rest = cut_line next

-- the octets from one place of a buffer up to another
unfoldable pub kept : List ℕ → ℕ → ℕ → List ℕ
kept buffer at have = cond (ltb (length buffer) have) [] (take (have - at) (drop at buffer))

module _ {T : Type 0} where
  abbrev pub no_share : T → Share T
  no_share state = record { taken = 0; text = []; state = state }

  abbrev pub share_of : Ahead T → T → Share T
  share_of (Takes taken text after) state = record { taken = taken; text = text; state = after }
  share_of NoRecord state = no_share state
  share_of Partial state = no_share state
  share_of AtEnd state = no_share state

  -- the share of what stands ahead where the room has the octets of any line, else none
  abbrev pub share_in_room : Ahead T → T → ℕ → Share T
  share_in_room a state room = cond (leb line_room room) (share_of a state) (no_share state)

  -- what stands ahead is taken where it may go
  unfoldable pub share_at : Ahead T → Running → T → ℕ → Share T
  share_at a r state room = cond (may_go r room) (share_of a state) (no_share state)

  -- where a run stops, for each case of what stands ahead: cut before what is no record, else it waits for more
  abbrev pub stage_at : Ahead T → Running → Stage
  stage_at (Takes taken text after) r = Runs r
  stage_at NoRecord r = Cut r.next
  stage_at Partial r = Runs r
  stage_at AtEnd r = Runs r

  -- whether what stands ahead is no record
  abbrev pub starts_none : Ahead T → Bool
  starts_none (Takes taken text after) = false
  starts_none NoRecord = true
  starts_none Partial = false
  starts_none AtEnd = false

  abbrev pub stays : Stage → T → Part T
  stays stage state = record { taken = 0; text = []; stage = stage; state = state }

  abbrev pub behind : ℕ → List ℕ → Part T → Part T
  behind n text p = record { taken = n + p.taken; text = text ++ p.text; stage = p.stage; state = p.state }

  abbrev pub answer_of : Part T → Fed
  answer_of p = record { taken = p.taken; written = length p.text; stage = p.stage }

  -- the group: once its seven octets are there and the room has those of a line
  unfoldable pub begins : T → List ℕ → ℕ → Part T
  begins state s room =
      cond (ltb (length s) (octets_of 0)) (stays Start state)
      (cond (refused_start s) (stays Bad state)
      (cond (ltb room line_room) (stays Start state)
      (record { taken = octets_of 0; text = group_line (own_in s) (far_in s) (circuits_in s); stage = Runs (opened s); state = state })))

module _ {T : Type 0} (w : Making T) where
  -- the record at the start, where one stands there whole
  abbrev pub share : Running → T → List ℕ → ℕ → Share T
  share r state s room = share_at (w.ahead r state s) r state room

  unfoldable pub stops : Running → T → List ℕ → Part T
  stops r state s = stays (stage_at (w.ahead r state s) r) state

  -- record after record, until none can be taken; k bounds their number
  unfoldable pub run_within : ℕ → Running → T → List ℕ → ℕ → Part T
  run_within zero r state s room = stops r state s
  run_within (suc k) r state s room =
      cond (eqb (share r state s room).taken 0) (stops r state s)
      (behind (share r state s room).taken (share r state s room).text
      (run_within k (onward r) (share r state s room).state (drop (share r state s room).taken s) (room - length (share r state s room).text)))

  unfoldable pub run : Running → T → List ℕ → ℕ → Part T
  run r state s room = run_within (suc (length s)) r state s room

  -- after "bad group" and "cut" nothing is read
  unfoldable pub fed : Stage → T → List ℕ → ℕ → Part T
  fed Start state s room = begins state s room
  fed Bad state s room = stays Bad state
  fed (Runs r) state s room = run r state s room
  fed (Cut next) state s room = stays (Cut next) state
