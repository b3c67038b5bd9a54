-- A program's way through the records of a part. Contracts of private functions cite it, and no promise leans on it.
-- Assumes nothing.
use Rattle.std.specs.Prelude.{◌≡◌, cond, List, Option, Some, None, ℕ, eqb, length}
use Rattle.words.specs.Octets.{over}
use Rattle.parts.specs.declared.Running.{Running}
use Rattle.parts.specs.declared.Turn.{Turn}
use Rattle.parts.specs.declared.Fed.{Fed}
use Rattle.parts.specs.Whole.{Making}
use Rattle.parts.specs.Feed.{Share, run, answer_of, Within}

-- what is taken of the part and written into the room, if anything is taken
abbrev pub turn_of : {T : Type 0} → Share T → Option Turn
turn_of h = cond (eqb h.taken 0) None (Some (record { taken = h.taken; written = length h.text }))

-- a turn, and the state and the room after it, are a share's
pub record Lands {T : Type 0} (h : Share T) (room : List ℕ) (t : Option Turn) (state : T) (room' : List ℕ) : Type 0 where
  pub answers : t ≡ turn_of h
  pub leaves : state ≡ h.state
  pub writes : room' ≡ over h.text room

-- a whole run: its answer, the state that it leaves, and what the room holds
pub record Ran {T : Type 0} (w : Making T) (r : Running) (state : T) (part room : List ℕ) (a : Fed) (state' : T) (room' : List ℕ) : Type 0 where
  pub answers : a ≡ answer_of (run w r state part (length room))
  pub leaves : state' ≡ (run w r state part (length room)).state
  pub writes : room' ≡ over (run w r state part (length room)).text room
  pub within : Within a part room
