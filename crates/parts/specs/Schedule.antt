-- What it means that a file is read and fed in parts of any sizes, into rooms of any sizes: the schedule of a host, where its text stands
-- after it, and the text that is still to come there.
-- Assumes nothing.
use Rattle.std.specs.Prelude.{Bool, true, List, [], ◌∷◌, ◌++◌, ℕ, ltb, take, drop}
use Rattle.words.specs.Words.{largest}
use Rattle.text.specs.Lines.{cut_line, bad_group_line}
use Rattle.parts.specs.declared.Stage.{Stage}
use Rattle.parts.specs.declared.Stage.TheVariants.{Start, Bad, Runs, Cut}
use Rattle.parts.specs.Whole.{Making, lines, whole}
use Rattle.parts.specs.Feed.{Part, fed}

-- octets are read, or what was read and not taken is fed with some room
pub data Move : Type 0 where
  Reads : ℕ → Move
  Feeds : ℕ → Move

pub record Standing (T : Type 0) : Type 0 where
  pub stage : Stage
  pub state : T
  pub read : List ℕ
  pub unread : List ℕ
  pub printed : List ℕ

abbrev pub before : {T : Type 0} → T → List ℕ → Standing T
before state file = record { stage = Start; state = state; read = []; unread = file; printed = [] }

-- there is a further ordinal
abbrev pub has_next : Stage → Bool
has_next Start = true
has_next Bad = true
has_next (Runs r) = ltb r.next largest
has_next (Cut next) = true

abbrev circuits_of : Stage → ℕ
circuits_of Start = 0
circuits_of Bad = 0
circuits_of (Runs r) = r.group.circuits
circuits_of (Cut next) = 0

module _ {T : Type 0} (w : Making T) where
  -- the text that is still to come where a text stands, from what is left of the file
  unfoldable pub text_from : Stage → T → List ℕ → List ℕ
  text_from Start state s = whole w s
  text_from Bad state s = bad_group_line
  text_from (Runs r) state s = lines w r state s
  text_from (Cut next) state s = cut_line next

  -- the state that goes along with a part: that of the group once it is known, and then as the records leave it
  unfoldable pub state_after : Stage → Part T → T
  state_after Start p = w.fresh (circuits_of p.stage)
  state_after Bad p = p.state
  state_after (Runs r) p = p.state
  state_after (Cut next) p = p.state

  abbrev pub feeds : Standing T → Part T → Standing T
  feeds z p = record { stage = p.stage; state = state_after z.stage p; read = drop p.taken z.read; unread = z.unread; printed = z.printed ++ p.text }

  unfoldable pub moved : Standing T → Move → Standing T
  moved z (Reads n) = record { stage = z.stage; state = z.state; read = z.read ++ take n z.unread; unread = drop n z.unread; printed = z.printed }
  moved z (Feeds room) = feeds z (fed w z.stage z.state z.read room)

  unfoldable pub after : Standing T → List Move → Standing T
  after z [] = z
  after z (m ∷ ms) = after (moved z m) ms

  -- what is printed and what is still to come
  unfoldable pub text_in_all : Standing T → List ℕ
  text_in_all z = z.printed ++ text_from z.stage z.state (z.read ++ z.unread)
