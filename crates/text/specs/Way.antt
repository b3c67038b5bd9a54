-- The program's way of writing a line piece by piece. Contracts of private functions cite it, and no promise leans on it.
-- Assumes nothing.
use Rattle.std.specs.Prelude.{◌≡◌, List, ℕ, ◌+◌, ◌≤◌, length}
use Rattle.std.specs.Borrow.{MutBor}
use Rattle.std.proofs.lemmas.List.Edits.{sets}
use Rattle.text.specs.declared.Pen.{Pen}
use Rattle.text.specs.Writing.{line_room}

-- a text of at most so many octets stands where the pen was, the pen is behind it in the same room, and every other octet is as before
pub record Wrote (before : Pen) (text : List ℕ) (most : ℕ) (after : Pen) : Type 0 where
  pub place : after.at ≡ before.at + length text
  pub within : length text ≤ most
  pub room : after.room.now ≡ sets before.room.now before.at text
  pub same : after.room.ghost_name ≡ before.room.ghost_name

-- what a step writes from the start of a room is that text, and no more than a line
abbrev pub Writes : (MutBor Pen → MutBor Pen → Type 0) → List ℕ → Type 0
Writes step text = (before after : MutBor Pen) → before.now.at ≡ 0 → step before after → Wrote before.now text line_room after.now
