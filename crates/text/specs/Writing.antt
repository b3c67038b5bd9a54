-- What a public function of `text` leaves in the room that it is lent.
-- Assumes nothing.
use Rattle.std.specs.Prelude.{◌≡◌, cond, List, [], ℕ, ltb, length}
use Rattle.words.specs.Octets.{over}

-- a text at the room's start, and its length
pub record Printed (before text : List ℕ) (n : ℕ) (after : List ℕ) : Type 0 where
  pub count : n ≡ length text
  pub room : after ≡ over text before

-- a line is written where the room has the octets of the longest line of six numbers of 64 bits, else nothing is
abbrev pub line_room : ℕ
line_room = 132

abbrev pub in_room : List ℕ → List ℕ → List ℕ
in_room room text = cond (ltb (length room) line_room) [] text
