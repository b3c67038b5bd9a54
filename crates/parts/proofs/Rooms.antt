-- A text that is put into lent room, at its start or behind what stands there already: that it fits, and what the room holds then.
-- Assumes nothing.
use mathlib.Core.Path.{◌≡◌, ap, ◌∙◌}
use mathlib.Core.List.{List, ◌++◌, append_assoc, append-nil}
use Prim.Native.Nat.{ℕ, ◌+◌, ◌-◌, ◌≤◌}
use native.Mathlib.Omega.{arith}
use lib.ListN.{length, take, drop, length-append, length-drop, drop_of_length-le}
use lib.Seq.{length-take-le, take_all, take_at, drop_at}
use borrow.Rule.Slice.PartMut.{mid_of, put_mid}
use Rattle.text.specs.Writing.{Printed}
use Rattle.words.specs.Octets.{over}

-- a text that was put over a room and left its length fits into it
pub fits_room : (x m : List ℕ) → length (over x m) ≡ length m → length x ≤ length m
fits_room x m e = omega (arith, length-append x (drop (length x) m), length-drop (length x) m)

pub printed_in : {b x : List ℕ} {n : ℕ} {a : List ℕ} → Printed b x n a → length a ≡ length b → Printed b x n a × (n ≤ length b)
printed_in {b} {x} {n} {a} p k = (p, omega (arith, p.count, fits_room x b (rw p.room at k)))

-- what the room holds up to the place behind a text that was put there, and from that place on
module _ (room x m : List ℕ) (out : ℕ) (h : out ≤ length room) where
  pub up_to : take (out + length x) (take out room ++ over x m) ≡ take out room ++ x
  up_to =
      rw (← append_assoc (take out room) x (drop (length x) m))
      (take_at (take out room ++ x) (drop (length x) m) (out + length x) (rw (length-append, length-take-le out room h)))

  pub from : drop (out + length x) (take out room ++ over x m) ≡ drop (length x) m
  from =
      rw (← append_assoc (take out room) x (drop (length x) m))
      (drop_at (take out room ++ x) (drop (length x) m) (out + length x) (rw (length-append, length-take-le out room h)))

-- the room from a place on, as it is lent for one text, and the room with it back
module _ (room : List ℕ) (out : ℕ) where
  pub mid_all : mid_of out (length room - out) room ≡ drop out room
  mid_all = take_all (length room - out) (drop out room) (rw length-drop (omega arith))

  pub mid_length : length (mid_of out (length room - out) room) ≡ length room - out
  mid_length = ap length mid_all ∙ length-drop out room

  put_all : (ys : List ℕ) → put_mid out (length room - out) room ys ≡ take out room ++ ys
  put_all ys = rw (drop_of_length-le (drop out room) {i = length room - out} (rw length-drop (omega arith)), append-nil)

  module _ (x ys : List ℕ) (e : ys ≡ over x (mid_of out (length room - out) room)) where
    pub put_back : put_mid out (length room - out) room ys ≡ take out room ++ over x (drop out room)
    put_back = put_all ys ∙ ap (λ (l : List ℕ). take out room ++ l) (e ∙ ap (over x) mid_all)

    pub written_in : length ys ≡ length (mid_of out (length room - out) room) → length x ≤ length room - out
    written_in k = rw (mid_all, length-drop) at (fits_room x (mid_of out (length room - out) room) (rw e at k))
