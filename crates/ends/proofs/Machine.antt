-- Laws of the machine of two parties, whatever they hold and say: an invariant holds of every pair that is reached, and the two may change places.
-- Assumes nothing.
use mathlib.Core.Bool.{true}
use mathlib.Core.List.{List, [], ◌∷◌}
use mathlib.Core.Path.{◌≡◌, refl}
use Rattle.ends.specs.Machine.{Party, Acts, without, Happening, turn, Step, Step.first, Step.second, after, Reached, Reached.start, Reached.at_first, Reached.at_second}

module _ {H M E : Type 0} {Start : Party H M → Party H M → Type 0} {a b : Acts H M E} where
  -- what holds at the start and is kept by whatever happens at either party
  pub always : (P : Party H M → Party H M → Type 0)
      → ((x y : Party H M) → Start x y → P x y)
      → ((x y : Party H M) (h : Happening E) → P x y → P (turn a h x y).0 (turn a h x y).1)
      → ((x y : Party H M) (h : Happening E) → P x y → P (turn b h y x).1 (turn b h y x).0)
      → {x y : Party H M} → Reached Start a b x y → P x y
  always P begin one other (start {x = x} {y = y} s) = begin x y s
  always P begin one other (at_first {x = x} {y = y} r h) = one x y h (always P begin one other r)
  always P begin one other (at_second {x = x} {y = y} r h) = other x y h (always P begin one other r)

  -- the two change places
  pub mirror : {Turned : Party H M → Party H M → Type 0} → ((x y : Party H M) → Start x y → Turned y x)
      → {x y : Party H M} → Reached Start a b x y → Reached Turned b a y x
  mirror t (start {x = x} {y = y} s) = start (t x y s)
  mirror t (at_first r h) = at_second (mirror t r) h
  mirror t (at_second r h) = at_first (mirror t r) h

  -- whatever the steps of a run, they lead on to what is reached
  pub goes_on : (steps : List (Step E)) (x y : Party H M) → Reached Start a b x y → Reached Start a b (after a b (x, y) steps).0 (after a b (x, y) steps).1
  goes_on [] x y r = r
  goes_on (first h ∷ steps) x y r = goes_on steps (turn a h x y).0 (turn a h x y).1 (at_first r h)
  goes_on (second h ∷ steps) x y r = goes_on steps (turn b h y x).1 (turn b h y x).0 (at_second r h)

-- where every message is lost, none is left
pub all_lost : {M : Type 0} (q : List M) → without (λ (m : M). true) q ≡ []
all_lost [] = refl
all_lost (m ∷ q) = all_lost q
