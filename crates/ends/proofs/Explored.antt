-- The rooms that are reached from where a run may start, found by following every happening, and one test of them all.
-- Assumes nothing.
use mathlib.Core.Bool.{Bool, true, false, not, ◌&&◌, ◌||◌}
use mathlib.Core.List.{List, [], ◌∷◌, ◌++◌}
use Prim.Native.Nat.{ℕ, zero, suc, ◌<◌}
use lib.Dec.{T, leb}
use lib.ListN.{length}
use Rattle.circuit.specs.Rows.{first}
use Rattle.circuit.specs.Every.{each_below}
use Rattle.circuit.proofs.Every.{left, right, each_bool, at_bool, at_below}
use Rattle.step.specs.Step.{step, step_found}
use Rattle.ends.specs.Ends.{does}
use Rattle.ends.proofs.Moves.{Table, tabulate, columns, look}
use Rattle.ends.proofs.Words.{rsc, Half, Half.half, rest_of, view}
use Rattle.ends.proofs.Rooms.{sound, Need, Need.room, Need.impossible, Room, Rooms, place, in_role, follows, same_room, listed, closed_at, closed}

-- rooms to follow, rooms found
data Search : Type 0 where
  search_of : List Room → Rooms → Search

-- a room worth following: with any other the list will not be closed, or will grow on and on
abbrev short : Half → Bool
short (half s r b k) = leb (length (rest_of r)) 4

abbrev hopeful : Room → Bool
hopeful r = sound r && (short r.0 && short r.1)

-- a room comes to those of its place
abbrev enter : ℕ → Room → Rooms → Rooms
enter n r [] = []
enter zero r (l ∷ ls) = (r ∷ l) ∷ ls
enter (suc n) r (l ∷ ls) = l ∷ enter n r ls

-- k: the room is known; h: it is hopeful. The search ends at one that is neither.
abbrev add : (k h : Bool) → Room → List Room → Rooms → Search
add true h r todo found = search_of todo found
add false true r todo found = search_of (r ∷ todo) (enter (place r.0) r found)
add false false r todo found = search_of [] (enter (place r.0) r found)

-- the needs of the room r
abbrev add_all : Room → Bool → List Need → Search → Search
add_all r c [] q = q
add_all r c (impossible ∷ l) q = add_all r c l q
add_all r c (room me you ∷ l) (search_of todo found) =
    let q = in_role c me you in
    let known = listed found q in
    add_all r c l (add (same_room q r || known) (hopeful q) q todo found)

-- whatever happens in the room r
abbrev add_from : Table → Room → Search → Search
unfolding follows
add_from m r q = add_all r true (follows m true r.0 r.1) (add_all r false (follows m false r.1 r.0) q)

-- fuel: at most so many rooms are followed
explore : Table → ℕ → Search → Rooms
unfolding follows
explore m zero (search_of todo found) = found
explore m (suc n) (search_of [] found) = found
explore m (suc n) (search_of (r ∷ todo) found) = explore m n (add_from m r (search_of todo found))

-- Where a run may start: both ends are idle, and calm or not; or an end of role c has just restarted and everything was lost, and the other, calm or
-- not, is in some state t and an RSC is on its way to it.
abbrev idle_room : (k j : Bool) → Room
idle_room k j = (view true k 0 [], view false j 0 [])

abbrev after_cut : (c j : Bool) → ℕ → Room
after_cut c j t = in_role c (view c false 12 []) (view (not c) j t (rsc ∷ []))

abbrev starts : List Room
starts = idle_room true true ∷ tabulate 13 (after_cut true true) ++ (tabulate 13 (after_cut true false)
    ++ (tabulate 13 (after_cut false true) ++ tabulate 13 (after_cut false false)))

abbrev enter_all : List Room → Rooms → Rooms
enter_all [] found = found
enter_all (r ∷ l) found = enter_all l (enter (place r.0) r found)

pub rooms : Rooms
unfolding explore columns does step_found step first
rooms = explore (look (columns true) (columns false)) 400 (search_of starts (enter_all starts (tabulate 13 (λ n. []))))

-- a list of rooms has the starts

abbrev idles_listed : Rooms → Bool
idles_listed l = each_bool (λ k. each_bool (λ j. listed l (idle_room k j)))

abbrev cut_listed : Rooms → (c j : Bool) → ℕ → Bool
cut_listed l c j t = listed l (after_cut c j t)

abbrev cuts_listed : Rooms → Bool
cuts_listed l = each_bool (λ c. each_bool (λ j. each_below 13 (cut_listed l c j)))

abbrev pub have_starts : Rooms → Bool
have_starts l = idles_listed l && cuts_listed l

module _ (l : Rooms) (h : T (have_starts l)) where
  pub idle_listed : (k j : Bool) → T (listed l (idle_room k j))
  idle_listed k j = at_bool (λ j. listed l (idle_room k j)) (at_bool (λ k. each_bool (λ j. listed l (idle_room k j))) (left (idles_listed l) _ h) k) j

  pub cut_listed_lem : (c j : Bool) (t : ℕ) → t < 13 → T (cut_listed l c j t)
  cut_listed_lem c j t = at_below 13 (cut_listed l c j)
      (at_bool (λ j. each_below 13 (cut_listed l c j)) (at_bool (λ c. each_bool (λ j. each_below 13 (cut_listed l c j))) (right (idles_listed l) _ h) c) j) t

-- the rooms have them, and whatever happens in a room leads into one of them
pub tested : T (have_starts rooms && closed (look (columns true) (columns false)) rooms)
unfolding rooms closed_at columns does step_found step first
tested = tt
