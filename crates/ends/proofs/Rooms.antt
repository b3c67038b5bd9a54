-- A room is a pair of halves, the controlling end's first. What must be a room as well when something happens in one, and what a list of rooms
-- must meet so that the ends never leave it.
-- Assumes nothing.
use mathlib.Core.Bool.{Bool, true, false, cond, not, ◌&&◌, ◌||◌}
use mathlib.Core.List.{List, [], ◌∷◌, ◌++◌}
use Prim.Native.Nat.{ℕ}
use lib.Dec.{eqb}
use lib.ListN.{get_or}
use Rattle.ends.specs.Ends.{same_stage, awaits_reset, unheard}
use Rattle.ends.specs.Calm.{Leave.at_once, Leave.once_calm}
use Rattle.ends.proofs.Words.{words, fail, blo, mute, quiet, next, Run, Run.ran, run, rest_of, Calm, Calm.stirred, Calm.calm, Half, Half.half, view, same_half, join_all, end_of, reach, outgoing, all_in, member, has, family, absorbs}
use Rattle.ends.proofs.Events.{said}
use Rattle.ends.proofs.Moves.{Move, Move.to, Table, cause_of}

abbrev pub Room : Type 0
Room = Half × Half

-- a room that must be listed, by the end where something happens and the other; or what must not come up
pub data Need : Type 0 where
  room : Half → Half → Need
  impossible : Need

abbrev pub over : {A : Type 0} → (A → List Need) → List A → List Need
over f [] = []
over f (x ∷ l) = f x ++ over f l

-- sending ends the calm
abbrev pub stirs : List ℕ → Calm → Calm
stirs [] k = k
stirs (x ∷ o) k = stirred

-- the other end's half is y: the end of role c comes to state n with the run q and the calm k, and sends o; in state 1 a BLO may be on its way to it
-- or not
abbrev pub comes : (c : Bool) → (y : Half) → ℕ → Run → Calm → List ℕ → List Need
comes c y n q k o = room (half n q false k) (join_all (not c) y o) ∷ cond (eqb n 1) (room (half n q true k) (join_all (not c) y o) ∷ []) []

-- an end of role c makes a move: its state s, its run r, and whether a BLO is on its way to it, b; k: its calm before it sends anything
module _ (c : Bool) (y : Half) (s : ℕ) (r : Run) (b : Bool) where
  abbrev pub stays : Calm → List ℕ → List Need
  stays k o = room (half s r b k) (join_all (not c) y o) ∷ []

  -- its queue is as it was, but for a mute word; sure: that was no BLO
  abbrev pub goes : Bool → Calm → Move → List Need
  goes sure k (to n o) = cond (eqb n s && (sure || not (eqb n 1))) (stays (stirs o k) o)
      (cond (has s (family s) && absorbs c n (family s)) (comes c y n (run c n (rest_of r)) (stirs o k) o) (impossible ∷ []))

  -- it takes the quiet word x; where its call goes on, the run ends in a state that can still be reached
  abbrev pub glides : ℕ → Move → List Need
  glides x (to n o) = cond (eqb n (next s x)) (cond (eqb n s) (stays stirred o)
      (cond (has n outgoing) (cond (has (end_of r) (reach n)) (comes c y n r stirred o) []) (impossible ∷ []))) (impossible ∷ [])

  -- being calm, it says its signal again, or it restarts and its run is z, the one from 12
  abbrev pub calmly : (z : Run) → Move → List Need
  calmly z (to n o) = cond (eqb n s) (stays (stirs o (calm z)) o)
      (cond (eqb n 12) (room (half 12 z false (stirs o (calm z))) (join_all (not c) y o) ∷ []) (impossible ∷ []))

-- it takes the word x from the head of its run's rest; behind a failure another may stand, which was not kept
abbrev pub takes_rest : (c : Bool) → (y : Half) → ℕ → Run → ℕ → Move → List Need
takes_rest c y s (ran p []) x mv = []
takes_rest c y s (ran p (z ∷ u)) x (to n o) =
    cond (eqb s p && eqb x z) (comes c y n (run c n u) stirred o ++ cond (eqb x fail) (comes c y n (run c n (z ∷ u)) stirred o) []) []

abbrev pub takes : (c : Bool) → (y : Half) → ℕ → Run → Bool → ℕ → Move → List Need
takes c y s r b x mv =
    cond (mute x) (goes c y s r b (not (eqb x blo)) stirred mv) (cond (quiet c s x) (glides c y s r b x mv) (takes_rest c y s r x mv))

-- nothing is on its way to an end, calm or not as it is
abbrev pub emptied : Half → Half
emptied (half t q d stirred) = half t (ran t []) false stirred
emptied (half t q d (calm z)) = half t (ran t []) false (calm (ran 12 []))

-- nothing may be on its way to it
abbrev pub nothing_comes : Half → Bool
nothing_comes (half s (ran p []) b k) = eqb s p && not b
nothing_comes (half s (ran p (x ∷ u)) b k) = false

abbrev is_stirred : Half → Bool
is_stirred (half s r b stirred) = true
is_stirred (half s r b (calm z)) = false

-- What happens at an end with state s, run r, and b. A restart by which everything is lost is not among it: it leads to where a run may start.
module _ (m : Table) (c : Bool) (y : Half) (s : ℕ) (r : Run) (b : Bool) where
  -- what arrives was sent by the other end, so that one is not calm
  abbrev pub by_words : List Need
  by_words = cond (is_stirred y) (over (λ x. over (takes c y s r b x) (m c s x)) words) []

  abbrev pub by_host : Calm → List Need
  by_host k = over (goes c y s r b true k) (m c s (cause_of at_once))

  abbrev pub by_calm : Calm → List Need
  by_calm stirred = []
  by_calm (calm z) = over (calmly c y s r b z) (m c s (cause_of once_calm))

  -- it notes that nothing is on its way
  abbrev pub by_lull : Calm → List Need
  by_lull k = cond (nothing_comes (half s r b k) && nothing_comes y) (room (view c true s []) (emptied y) ∷ []) []

unfoldable pub follows : Table → Bool → Half → Half → List Need
follows m c (half s r b k) y =
    by_words m c y s r b ++ (by_host m c y s r b k ++ (by_calm m c y s r b k ++ by_lull m c y s r b k))

-- what a room must fulfil by itself

-- with nothing on its way and neither end in 12, the same stage
abbrev pub agrees : Half → Half → Bool
agrees (half s r b k) (half t q d j) = not (nothing_comes (half s r b k) && nothing_comes (half t q d j))
    || (awaits_reset s || awaits_reset t || (same_stage s t || same_stage t s))

-- what arrives next is no signal that is never heard
abbrev pub hears : Half → Bool
hears (half s (ran p []) b k) = true
hears (half s (ran p (x ∷ u)) b k) = not (eqb s p && unheard s (said x))

abbrev pub sound : Room → Bool
sound r = agrees r.0 r.1 && (hears r.0 && hears r.1)

-- a list of rooms, by the controlling end's state, so that a room is soon found in it

abbrev pub Rooms : Type 0
Rooms = List (List Room)

abbrev pub same_room : Room → Room → Bool
same_room r q = same_half r.0 q.0 && same_half r.1 q.1

abbrev pub place : Half → ℕ
place (half s r b k) = s

abbrev pub listed : Rooms → Room → Bool
listed l r = member same_room r (get_or l (place r.0) [])

abbrev pub in_role : Bool → Half → Half → Room
in_role true me you = (me, you)
in_role false me you = (you, me)

abbrev pub meets : Rooms → Bool → Need → Bool
meets l c (room me you) = listed l (in_role c me you)
meets l c impossible = false

-- most happenings leave the ends in the room r where they are: that one is looked at first
abbrev pub meets_from : Rooms → Room → Bool → Need → Bool
meets_from l r c (room me you) =
    let q = in_role c me you in
    let found = listed l q in
    same_room q r || found
meets_from l r c impossible = false

unfoldable pub closed_at : Table → Rooms → Room → Bool
unfolding follows
closed_at m l r = sound r && (all_in (meets_from l r true) (follows m true r.0 r.1) && all_in (meets_from l r false) (follows m false r.1 r.0))

abbrev pub closed : Table → Rooms → Bool
closed m l = all_in (all_in (closed_at m l)) l
