-- The program's way of searching for a circuit: what it holds as it goes. The contracts of private functions cite it; no promise leans on it.
-- Assumes nothing.
use Rattle.std.specs.Prelude.{Bool, true, cond, ℕ, ◌<◌, T, eqb, ltb, ◌≡◌, List, Option, Some, None}
use Rattle.layout.specs.Layout.{rank_at, allowed, stored_at}
use Rattle.select.specs.declared.Leader.{Leader}
use Rattle.select.specs.First.{some, best}
use Rattle.select.specs.Selection.{Selected, refused, taken, ours, theirs, earlier, later, stops, looked, bad}

-- b is the best of the first n
pub record Best (among : ℕ → Bool) (goes : ℕ → ℕ → Bool) (n b : ℕ) : Type 0 where
  pub below : b < n
  pub is : T (among b)
  pub goes_first : (j : ℕ) → j < n → T (among j) → T (goes b j)

-- a record as the program reads it is legal
abbrev pub allowed_there : List ℕ → ℕ → Bool
allowed_there table i = allowed (stored_at table i).held.state (stored_at table i).held.flags

-- the best of theirs in a table of n records, where the number n stands for none
abbrev pub found : Leader → (n : ℕ) → Option Leader
found theirs n = cond (eqb theirs.cic.0 n) None (Some theirs)

-- a rank is above that of the best of theirs, or is the first of theirs
abbrev pub released_later : Option Leader → (rank : ℕ) → Bool
released_later None rank = true
released_later (Some best) rank = ltb best.rank rank

-- where it has looked at n records and found none of ours
abbrev pub concluded : Option Leader → (n : ℕ) → Selected
concluded None n = refused 14
concluded (Some best) n = taken best.cic.0 n

-- where no record is bad: the best of ours, else the best of theirs, else 14
unfoldable pub sought : (mine : ℕ → Bool) → List ℕ → (n : ℕ) → Selected
sought mine table n =
    cond (some n (ours mine table)) (taken (best n (ours mine table) (earlier table)) (looked mine table n))
    (cond (some n (theirs mine table)) (taken (best n (theirs mine table) (later table)) n)
    (refused 14))

-- the whole search in n records
abbrev pub searched : (mine : ℕ → Bool) → List ℕ → (n : ℕ) → Selected
searched mine table n = cond (some n (bad table)) (refused 12) (sought mine table n)

-- once one of ours is found, after i records: o with rank p is the best of ours, and none stops the search
pub record Led (mine : ℕ → Bool) (table : List ℕ) (i o p : ℕ) : Type 0 where
  pub best : Best (ours mine table) (earlier table) i o
  pub rank : p ≡ rank_at table o
  pub on : (j : ℕ) → j < i → T (stops mine table j) → ⊥
