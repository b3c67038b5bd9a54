-- The search for a circuit, as the program makes it: what it holds on the way, and that it comes to the definition's answer.
-- Assumes nothing.
use mathlib.Core.Path.{◌≡◌, refl, sym, ◌∙◌, subst}
use mathlib.Core.Bool.{Bool, true, false, not, cond, ◌&&◌}
use mathlib.Core.List.{List}
use Prim.Native.Nat.{ℕ, zero, suc, ◌+◌, ◌-◌, ◌%◌, ◌<◌, ◌≤◌}
use Rattle.std.specs.Prelude.{Option, Some, None}
use native.Mathlib.Omega.{arith}
use lib.Dec.{T, eqb, ltb, eqb→eq, ltb→lt, lt→ltb, not_T}
use borrow.Author.Tests.{ltb-true, ltb-false, eqb-true, eqb-false, eq-eqb, ne_eqb}
use lib.ListN.{length}
use Rattle.circuit.specs.Groups.{bad_group, by_parity, controls}
use Rattle.circuit.proofs.Every.{left, right, both}
use Rattle.layout.specs.declared.Stored.{Stored}
use Rattle.layout.specs.Layout.{records_in, state_at, flags_at, rank_at, allowed, allowed_at, stored, stored_at}
use Rattle.layout.proofs.Laws.{stored_in}
use Rattle.select.specs.First.{first, some, best}
use Rattle.std.specs.List.{list_all, range_with_len}
use Rattle.select.specs.declared.Leader.{Leader}
use Rattle.select.specs.Way.{Best, allowed_there, released_later, concluded, sought, searched, Led}
use Rattle.select.proofs.First.{first_holds, first_at, some_at, none_of, none_at, the_best, starts, takes, stays, with_last}
use Rattle.select.proofs.Orders.{before, Ahead.by_rank, ahead_is, order, lower_first, first_unused}
use Rattle.select.specs.Selection.{refused, taken, free, qualifies, ours, theirs, earlier, later, stops, looked, choice, bad, choosing, select_in}

-- no bad record from one up to another
pub record GoodFrom (table : List ℕ) (from i : ℕ) : Type 0 where
  pub begun : from ≤ i
  pub good : (j : ℕ) → from ≤ j → j < i → T (bad table j) → ⊥

pub good_start : (table : List ℕ) (from : ℕ) → GoodFrom table from from
good_start table from = record { begun = omega arith; good = λ j p q t. omega arith }

-- the group is refused, or searched
module _ (own far : ℕ) (table : List ℕ) where
  abbrev n : ℕ
  n = records_in (length table)

  abbrev mine : ℕ → Bool
  mine = controls own far

  pub no_group : bad_group own far (records_in (length table)) ≡ true → refused 1 ≡ select_in own far table
  unfolding select_in
  no_group bad = rw bad

  -- one of ours or of theirs that qualifies is one that qualifies
  some_qualify : (among : ℕ → Bool) → ((j : ℕ) → T (among j) → T (qualifies table j)) → some n among ≡ true → some n (qualifies table) ≡ true
  some_qualify among is e = let l : first n among < n = ltb-true _ _ e in some_at n (qualifies table) (first n among) l (is (first n among) (first_holds n among l))

  none_qualify : some n (ours mine table) ≡ false → some n (theirs mine table) ≡ false → some n (qualifies table) ≡ false
  none_qualify o t = none_of n (qualifies table) (λ j h q.
      none_at n (theirs mine table) t j h (both (qualifies table j) _ q (not_T (mine j) (λ c. none_at n (ours mine table) o j h (both (qualifies table j) _ q c)))))

  -- 14 is given exactly where the search finds neither
  chosen : choosing (cond (not (some n (qualifies table))) 14 0) (choice mine table n) ≡ sought mine table n
  unfolding choice sought
  chosen = go (some n (ours mine table)) refl (some n (theirs mine table)) refl
    where
      go : (x : Bool) → some n (ours mine table) ≡ x → (y : Bool) → some n (theirs mine table) ≡ y
          → choosing (cond (not (some n (qualifies table))) 14 0) (cond x (taken (best n (ours mine table) (earlier table)) (looked mine table n)) (taken (best n (theirs mine table) (later table)) n))
          ≡ cond x (taken (best n (ours mine table) (earlier table)) (looked mine table n)) (cond y (taken (best n (theirs mine table) (later table)) n) (refused 14))
      go true e y f = rw (some_qualify (ours mine table) (λ j t. left (qualifies table j) _ t) e)
      go false e true f = rw (some_qualify (theirs mine table) (λ j t. left (qualifies table j) _ t) f)
      go false e false f = rw (none_qualify e f)

  pub in_group : bad_group own far (records_in (length table)) ≡ false → searched (controls own far) table (records_in (length table)) ≡ select_in own far table
  unfolding select_in
  in_group good = rw good (go (some n (bad table)))
    where
      go : (b : Bool) → cond b (refused 12) (sought mine table n) ≡ choosing (cond b 12 (cond (not (some n (qualifies table))) 14 0)) (choice mine table n)
      go true = refl
      go false = sym chosen

-- what the program reads of a record
module _ (table : List ℕ) (i n : ℕ) {s : Stored} (all : n ≤ records_in (length table)) (h : i < n) (e : s ≡ stored_at table i) where
  read : s ≡ stored (state_at table i) (flags_at table i) (rank_at table i)
  read = e ∙ stored_in table i (omega arith)

  pub judged : {b : Bool} → b ≡ allowed s.held.state s.held.flags → allowed_at table i ≡ b
  judged d = sym (rw read at d)

  pub free_at : {b : Bool} → b ≡ free s.held.state s.held.flags → free (state_at table i) (flags_at table i) ≡ b
  free_at d = sym (rw read at d)

  pub rank_is : s.rank ≡ rank_at table i
  rank_is = rw read

-- records from one on that are all legal as the program reads them, or not all
and_true : (a b : Bool) → (a && b) ≡ true → (a ≡ true) × (b ≡ true)
and_true true b e = (refl, e)
and_true false b e = absurd (subst T (sym e) tt)

module _ (table : List ℕ) {m : ℕ} (all : m ≤ records_in (length table)) where
  there : (i : ℕ) → i < m → allowed_there table i ≡ allowed_at table i
  there i h = rw (stored_in table i (omega arith)) refl

  pub all_legal : (from k : ℕ) → from + k ≤ m → list_all (allowed_there table) (range_with_len from k) ≡ true → (j : ℕ) → from ≤ j → j < from + k → T (bad table j) → ⊥
  all_legal from zero room e j p q t = omega arith
  all_legal from (suc k) room e j p q t = go (eqb j from) refl (λ l. all_legal (from + 1) k (omega arith) both_are.1 j l (omega arith) t)
    where
      both_are : (allowed_there table from ≡ true) × (list_all (allowed_there table) (range_with_len (from + 1) k) ≡ true)
      both_are = and_true (allowed_there table from) _ e

      go : (b : Bool) → eqb j from ≡ b → (from + 1 ≤ j → ⊥) → ⊥
      go true d behind = let here : T (not (allowed_at table from)) = subst (λ (i : ℕ). T (bad table i)) (eqb-true j from d) t in rw (sym (there from (omega arith)) ∙ both_are.0) at here
      go false d behind = let other : j ≡ from → ⊥ = eqb-false j from d in behind (omega arith)

  pub one_not : (from k : ℕ) → from + k ≤ m → list_all (allowed_there table) (range_with_len from k) ≡ false → (j : ℕ) × (j < m) × (allowed_at table j ≡ false)
  one_not from zero room e = absurd (subst T e tt)
  one_not from (suc k) room e = go (allowed_there table from) refl e (one_not (from + 1) k (omega arith))
    where
      go : (b : Bool) → allowed_there table from ≡ b → (b && list_all (allowed_there table) (range_with_len (from + 1) k)) ≡ false
          → (list_all (allowed_there table) (range_with_len (from + 1) k) ≡ false → (j : ℕ) × (j < m) × (allowed_at table j ≡ false))
          → (j : ℕ) × (j < m) × (allowed_at table j ≡ false)
      go true d e behind = behind e
      go false d e behind = (from, omega arith, sym (there from (omega arith)) ∙ d)

-- while none of ours is found, after i records: the best of theirs, if there is one
abbrev pub Held : (table : List ℕ) (among : ℕ → Bool) (i : ℕ) → Option Leader → Type 0
Held table among i None = (j : ℕ) → j < i → T (among j) → ⊥
Held table among i (Some l) = Best among (later table) i l.cic.0 × (l.rank ≡ rank_at table l.cic.0)

module _ (table : List ℕ) (among : ℕ → Bool) (i : ℕ) where
  -- a record that is not among them
  held_past : (l : Option Leader) → Held table among i l → (T (among i) → ⊥) → Held table among (suc i) l
  held_past None h past = with_last i (λ j. T (among j) → ⊥) h past
  held_past (Some l) h past = (stays (order false table) h.0 (λ t. absurd (past t)), h.1)

  -- one that is
  module _ (t : T (among i)) (rank : ℕ) (is : rank ≡ rank_at table i) where
    held_new : (l : Option Leader) → Held table among i l → released_later l rank ≡ true → Held table among (suc i) (Some (record { cic = record { 0 = i }; rank = rank }))
    held_new None h e = (starts (order false table) h t, is)
    held_new (Some l) h e =
        (takes (order false table) h.0 t (ahead_is (before false) (rank_at table i) (rank_at table l.cic.0) i l.cic.0 (by_rank (rw (← is, ← h.1, e) tt))), is)

    held_stays : (l : Option Leader) → Held table among i l → released_later l rank ≡ false → Held table among (suc i) l
    held_stays None h e = absurd (subst T e tt)
    held_stays (Some l) h e = (stays (order false table) h.0 (λ s. lower_first false table l.cic.0 i h.0.below (λ t. rw (← is, ← h.1, e) at t)), h.1)

module _ (mine : ℕ → Bool) (table : List ℕ) {i o p : ℕ} (l : Led mine table i o p) where
  past : (T (ours mine table i) → ⊥) → Led mine table (suc i) o p
  past none =
      record {
        best = stays (order true table) l.best (λ t. absurd (none t));
        rank = l.rank;
        on = with_last i (λ j. T (stops mine table j) → ⊥) l.on (λ t. none (left (ours mine table i) _ t));
      }

  -- one of theirs
  pub led_theirs : mine i ≡ false → Led mine table (suc i) o p
  led_theirs e = past (λ t. subst T e (right (free (state_at table i) (flags_at table i)) (mine i) t))

  -- one of ours that does not qualify
  pub led_busy : free (state_at table i) (flags_at table i) ≡ false → Led mine table (suc i) o p
  led_busy e = past (λ t. subst T e (left (free (state_at table i) (flags_at table i)) (mine i) t))

  -- one that does
  module _ (is : free (state_at table i) (flags_at table i) ≡ true) (e : mine i ≡ true) (rank : ℕ) (r : rank ≡ rank_at table i) (used : rank ≡ 0 → ⊥) where
    among : T (ours mine table i)
    among = rw (is, e) tt

    goes_on : (j : ℕ) → j < suc i → T (stops mine table j) → ⊥
    goes_on = with_last i (λ j. T (stops mine table j) → ⊥) l.on (λ t. used (r ∙ eqb→eq _ _ (right (ours mine table i) _ t)))

    pub led_new : rank < p → Led mine table (suc i) i rank
    led_new h =
        record {
          best = takes (order true table) l.best among (ahead_is ltb (rank_at table i) (rank_at table o) i o (by_rank (lt→ltb (rank_at table i) (rank_at table o) (rw (← r, ← l.rank) h))));
          rank = r;
          on = goes_on;
        }

    pub led_stays : p ≤ rank → Led mine table (suc i) o p
    led_stays h =
        record {
          best = stays (order true table) l.best (λ t. lower_first true table o i l.best.below (λ s. omega (arith, h, r, l.rank, ltb→lt (rank_at table i) (rank_at table o) s)));
          rank = l.rank;
          on = goes_on;
        }

-- every second circuit is ours
pub every_second : (first : ℕ) (table : List ℕ) {i o p : ℕ} → i % 2 ≡ first → Led (by_parity first) table (suc i) o p → Led (by_parity first) table (i + 2) o p
every_second first table {i} e l =
    let two : i + 2 ≡ suc (suc i) = omega arith in
    rw two (led_theirs (by_parity first) table l (ne_eqb (suc i % 2) first (λ d. omega (arith, e, d))))

pub same_parity : (i first : ℕ) → i % 2 ≡ first → (i + 2) % 2 ≡ first
same_parity i first e = omega (arith, e)

-- what the search of ours holds at circuit i of n, one of ours: the best of ours before it, o with rank p
pub record Ours (first : ℕ) (table : List ℕ) (n i o p : ℕ) : Type 0 where
  pub parity : i % 2 ≡ first
  pub within : o < n
  pub led : Led (by_parity first) table i o p

module _ (first : ℕ) (table : List ℕ) {n i o p : ℕ} (w : Ours first table n i o p) where
  -- a circuit that does not qualify
  pub ours_busy : free (state_at table i) (flags_at table i) ≡ false → Ours first table n (i + 2) o p
  ours_busy e = record { parity = same_parity i first w.parity; within = w.within; led = every_second first table w.parity (led_busy (by_parity first) table w.led e) }

  -- one that does
  module _ (h : i < n) (is : free (state_at table i) (flags_at table i) ≡ true) (rank : ℕ) (r : rank ≡ rank_at table i) (used : rank ≡ 0 → ⊥) where
    pub ours_new : rank < p → Ours first table n (i + 2) i rank
    ours_new l =
        record { parity = same_parity i first w.parity; within = h; led = every_second first table w.parity (led_new (by_parity first) table w.led is (eq-eqb _ _ w.parity) rank r used l) }

    pub ours_stay : p ≤ rank → Ours first table n (i + 2) o p
    ours_stay l =
        record { parity = same_parity i first w.parity; within = w.within; led = every_second first table w.parity (led_stays (by_parity first) table w.led is (eq-eqb _ _ w.parity) rank r used l) }

-- what the search holds then: none of ours qualifies, the best of theirs, and no bad record yet
pub record Scanned (mine : ℕ → Bool) (table : List ℕ) (i : ℕ) (l : Option Leader) : Type 0 where
  pub none : (j : ℕ) → j < i → T (ours mine table j) → ⊥
  pub theirs : Held table (theirs mine table) i l
  pub good : (j : ℕ) → j < i → T (bad table j) → ⊥

next : (n : ℕ) → n + 1 ≡ suc n
next n = omega arith

module _ (mine : ℕ → Bool) (table : List ℕ) where
  pub scan_start : Scanned mine table 0 None
  scan_start = record { none = λ j h t. omega arith; theirs = λ j h t. omega arith; good = λ j h t. omega arith }

  pub no_stop : {i : ℕ} {l : Option Leader} → Scanned mine table i l → (j : ℕ) → j < i → T (stops mine table j) → ⊥
  no_stop s j h t = s.none j h (left (ours mine table j) _ t)

  module _ {i : ℕ} {l : Option Leader} (s : Scanned mine table i l) (ok : allowed_at table i ≡ true) where
    good : (j : ℕ) → j < suc i → T (bad table j) → ⊥
    good = with_last i (λ j. T (bad table j) → ⊥) s.good (λ x. rw ok at x)

    none : (T (ours mine table i) → ⊥) → (j : ℕ) → j < suc i → T (ours mine table j) → ⊥
    none past = with_last i (λ j. T (ours mine table j) → ⊥) s.none past

    -- one that does not qualify
    pub scan_busy : free (state_at table i) (flags_at table i) ≡ false → Scanned mine table (i + 1) l
    scan_busy e = rw (next i) (record { none = none (λ x. rw e at x); theirs = held_past table (theirs mine table) i l s.theirs (λ x. rw e at x); good = good })

    module _ (is : free (state_at table i) (flags_at table i) ≡ true) (rank : ℕ) (r : rank ≡ rank_at table i) where
      -- one of theirs
      module _ (e : mine i ≡ false) where
        pub scan_theirs : released_later l rank ≡ true → Scanned mine table (i + 1) (Some (record { cic = record { 0 = i }; rank = rank }))
        scan_theirs b = rw (next i) (record { none = none (λ x. rw (is, e) at x); theirs = held_new table (theirs mine table) i (rw (is, e) tt) rank r l s.theirs b; good = good })

        pub scan_theirs_stay : released_later l rank ≡ false → Scanned mine table (i + 1) l
        scan_theirs_stay b = rw (next i) (record { none = none (λ x. rw (is, e) at x); theirs = held_stays table (theirs mine table) i (rw (is, e) tt) rank r l s.theirs b; good = good })

      -- the first of ours
      pub scan_first : mine i ≡ true → (rank ≡ 0 → ⊥) → Led mine table (suc i) i rank
      scan_first e used =
          record {
            best = starts (order true table) s.none (rw (is, e) tt);
            rank = r;
            on = with_last i (λ j. T (stops mine table j) → ⊥) (no_stop s) (λ x. used (r ∙ eqb→eq _ _ (right (ours mine table i) _ x)));
          }

  -- what is sought, from the best of ours or of theirs
  choice_ours : (n b k : ℕ) → Best (ours mine table) (earlier table) n b → looked mine table n ≡ k → sought mine table n ≡ taken b k
  unfolding sought
  choice_ours n b k w e = rw (some_at n (ours mine table) b w.below w.is, the_best (order true table) w, e)

  choice_theirs : (n b : ℕ) → ((j : ℕ) → j < n → T (ours mine table j) → ⊥) → Best (theirs mine table) (later table) n b → sought mine table n ≡ taken b n
  unfolding sought
  choice_theirs n b none w = rw (none_of n (ours mine table) none, some_at n (theirs mine table) b w.below w.is, the_best (order false table) w)

  choice_none : (n : ℕ) → ((j : ℕ) → j < n → T (ours mine table j) → ⊥) → ((j : ℕ) → j < n → T (theirs mine table j) → ⊥) → sought mine table n ≡ refused 14
  unfolding sought
  choice_none n none neither = rw (none_of n (ours mine table) none, none_of n (theirs mine table) neither)

  -- a bad record
  pub scan_bad : (i n : ℕ) → i < n → allowed_at table i ≡ false → refused 12 ≡ searched mine table n
  scan_bad i n h e = rw (some_at n (bad table) i h (rw e tt))

  -- the whole table, where none of ours was found
  pub scan_end : {n : ℕ} (l : Option Leader) → Scanned mine table n l → concluded l n ≡ searched mine table n
  scan_end {n} None s = rw (none_of n (bad table) s.good) (sym (choice_none n s.none s.theirs))
  scan_end {n} (Some l) s = rw (none_of n (bad table) s.good) (sym (choice_theirs n l.cic.0 s.none s.theirs.0))

  -- where no record is bad
  pub all_good : (n : ℕ) → some n (bad table) ≡ false → sought mine table n ≡ searched mine table n
  all_good n e = rw e

  -- one of ours is found: the records behind it are judged
  module _ {n i : ℕ} {l : Option Leader} (s : Scanned mine table i l) (all : n ≤ records_in (length table)) (h : i < n) (ok : allowed_at table i ≡ true) where
    pub none_behind : list_all (allowed_there table) (range_with_len (i + 1) (n - (i + 1))) ≡ true → some n (bad table) ≡ false
    none_behind e = none_of n (bad table) (λ j p t. go j p t (ltb j (i + 1)) refl)
      where
        go : (j : ℕ) → j < n → T (bad table j) → (b : Bool) → ltb j (i + 1) ≡ b → ⊥
        go j p t true d = let l : j < i + 1 = ltb-true _ _ d in good s ok j (omega arith) t
        go j p t false d = let l : i + 1 ≤ j = ltb-false _ _ d in all_legal table all (i + 1) (n - (i + 1)) (omega arith) e j l (omega arith) t

    pub bad_behind : list_all (allowed_there table) (range_with_len (i + 1) (n - (i + 1))) ≡ false → refused 12 ≡ searched mine table n
    bad_behind e = let j = one_not table all (i + 1) (n - (i + 1)) (omega arith) e in scan_bad j.0 n j.1 j.2

  -- one of ours with rank 0, where none before it stops the search
  module _ {i : ℕ} (on : (j : ℕ) → j < i → T (stops mine table j) → ⊥) (n : ℕ) (h : i < n) (is : free (state_at table i) (flags_at table i) ≡ true) (c : mine i ≡ true) (unused : rank_at table i ≡ 0) where
    here : T (stops mine table i)
    here = rw (is, c, unused) tt

    pub stop_here : taken i (i + 1) ≡ sought mine table n
    stop_here =
        sym (choice_ours n i (i + 1) (first_unused mine table n i h here on) (rw (some_at n (stops mine table) i h here, first_at n (stops mine table) i h here on)))

  -- the whole table, where one of ours was found
  pub led_end : {i o p : ℕ} → Led mine table i o p → (n : ℕ) → n ≤ i → o < n → taken o n ≡ sought mine table n
  led_end {i} {o} {p} l n past below =
      sym (choice_ours n o n (record { below = below; is = l.best.is; goes_first = λ j h t. l.best.goes_first j (omega arith) t }) (rw (none_of n (stops mine table) (λ j h. l.on j (omega arith)))))

-- the whole table, where every second circuit was ours
pub ours_end : (first : ℕ) (table : List ℕ) {n i o p : ℕ} → Ours first table n i o p → n ≤ i → taken o n ≡ sought (by_parity first) table n
ours_end first table {n} w past = led_end (by_parity first) table w.led n past w.within
