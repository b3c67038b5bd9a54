-- What holds of every choice, in the words of docs/RULES.md ("Choice of a circuit") and of Q.724, 2.4, method 2.
-- Assumes nothing.
use Rattle.std.specs.Prelude.{Some}
use mathlib.Core.Path.{◌≡◌, refl, ◌∙◌, subst}
use mathlib.Core.Bool.{Bool, true, false, not, cond}
use mathlib.Core.List.{List}
use Prim.Native.Nat.{ℕ, zero, suc, ◌+◌, ◌<◌, ◌≤◌}
use native.Mathlib.Omega.{arith}
use lib.Dec.{T, eqb, ltb→lt, T_not, not_T}
use lib.ListN.{length}
use borrow.Author.Tests.{ltb-true, lt-leb}
use Rattle.circuit.specs.declared.Command.TheVariants.{Seize}
use Rattle.circuit.specs.declared.Event.TheVariants.{Ordered}
use Rattle.circuit.specs.Refusals.{first_rule}
use Rattle.circuit.specs.Groups.{bad_group, controls}
use Rattle.circuit.proofs.Groups.{one_controls, at_most4096}
use Rattle.circuit.proofs.Every.{left, right, both, is_true}
use Rattle.layout.specs.Layout.{records_in, state_at, rank_at, record_of, record_at, allowed_at}
use Rattle.group.specs.Table.{step_in}
use Rattle.group.specs.Refusals.{refusal_in}
use Rattle.group.proofs.Laws as Group
use Rattle.select.specs.First.{first, some, best}
use Rattle.select.specs.Way.{Best}
use Rattle.select.proofs.First.{first_holds, first_not, none_of, none_at, the_best, is_the_best}
use Rattle.select.specs.Selection.{Selected, refused, taken, qualifies, ours, theirs, earlier, later, stops, looked, choice, bad, select_rules, choosing, select_in}
use Rattle.select.specs.Way.{sought}
use Rattle.select.proofs.Searching.{no_group, in_group}
use Rattle.select.proofs.Orders.{before, Ahead, Ahead.by_rank, Ahead.by_number, view, order, first_unused}

-- i was released before j, or with the same rank and i is not above j
pub record Earlier (table : List ℕ) (i j : ℕ) : Type 0 where
  pub rank : rank_at table i ≤ rank_at table j
  pub number : rank_at table i ≡ rank_at table j → i ≤ j

pub record Later (table : List ℕ) (i j : ℕ) : Type 0 where
  pub rank : rank_at table j ≤ rank_at table i
  pub number : rank_at table i ≡ rank_at table j → i ≤ j

allowed_is : (b : Bool) → (T (not b) → ⊥) → b ≡ true
allowed_is true n = refl
allowed_is false n = absurd (n tt)

is_off : (b : Bool) → T (not b) → b ≡ false
is_off true t = absurd t
is_off false t = refl

is_earlier : (table : List ℕ) (i j : ℕ) → T (earlier table i j) → Earlier table i j
is_earlier table i j t = go (view (before true) (rank_at table i) (rank_at table j) i j t)
  where
    go : Ahead (before true) (rank_at table i) (rank_at table j) i j → Earlier table i j
    go (by_rank l) = let h : rank_at table i < rank_at table j = ltb→lt _ _ l in record { rank = omega arith; number = λ e. omega arith }
    go (by_number e h) = record { rank = omega arith; number = λ q. h }

is_later : (table : List ℕ) (i j : ℕ) → T (later table i j) → Later table i j
is_later table i j t = go (view (before false) (rank_at table i) (rank_at table j) i j t)
  where
    go : Ahead (before false) (rank_at table i) (rank_at table j) i j → Later table i j
    go (by_rank l) = let h : rank_at table j < rank_at table i = ltb→lt _ _ l in record { rank = omega arith; number = λ e. omega arith }
    go (by_number e h) = record { rank = omega arith; number = λ q. h }

module _ (own far : ℕ) (table : List ℕ) where
  abbrev n : ℕ
  n = records_in (length table)

  abbrev mine : ℕ → Bool
  mine = controls own far

  -- whatever holds of each refusal and of the choice of one of ours or of theirs holds of a selection
  pub by_cases : (P : Selected → Type 0)
      → (bad_group own far n ≡ true → P (refused 1))
      → (bad_group own far n ≡ false → some n (bad table) ≡ true → P (refused 12))
      → (bad_group own far n ≡ false → some n (bad table) ≡ false → some n (ours mine table) ≡ true → P (taken (best n (ours mine table) (earlier table)) (looked mine table n)))
      → (bad_group own far n ≡ false → some n (bad table) ≡ false → some n (ours mine table) ≡ false → some n (theirs mine table) ≡ true → P (taken (best n (theirs mine table) (later table)) n))
      → (bad_group own far n ≡ false → some n (bad table) ≡ false → some n (ours mine table) ≡ false → some n (theirs mine table) ≡ false → P (refused 14))
      → P (select_in own far table)
  unfolding sought
  by_cases P p₁ p₁₂ of_ours of_theirs p₁₄ = go₁ (bad_group own far n) refl
    where
      go₁₄ : bad_group own far n ≡ false → some n (bad table) ≡ false → some n (ours mine table) ≡ false → (b : Bool) → some n (theirs mine table) ≡ b → P (cond b (taken (best n (theirs mine table) (later table)) n) (refused 14))
      go₁₄ g a o true e = of_theirs g a o e
      go₁₄ g a o false e = p₁₄ g a o e

      goₒ : bad_group own far n ≡ false → some n (bad table) ≡ false → (b : Bool) → some n (ours mine table) ≡ b → P (cond b (taken (best n (ours mine table) (earlier table)) (looked mine table n)) (cond (some n (theirs mine table)) (taken (best n (theirs mine table) (later table)) n) (refused 14)))
      goₒ g a true e = of_ours g a e
      goₒ g a false e = go₁₄ g a e (some n (theirs mine table)) refl

      go₁₂ : bad_group own far n ≡ false → (b : Bool) → some n (bad table) ≡ b → P (cond b (refused 12) (sought mine table n))
      go₁₂ g true e = p₁₂ g e
      go₁₂ g false e = goₒ g e (some n (ours mine table)) refl

      go₁ : (b : Bool) → bad_group own far n ≡ b → P (select_in own far table)
      go₁ true e = subst P (no_group own far table e) (p₁ e)
      go₁ false e = subst P (in_group own far table e) (go₁₂ e (some n (bad table)) refl)

  abbrev s : Selected
  s = select_in own far table

  best₁ : some n (ours mine table) ≡ true → Best (ours mine table) (earlier table) n (best n (ours mine table) (earlier table))
  best₁ e = is_the_best (order true table) n e

  best₂ : some n (theirs mine table) ≡ true → Best (theirs mine table) (later table) n (best n (theirs mine table) (later table))
  best₂ e = is_the_best (order false table) n e

  -- a refusal reports circuit 0 and count 0
  abbrev pub ReportsNone : Selected → Type 0
  ReportsNone s = (s.refusal ≡ 0 → ⊥) → (s.cic.0 ≡ 0) × (s.looked ≡ 0)

  pub reports_none : ReportsNone s
  reports_none =
      by_cases ReportsNone
      (λ g r. (refl, refl)) (λ g a r. (refl, refl)) (λ g a o r. absurd (r refl)) (λ g a o t r. absurd (r refl)) (λ g a o t r. (refl, refl))

  -- the chosen circuit qualifies
  abbrev pub Qualifies : Selected → Type 0
  Qualifies s = s.refusal ≡ 0 → (s.cic.0 < n) × T (qualifies table s.cic.0)

  pub chosen_qualifies : Qualifies s
  chosen_qualifies =
      by_cases Qualifies
      (λ g r. absurd (omega arith)) (λ g a r. absurd (omega arith))
      (λ g a o r. ((best₁ o).below, left (qualifies table (best n (ours mine table) (earlier table))) _ (best₁ o).is))
      (λ g a o t r. ((best₂ t).below, left (qualifies table (best n (theirs mine table) (later table))) _ (best₂ t).is))
      (λ g a o t r. absurd (omega arith))

  -- where one of ours qualifies, one of ours is chosen, and none that qualifies was released before it
  abbrev pub OfOurs : Selected → Type 0
  OfOurs s = s.refusal ≡ 0 → (j : ℕ) → j < n → T (ours mine table j) → T (controls own far s.cic.0) × Earlier table s.cic.0 j

  pub of_ours : OfOurs s
  of_ours =
      by_cases OfOurs
      (λ g r. absurd (omega arith)) (λ g a r. absurd (omega arith))
      (λ g a o r j h t. (right (qualifies table (best n (ours mine table) (earlier table))) _ (best₁ o).is, is_earlier table _ j ((best₁ o).goes_first j h t)))
      (λ g a o u r j h t. absurd (none_at n (ours mine table) o j h t))
      (λ g a o u r. absurd (omega arith))

  -- one of theirs is chosen only if none of ours qualifies, and none that qualifies was released after it
  abbrev pub OfTheirs : Selected → Type 0
  OfTheirs s = s.refusal ≡ 0 → (T (controls own far s.cic.0) → ⊥) → (j : ℕ) → j < n → T (qualifies table j) → (T (controls own far j) → ⊥) × Later table s.cic.0 j

  pub of_theirs : OfTheirs s
  of_theirs =
      by_cases OfTheirs
      (λ g r. absurd (omega arith)) (λ g a r. absurd (omega arith))
      (λ g a o r other. absurd (other (right (qualifies table (best n (ours mine table) (earlier table))) _ (best₁ o).is)))
      (λ g a o u r other j h t.
      let not : T (controls own far j) → ⊥ = λ c. none_at n (ours mine table) o j h (both (qualifies table j) _ t c) in
      (not, is_later table _ j ((best₂ u).goes_first j h (both (qualifies table j) _ t (not_T (controls own far j) not)))))
      (λ g a o u r. absurd (omega arith))

  -- each refusal is given exactly when docs/RULES.md says: 1; then 12 for any bad record; then 14 if no circuit qualifies
  pub refusals : s.refusal ≡ first_rule (select_rules own far table)
  unfolding select_in choice
  refusals = numbered (first_rule (select_rules own far table))
    where
      accepted : (b : Bool) → (cond b (taken (best n (ours mine table) (earlier table)) (looked mine table n)) (taken (best n (theirs mine table) (later table)) n)).refusal ≡ 0
      accepted true = refl
      accepted false = refl

      numbered : (k : ℕ) → (choosing k (choice mine table n)).refusal ≡ k
      numbered zero = accepted (some n (ours mine table))
      numbered (suc k) = refl

  -- the count: the whole table, unless one of ours that qualifies has rank 0: then the first of these is chosen, and the count is its number plus one
  abbrev pub Counts : Selected → Type 0
  Counts s = s.refusal ≡ 0 → s.looked ≡ cond (some n (stops mine table)) (s.cic.0 + 1) n

  pub counts : Counts s
  counts =
      by_cases Counts
      (λ g r. absurd (omega arith)) (λ g a r. absurd (omega arith)) (λ g a o r. go (some n (stops mine table)) refl)
      (λ g a o t r. rw (none_of n (stops mine table) (λ j h q. none_at n (ours mine table) o j h (left (ours mine table j) _ q))))
      (λ g a o t r. absurd (omega arith))
    where
      k : ℕ
      k = first n (stops mine table)

      chosen : some n (stops mine table) ≡ true → best n (ours mine table) (earlier table) ≡ k
      chosen e = the_best (order true table) (first_unused mine table n k (ltb-true k n e) (first_holds n (stops mine table) (ltb-true k n e)) (λ j h t. first_not n (stops mine table) j h t))

      go : (b : Bool) → some n (stops mine table) ≡ b → cond b (k + 1) n ≡ cond b (best n (ours mine table) (earlier table) + 1) n
      go true e = rw (chosen e)
      go false e = refl

  -- the numbers are small
  abbrev pub Small : Selected → Type 0
  Small s = (s.cic.0 < 4096) × (s.looked ≤ 4096)

  pub small : Small s
  small =
      by_cases Small
      (λ g. (omega arith, omega arith)) (λ g a. (omega arith, omega arith))
      (λ g a o. (omega (arith, (best₁ o).below, at_most4096 own far n g), omega (arith, whole (some n (stops mine table)) refl, at_most4096 own far n g)))
      (λ g a o t. (omega (arith, (best₂ t).below, at_most4096 own far n g), omega (arith, at_most4096 own far n g)))
      (λ g a o t. (omega arith, omega arith))
    where
      whole : (b : Bool) → some n (stops mine table) ≡ b → cond b (first n (stops mine table) + 1) n ≤ n
      whole true e = omega (arith, ltb-true (first n (stops mine table)) n e)
      whole false e = omega arith

  -- seizing the chosen circuit at once is accepted
  pub seizable : s.refusal ≡ 0 → (step_in own far table s.cic.0 (Some (Ordered Seize))).answer.refusal ≡ 0
  unfolding record_of
  seizable r = Group.refusals own far table s.cic.0 (Some (Ordered Seize)) ∙ go s.cic.0 (chosen_qualifies r).0 (chosen_qualifies r).1 (taken₀ r)
    where
      -- a group that is not refused, with no bad record
      taken₀ : s.refusal ≡ 0 → (bad_group own far n ≡ false) × (some n (bad table) ≡ false)
      taken₀ =
          by_cases (λ s. s.refusal ≡ 0 → (bad_group own far n ≡ false) × (some n (bad table) ≡ false))
          (λ g r. absurd (omega arith)) (λ g a r. absurd (omega arith)) (λ g a o r. (g, a)) (λ g a o t r. (g, a)) (λ g a o t r. absurd (omega arith))

      go : (i : ℕ) → i < n → T (qualifies table i) → (bad_group own far n ≡ false) × (some n (bad table) ≡ false) → refusal_in own far table i (Some (Ordered Seize)) ≡ 0
      go i h q w =
          let ok : allowed_at table i ≡ true = allowed_is (allowed_at table i) (λ b. none_at n (bad table) w.1 i h b) in
          let idle : eqb (state_at table i) 0 ≡ true = is_true _ (left (eqb (state_at table i) 0) (not (record_at table i).far) q) in
          let unblocked : (record_at table i).far ≡ false = is_off (record_at table i).far (right (eqb (state_at table i) 0) (not (record_at table i).far) q) in
          rw (w.0, lt-leb n i h, ok, idle, unblocked)

-- two ends that choose at once, whatever their tables: while each has a circuit of its own that qualifies, they do not choose the same one
pub never_meet : (own far : ℕ) (here there : List ℕ) → (own ≡ far → ⊥) → (select_in own far here).refusal ≡ 0 → (select_in far own there).refusal ≡ 0
    → (i : ℕ) → i < records_in (length here) → T (ours (controls own far) here i) → (j : ℕ) → j < records_in (length there) → T (ours (controls far own) there j)
    → (select_in own far here).cic.0 ≡ (select_in far own there).cic.0 → ⊥
never_meet own far here there different r q i h s j l t meet =
    T_not (controls own far c) (rw (← one_controls own far c different) (rw meet (of_ours far own there q j l t).0))
    (of_ours own far here r i h s).0
  where
    c : ℕ
    c = (select_in own far here).cic.0
