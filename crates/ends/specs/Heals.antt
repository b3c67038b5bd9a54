-- Whatever was lost, a restart heals it: from any two legal records, however they came about, one end restarts, and once all has arrived, at most
-- after timer 4 in the silence that follows, both ends are idle and know each other's block.
-- Assumes nothing.
use Rattle.circuit.specs.declared.Event.{Event}
use Rattle.std.specs.Prelude.{Bool, true, false, cond, ◌||◌, List, [], ◌∷◌, ◌⊎◌, ◌≡◌, ℕ, T, eqb, Option, Some}
use Rattle.circuit.specs.declared.Timer.TheVariants.{Repeat}
use Rattle.circuit.specs.declared.Event.TheVariants.{RunsOut}
use Rattle.circuit.specs.Records.{valid}
use Rattle.circuit.specs.Groups.{controls}
use Rattle.ends.specs.Machine.{Happening, Happening.arrives, Happening.host, turn, Step, Step.first, Step.second, after}
use Rattle.ends.specs.Ends.{End, Pair, end_acts, restart}

-- at the first end, or at the second
abbrev pub at : (is_first : Bool) → Happening (Option Event) → Step (Option Event)
at true h = first h
at false h = second h

-- signals arrive in some order: true, the oldest on its way to the first end is next
abbrev pub arrivals : (order : List Bool) → List (Step (Option Event))
arrivals [] = []
arrivals (is_first ∷ order) = at is_first arrives ∷ arrivals order

-- timer 4 runs out at the end that awaits release-guard or, where neither does, at the one that awaits reset
abbrev pub in_state : ℕ → End → Bool
in_state s e = eqb e.holds.state s

abbrev pub first_repeats : Pair → Bool
first_repeats p = in_state 5 p.0 || cond (in_state 5 p.1) false (in_state 12 p.0)

module _ (a b : Bool) where
  -- what is on its way arrives, and nothing else happens
  unfoldable pub delivered : (order : List Bool) → Pair → Pair
  delivered order p = after (end_acts a) (end_acts b) p (arrivals order)

  unfoldable pub repeated : Pair → Pair
  repeated p = after (end_acts a) (end_acts b) p (at (first_repeats p) (host (Some (RunsOut Repeat))) ∷ [])

-- nothing is on its way
pub record Quiet (p : Pair) : Type 0 where
  pub to_first : p.0.coming ≡ []
  pub to_second : p.1.coming ≡ []

-- both ends are idle, and each knows the other's block
pub record Healed (p : Pair) : Type 0 where
  pub first_idle : p.0.holds.state ≡ 0
  pub second_idle : p.1.holds.state ≡ 0
  pub block_of_first : p.1.holds.far ≡ p.0.holds.own
  pub block_of_second : p.0.holds.far ≡ p.1.holds.own

-- the pair after a restart at the first end
abbrev pub after_restart : (a : Bool) → (x y : End) → Pair
after_restart a x y = turn (end_acts a) restart x y

-- whatever the order: where nothing is on its way any more, the ends are healed, or they are after timer 4
unfoldable pub ClaimHeals : Type 0
ClaimHeals =
    (own far cic : ℕ) → (own ≡ far → ⊥) → (x y : End) → T (valid x.holds) → T (valid y.holds)
    → let a = controls own far cic in
    let b = controls far own cic in
    (order : List Bool) → let p = delivered a b order (after_restart a x y) in
    Quiet p → Healed p ⊎ ((later : List Bool) → let q = delivered a b later (repeated a b p) in Quiet q → Healed q)

-- and there is such an order, both times: turn by turn
abbrev pub turns : List Bool
turns = true ∷ false ∷ true ∷ false ∷ true ∷ false ∷ true ∷ false ∷ true ∷ false ∷ []

unfoldable pub ClaimArrives : Type 0
ClaimArrives =
    (own far cic : ℕ) → (own ≡ far → ⊥) → (x y : End) → T (valid x.holds) → T (valid y.holds)
    → let a = controls own far cic in
    let b = controls far own cic in
    let p = delivered a b turns (after_restart a x y) in
    Quiet p × Quiet (delivered a b turns (repeated a b p))
