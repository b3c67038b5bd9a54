-- The tests that the claims use, told as plain facts, for whoever states the claims without them.
-- Assumes nothing.
use mathlib.Core.Bool.{Bool, true, false, not, ◌&&◌, ◌||◌, and-false}
use mathlib.Core.Logic.{◌⊎◌, inl, inr}
use mathlib.Core.List.{[]}
use mathlib.Core.Path.{◌≡◌, refl, subst, subst₂, sym}
use Prim.Native.Nat.{ℕ}
use lib.Dec.{T, eqb, eqb→eq}
use borrow.Author.Tests.{ne_eqb}
use Rattle.circuit.specs.declared.Record.{Record}
use Rattle.circuit.specs.declared.Signal.TheVariants.{Rlg}
use Rattle.circuit.proofs.Every.{left, right}
use Rattle.ends.specs.Ends.{end, Agree, same_stage, awaits_reset, marks, unheard}

by_cases : {X : Type 0} (a b : Bool) → (T a → X) → (T b → X) → T (a || b) → X
by_cases true b f g t = f tt
by_cases false b f g t = g t

-- what holds of the six stages holds of every two states that pass for the same stage
module _ (P : ℕ → ℕ → Type 0) (idle : P 0 0) (seized : P 1 6) (complete : P 2 7) (free : P 2 8) (answered : P 3 9) (cleared : P 4 10) (p q : ℕ) where
  abbrev is : ℕ → ℕ → Bool
  is m n = eqb p m && eqb q n

  at : (m n : ℕ) → P m n → T (is m n) → P p q
  at m n x t = subst₂ P (sym (eqb→eq p m (left (eqb p m) _ t))) (sym (eqb→eq q n (right (eqb p m) _ t))) x

  abbrev second : Bool
  second = eqb p 2 && (eqb q 7 || eqb q 8)

  at_second : T second → P p q
  at_second t = subst₂ P (sym (eqb→eq p 2 (left (eqb p 2) _ t))) refl
      (by_cases (eqb q 7) (eqb q 8) (λ e. subst₂ P refl (sym (eqb→eq q 7 e)) complete) (λ e. subst₂ P refl (sym (eqb→eq q 8 e)) free) (right (eqb p 2) _ t))

  at_stages : T (same_stage p q) → P p q
  at_stages =
      by_cases (is 0 0 || is 1 6 || second || is 3 9) (is 4 10)
      (by_cases (is 0 0 || is 1 6 || second) (is 3 9)
      (by_cases (is 0 0 || is 1 6) second (by_cases (is 0 0) (is 1 6) (at 0 0 idle) (at 1 6 seized)) at_second)
      (at 3 9 answered))
      (at 4 10 cleared)

-- either end may be the outgoing one
pub at_stages_either_way : (P : ℕ → ℕ → Type 0) → P 0 0 → P 1 6 → P 2 7 → P 2 8 → P 3 9 → P 4 10 → (p q : ℕ) → T (same_stage p q || same_stage q p) → P p q ⊎ P q p
at_stages_either_way P idle seized complete free answered cleared p q =
    by_cases (same_stage p q) (same_stage q p)
    (λ t. inl (at_stages P idle seized complete free answered cleared p q t))
    (λ t. inr (at_stages P idle seized complete free answered cleared q p t))

-- an end awaits reset only in 12
pub not_awaiting : (s : ℕ) → (s ≡ 12 → ⊥) → T (not (awaits_reset s))
not_awaiting s h = rw (ne_eqb s 12 h) tt

pub marks_equal : (far own : Bool) → T (marks far own) → far ≡ own
marks_equal true true t = refl
marks_equal true false t = absurd t
marks_equal false true t = absurd t
marks_equal false false t = refl

-- two ends that agree, whatever their stages are called
pub told_plainly : (P : ℕ → ℕ → Type 0) → P 0 0 → P 1 6 → P 2 7 → P 2 8 → P 3 9 → P 4 10 → (r t : Record) → Agree (end r []) (end t [])
    → (P r.state t.state ⊎ P t.state r.state) × (t.far ≡ r.own) × (r.far ≡ t.own)
told_plainly P idle seized complete free answered cleared r t k = (
  at_stages_either_way P idle seized complete free answered cleared r.state t.state k.call,
  marks_equal t.far r.own k.block_of_first,
  marks_equal r.far t.own k.block_of_second,
)

-- RLG is heard only in 5 and 12
pub unheard_rlg : (s : ℕ) → (s ≡ 5 → ⊥) → (s ≡ 12 → ⊥) → T (unheard s Rlg)
unheard_rlg s h k = rw (ne_eqb s 5 h, ne_eqb s 12 k) tt

pub not_both : (b : Bool) → T b → T (not b) → ⊥
not_both true t n = n
not_both false t n = t

-- no stage has an end in 5, so an end that rests there is opposite one in 12
no5 : (t : ℕ) → T (same_stage 5 t || same_stage t 5) → ⊥
no5 t = rw (and-false (eqb t 0), and-false (eqb t 1), and-false (eqb t 2), and-false (eqb t 3), and-false (eqb t 4)) (λ h. h)

pub opposite12 : (s t : ℕ) → (T (not (awaits_reset s)) → T (not (awaits_reset t)) → T (same_stage s t || same_stage t s)) → s ≡ 5 → t ≡ 12
opposite12 s t k five = go (eqb t 12) refl
  where
    go : (b : Bool) → eqb t 12 ≡ b → t ≡ 12
    go true e = eqb→eq t 12 (subst T (sym e) tt)
    go false e = absurd (no5 t (rw five at (k (rw five tt) (rw e tt))))
