-- Tests that are computed: from the test at every point of a finite range to the rule at each point, and back.
-- Assumes nothing.
use mathlib.Core.Path.{◌≡◌, refl, sym, subst}
use mathlib.Core.Bool.{Bool, true, false, cond, ◌&&◌, not}
use Prim.Native.Nat.{ℕ, zero, suc, ◌<◌, ◌≤◌}
use native.Mathlib.Nat.{le_of_suc-le-suc, not-suc-le-zero}
use native.Mathlib.Omega.{arith}
use lib.Dec.{T, leb, leb→le}
use Rattle.circuit.specs.declared.Record.{Record}
use Rattle.circuit.specs.Records.{rec, valid}
use Rattle.circuit.specs.Every.{implies, each_below}

pub left : (a b : Bool) → T (a && b) → T a
left true b t = tt
left false b t = t

pub right : (a b : Bool) → T (a && b) → T b
right true b t = t
right false b t = absurd t

pub both : (a b : Bool) → T a → T b → T (a && b)
both true b s t = t
both false b s t = absurd s

pub both_hold : (a : Bool) {b : Bool} → (a && b) ≡ true → (a ≡ true) × (b ≡ true)
both_hold true e = (refl, e)
both_hold false e = absurd (subst T (sym e) tt)

pub is_true : (b : Bool) → T b → b ≡ true
is_true true t = refl
is_true false t = absurd t

-- two tests that come to the same
abbrev pub alike : Bool → Bool → Bool
alike a b = cond a b (not b)

pub alike_same : (a b : Bool) → T (alike a b) → a ≡ b
alike_same true true t = refl
alike_same true false t = absurd t
alike_same false true t = absurd t
alike_same false false t = refl

pub then : (a b : Bool) → T (implies a b) → T a → T b
then true b t h = t
then false b t h = absurd h

pub given : (a b : Bool) → (T a → T b) → T (implies a b)
given true b f = f tt
given false b f = tt

-- at both Bools
abbrev pub each_bool : (Bool → Bool) → Bool
each_bool f = f true && f false

pub at_bool : (f : Bool → Bool) → T (each_bool f) → (b : Bool) → T (f b)
at_bool f t true = left (f true) (f false) t
at_bool f t false = right (f true) (f false) t

pub at_below : (n : ℕ) (f : ℕ → Bool) → T (each_below n f) → (k : ℕ) → k < n → T (f k)
at_below zero f t k h = absurd (not-suc-le-zero h)
at_below (suc n) f t zero h = left (f zero) (each_below n (λ k. f (suc k))) t
at_below (suc n) f t (suc k) h = at_below n (λ k. f (suc k)) (right (f zero) (each_below n (λ k. f (suc k))) t) k (le_of_suc-le-suc h)

pub each_of : (n : ℕ) (f : ℕ → Bool) → ((k : ℕ) → k < n → T (f k)) → T (each_below n f)
each_of zero f h = tt
each_of (suc n) f h = both (f zero) (each_below n (λ k. f (suc k))) (h zero (omega arith)) (each_of n (λ k. f (suc k)) (λ k l. h (suc k) (omega arith)))

-- what is to hold at a role and a record, where the record is valid
abbrev pub at : (Bool → Record → Bool) → Bool → ℕ → Bool → Bool → Bool → Bool → Bool
at f c s own far bla uba = implies (valid (rec s own far bla uba)) (f c (rec s own far bla uba))

-- at both roles and every valid record
abbrev pub everywhere : (Bool → Record → Bool) → Bool
everywhere f = each_below 13 (λ s. each_bool (λ c. each_bool (λ own. each_bool (λ far. each_bool (λ bla. each_bool (λ uba. at f c s own far bla uba))))))

low_state : (r : Record) → T (valid r) → r.state < 13
low_state r v = let h : r.state ≤ 12 = leb→le r.state 12 (left (leb r.state 12) _ v) in omega arith

pub at_valid : (f : Bool → Record → Bool) → T (everywhere f) → (c : Bool) (r : Record) → T (valid r) → T (f c r)
at_valid f t c r v = then (valid r) (f c r) (t₆ r.uba) v
  where
    t₁ : T (each_bool (λ c. each_bool (λ own. each_bool (λ far. each_bool (λ bla. each_bool (λ uba. at f c r.state own far bla uba))))))
    t₁ = at_below 13 (λ s. each_bool (λ c. each_bool (λ own. each_bool (λ far. each_bool (λ bla. each_bool (λ uba. at f c s own far bla uba)))))) t r.state (low_state r v)

    t₂ : T (each_bool (λ own. each_bool (λ far. each_bool (λ bla. each_bool (λ uba. at f c r.state own far bla uba)))))
    t₂ = at_bool (λ c. each_bool (λ own. each_bool (λ far. each_bool (λ bla. each_bool (λ uba. at f c r.state own far bla uba))))) t₁ c

    t₃ : T (each_bool (λ far. each_bool (λ bla. each_bool (λ uba. at f c r.state r.own far bla uba))))
    t₃ = at_bool (λ own. each_bool (λ far. each_bool (λ bla. each_bool (λ uba. at f c r.state own far bla uba)))) t₂ r.own

    t₄ : T (each_bool (λ bla. each_bool (λ uba. at f c r.state r.own r.far bla uba)))
    t₄ = at_bool (λ far. each_bool (λ bla. each_bool (λ uba. at f c r.state r.own far bla uba))) t₃ r.far

    t₅ : T (each_bool (λ uba. at f c r.state r.own r.far r.bla uba))
    t₅ = at_bool (λ bla. each_bool (λ uba. at f c r.state r.own r.far bla uba)) t₄ r.bla

    t₆ : (uba : Bool) → T (at f c r.state r.own r.far r.bla uba)
    t₆ = at_bool (λ uba. at f c r.state r.own r.far r.bla uba) t₅
