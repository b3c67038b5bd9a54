-- The first number below n that passes a test, and whether there is one; of those that pass, the one that goes before all of them.
-- Assumes nothing.
use Rattle.std.specs.Prelude.{Bool, cond, ◌&&◌, ℕ, zero, suc, ltb}
use Rattle.circuit.specs.Every.{implies, each_below}

-- n where there is none
unfoldable pub first : (n : ℕ) → (ℕ → Bool) → ℕ
first zero f = zero
first (suc n) f = cond (f zero) zero (suc (first n (λ k. f (suc k))))

abbrev pub some : (n : ℕ) → (ℕ → Bool) → Bool
some n f = ltb (first n f) n

-- the one that goes before every one of them, itself included
abbrev pub is_best : (n : ℕ) → (among : ℕ → Bool) → (goes : ℕ → ℕ → Bool) → ℕ → Bool
is_best n among goes i = among i && each_below n (λ j. implies (among j) (goes i j))

abbrev pub best : (n : ℕ) → (among : ℕ → Bool) → (goes : ℕ → ℕ → Bool) → ℕ
best n among goes = first n (is_best n among goes)
