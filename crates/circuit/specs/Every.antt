-- Two tests that a definition may be made of: "if a then b", and "at each number below n".
-- Assumes nothing.
use Rattle.std.specs.Prelude.{Bool, true, ◌&&◌, ◌||◌, not, ℕ, zero, suc}

-- "if a then b" as a test
abbrev pub implies : Bool → Bool → Bool
implies a b = not a || b

-- at 0, 1, .. below n
abbrev pub each_below : ℕ → (ℕ → Bool) → Bool
each_below zero f = true
each_below (suc n) f = f zero && each_below n (λ k. f (suc k))
