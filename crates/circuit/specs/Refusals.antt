-- A list of refusals in their order (docs/RULES.md, "Refusals"): the first condition that holds gives the number, and 0 stands for none.
-- Assumes nothing.
use Rattle.std.specs.Prelude.{◌≡◌, Bool, true, false, cond, List, [], ◌∷◌, ◌⊎◌, ℕ}

pub data Rule : Type 0 where
  refuse : ℕ → Bool → Rule

abbrev pub first_rule : List Rule → ℕ
first_rule [] = 0
first_rule (refuse n holds ∷ rules) = cond holds n (first_rule rules)

-- a number is given: a test with this number holds, and none before it does
unfoldable pub Given : ℕ → List Rule → Type 0
Given n [] = ⊥
Given n (refuse k holds ∷ rules) = ((holds ≡ true) × (k ≡ n)) ⊎ ((holds ≡ false) × Given n rules)

-- none is given: no test holds
abbrev pub Clear : List Rule → Type 0
Clear [] = Unit {0}
Clear (refuse n holds ∷ rules) = (holds ≡ false) × Clear rules
