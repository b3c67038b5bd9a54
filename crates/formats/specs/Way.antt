-- The way the programs go: which headings there are, by H0 the set of H1, and address signals octet by octet. Contracts of private functions cite
-- it; no promise leans on it.
-- Assumes nothing.
use Rattle.std.specs.Prelude.{cond, List, [], ◌∷◌, ℕ, ◌+◌, ◌*◌, ◌/◌, ◌%◌, eqb}

abbrev pub group_of : (h0 : ℕ) → ℕ
group_of h0 = cond (eqb h0 1) 0x002 (cond (eqb h0 4) 0x002 (cond (eqb h0 5) 0x3fe (cond (eqb h0 6) 0x03e (cond (eqb h0 7) 0x0be 0))))

-- address signals two to an octet, the earlier one low, a zero filler after an odd count
abbrev pub pairs : List ℕ → List ℕ
pairs [] = []
pairs (a ∷ []) = a ∷ []
pairs (a ∷ b ∷ rest) = (a + 16 * b) ∷ pairs rest

-- the address signals and the filler that octets hold
abbrev pub halves : List ℕ → List ℕ
halves [] = []
halves (o ∷ os) = o % 16 ∷ o / 16 ∷ halves os
