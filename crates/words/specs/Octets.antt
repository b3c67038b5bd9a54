-- Numbers in octets, lowest first, and octets put at the start of a lent buffer.
-- Assumes nothing.
use Rattle.std.specs.Prelude.{List, [], ◌∷◌, ◌++◌, ℕ, zero, suc, ◌+◌, ◌*◌, ◌/◌, ◌%◌, ◌<◌, length, get_or, drop}

-- a list of octets
abbrev pub Octets : List ℕ → Type 0
Octets xs = (i : ℕ) → i < length xs → get_or xs i 0 < 256

-- a number in so many octets, lowest first
abbrev pub low_first : ℕ → ℕ → List ℕ
low_first zero n = []
low_first (suc k) n = n % 256 ∷ low_first k (n / 256)

-- the number that octets hold, lowest first
abbrev pub number_of : List ℕ → ℕ
number_of [] = 0
number_of (o ∷ os) = o + 256 * number_of os

-- octets at the start of a buffer, whose other octets keep their contents
abbrev pub over : List ℕ → List ℕ → List ℕ
over xs buffer = xs ++ drop (length xs) buffer
