-- Numbers as text, in ASCII: decimal with no leading zeros, and an octet in two hexadecimal digits.
-- Assumes nothing.
use Rattle.std.specs.Prelude.{cond, List, [], ◌∷◌, ◌++◌, ℕ, zero, suc, ◌+◌, ◌*◌, ◌-◌, ◌/◌, ◌%◌, ltb}

-- the digits of n, where it has at most k
unfoldable pub digits_within : ℕ → ℕ → List ℕ
digits_within zero n = []
digits_within (suc k) n = cond (ltb n 10) ((48 + n) ∷ []) (digits_within k (n / 10) ++ ((48 + n % 10) ∷ []))

-- n in decimal: it has at most n + 1 digits
unfoldable pub decimal : ℕ → List ℕ
decimal n = digits_within (suc n) n

-- a hexadecimal digit, in lower case
abbrev pub hex_digit : ℕ → ℕ
hex_digit d = cond (ltb d 10) (48 + d) (87 + d)

abbrev pub hex : ℕ → List ℕ
hex octet = hex_digit (octet / 16) ∷ hex_digit (octet % 16) ∷ []

-- the number that digits stand for, behind those that stand for `before`
unfoldable pub value_from : ℕ → List ℕ → ℕ
value_from before [] = before
value_from before (d ∷ ds) = value_from (10 * before + (d - 48)) ds
