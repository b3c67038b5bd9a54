-- A number in octets of a lent slice, lowest first, and a word: a number of 64 bits in eight of them. Beyond the slice's end there are zeros,
-- which stay.
-- Assumes nothing.
use Rattle.std.specs.Prelude.{List, ℕ, zero, suc, ◌+◌, ◌*◌, ◌/◌, ◌%◌, get_or, set}

-- the number in n octets from a place on
unfoldable pub number : (n : ℕ) → List ℕ → (at : ℕ) → ℕ
number zero xs at = 0
number (suc n) xs at = get_or xs at 0 + 256 * number n xs (at + 1)

-- the octets with a number's n lowest put there
unfoldable pub put : (n : ℕ) → List ℕ → (at v : ℕ) → List ℕ
put zero xs at v = xs
put (suc n) xs at v = put n (set xs at (v % 256)) (at + 1) (v / 256)

abbrev pub word : List ℕ → (at : ℕ) → ℕ
word xs at = number 8 xs at

abbrev pub put_word : List ℕ → (at v : ℕ) → List ℕ
put_word xs at v = put 8 xs at v

-- the largest number that a word can hold
abbrev pub largest : ℕ
largest = 0xffffffffffffffff
