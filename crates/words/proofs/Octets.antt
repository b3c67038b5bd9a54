-- Laws of octets, and of a number in them, lowest first: it is in them, and its octets in two parts are those of its two parts.
-- Assumes nothing.
use mathlib.Core.Path.{◌≡◌, refl, ap, ◌∙◌, subst}
use mathlib.Core.Bool.{Bool, true, false}
use mathlib.Core.List.{List, ◌∷◌, ◌++◌}
use Prim.Native.Nat.{ℕ, zero, suc, ◌+◌, ◌*◌, ◌/◌, ◌%◌, ◌^◌, ◌<◌}
use native.Mathlib.Nat.{pow-suc, pow-succ', pow-zero, zero-add, suc-add, mul_assoc, div-lt_iff_lt-mul}
use native.Mathlib.Omega.{arith}
use borrow.Author.Tests.{ltb-true, ltb-false}
use lib.Dec.{ltb, lit<}
use lib.ListN.{length, get_or, get_or-eq_default}
use Rattle.words.specs.Octets.{Octets, low_first, number_of}

-- a number that is put into octets is in them, whatever their count
pub number_back : (k n : ℕ) → n < 256 ^ k → number_of (low_first k n) ≡ n
number_back zero n h = omega arith
number_back (suc k) n h =
    let q : n / 256 < 256 ^ k = (div-lt_iff_lt-mul (lit< tt)).1 (subst (λ (p : ℕ). n < p) (pow-suc 256 k) h) in
    let e : number_of (low_first k (n / 256)) ≡ n / 256 = number_back k (n / 256) q in
    omega arith

pub length-low_first : (k n : ℕ) → length (low_first k n) ≡ k
length-low_first zero n = refl
length-low_first (suc k) n = ap suc (length-low_first k (n / 256))

-- the octets of a number in two parts
pub in_parts : (j k a b : ℕ) → a < 256 ^ j → low_first (j + k) (a + 256 ^ j * b) ≡ low_first j a ++ low_first k b
in_parts zero k a b h =
    let z : a ≡ 0 = omega (arith, pow-zero 256) in
    let n : 0 + 256 ^ 0 * b ≡ b = omega arith in
    rw (zero-add k, z, n)
in_parts (suc j) k a b h =
    let m : a + 256 ^ suc j * b ≡ a + 256 * (256 ^ j * b) = ap (λ (p : ℕ). a + p) (ap (λ (p : ℕ). p * b) (pow-succ' 256 j) ∙ mul_assoc 256 (256 ^ j) b) in
    let q : a / 256 < 256 ^ j = (div-lt_iff_lt-mul (lit< tt)).1 (subst (λ (p : ℕ). a < p) (pow-suc 256 j) h) in
    let low : (a + 256 * (256 ^ j * b)) % 256 ≡ a % 256 = omega arith in
    let high : (a + 256 * (256 ^ j * b)) / 256 ≡ a / 256 + 256 ^ j * b = omega arith in
    rw (suc-add j k, m) (rw (low, high) (ap (λ (r : List ℕ). a % 256 ∷ r) (in_parts j k (a / 256) b q)))

-- beyond the last octet there are zeros, so that every place holds one
pub everywhere : (xs : List ℕ) → Octets xs → (i : ℕ) → get_or xs i 0 < 256
everywhere xs octets i = go (ltb i (length xs)) refl
  where
    go : (b : Bool) → ltb i (length xs) ≡ b → get_or xs i 0 < 256
    go true e = octets i (ltb-true i (length xs) e)
    go false e = rw (get_or-eq_default xs 0 (ltb-false i (length xs) e)) (lit< tt)
