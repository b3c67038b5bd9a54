-- Laws of numbers as text: the digits of a number, how many there are, that they stand for it, and that the first is not 0.
-- Assumes nothing.
use mathlib.Core.Path.{◌≡◌, refl, ap}
use mathlib.Core.Bool.{Bool, true, false}
use mathlib.Core.List.{List, [], ◌∷◌, ◌++◌}
use Prim.Native.Nat.{ℕ, zero, suc, ◌+◌, ◌*◌, ◌-◌, ◌/◌, ◌%◌, ◌^◌, ◌<◌, ◌≤◌}
use native.Mathlib.Nat.{pow-suc}
use native.Mathlib.Omega.{arith}
use lib.Dec.{ltb}
use lib.ListN.{length, get_or, length-append, get_or-append}
use borrow.Author.Tests.{ltb-true, ltb-false, lt-ltb, le-ltb}
use Rattle.text.specs.Numbers.{digits_within, decimal, value_from}

-- a proof by cases on a test
pub by_test : {P : Type 0} (b : Bool) → (b ≡ true → P) → (b ≡ false → P) → P
by_test true f g = f refl
by_test false f g = g refl

-- any bound that is large enough gives the same digits
enough : (j k n : ℕ) → n < j → n < k → digits_within j n ≡ digits_within k n
unfolding digits_within
enough zero k n h i = absurd (omega arith)
enough (suc j) zero n h i = absurd (omega arith)
enough (suc j) (suc k) n h i =
    by_test (ltb n 10) (λ e. simp e) (λ e. let l : 10 ≤ n = ltb-false _ _ e in simp (e, enough j k (n / 10) (omega arith) (omega arith)))

pub decimal_small : (n : ℕ) → n < 10 → decimal n ≡ (48 + n) ∷ []
unfolding decimal digits_within
decimal_small n h = simp (lt-ltb n 10 h)

pub decimal_large : (n : ℕ) → 10 ≤ n → decimal n ≡ decimal (n / 10) ++ ((48 + n % 10) ∷ [])
unfolding decimal digits_within
decimal_large n h = simp (le-ltb n 10 h) (ap (λ (d : List ℕ). d ++ ((48 + n % 10) ∷ [])) (enough n (suc (n / 10)) (n / 10) (omega arith) (omega arith)))

pub decimal_small_length : (n : ℕ) → n < 10 → length (decimal n) ≡ 1
decimal_small_length n h = rw (decimal_small n h)

pub decimal_longer : (n : ℕ) → 10 ≤ n → length (decimal n) ≡ length (decimal (n / 10)) + 1
decimal_longer n h = rw (decimal_large n h) (length-append (decimal (n / 10)) ((48 + n % 10) ∷ []))

small_length : (k n : ℕ) → n < 10 → length (decimal n) ≤ suc k
small_length k n h = rw (decimal_small n h) (omega arith)

large_length : (k n : ℕ) → 10 ≤ n → length (decimal (n / 10)) ≤ k → length (decimal n) ≤ suc k
large_length k n h more = rw (decimal_longer n h) (omega arith)

-- a number below a power of ten has at most so many digits
pub decimal_length : (k n : ℕ) → n < 10 ^ suc k → length (decimal n) ≤ suc k
decimal_length zero n h = small_length zero n h
decimal_length (suc k) n h =
    by_test (ltb n 10)
    (λ e. small_length (suc k) n (ltb-true _ _ e))
    (λ e. large_length (suc k) n (ltb-false _ _ e) (decimal_length k (n / 10) (omega (arith, pow-suc 10 (suc k)))))

pub decimal_64 : (n : ℕ) → n < 2 ^ 64 → length (decimal n) ≤ 20
decimal_64 n h = decimal_length 19 n (omega arith)

value_last : (before : ℕ) (ds : List ℕ) (d : ℕ) → value_from before (ds ++ (d ∷ [])) ≡ 10 * value_from before ds + (d - 48)
unfolding value_from
value_last before [] d = refl
value_last before (e ∷ ds) d = value_last (10 * before + (e - 48)) ds d

digits_value : (k n : ℕ) → n < k → value_from 0 (digits_within k n) ≡ n
unfolding digits_within value_from
digits_value zero n h = absurd (omega arith)
digits_value (suc k) n h =
    by_test (ltb n 10)
    (λ e. rw e (omega arith))
    (λ e. let l : 10 ≤ n = ltb-false _ _ e in rw (e, value_last, digits_value k (n / 10) (omega arith)) (omega arith))

-- the decimal digits of a number stand for it
pub decimal_value : (n : ℕ) → value_from 0 (decimal n) ≡ n
unfolding decimal
decimal_value n = digits_value (suc n) n (omega arith)

digits_some : (k n : ℕ) → n < k → 0 < length (digits_within k n)
unfolding digits_within
digits_some zero n h = absurd (omega arith)
digits_some (suc k) n h = by_test (ltb n 10) (λ e. rw e (omega arith)) (λ e. rw (e, length-append) (omega arith))

-- and the first is not 0, but in 0 itself
digits_first : (k n : ℕ) → n < k → 0 < n → 48 < get_or (digits_within k n) 0 0
unfolding digits_within
digits_first zero n h p = absurd (omega arith)
digits_first (suc k) n h p =
    by_test (ltb n 10)
    (λ e. rw e (omega arith))
    (λ e. let l : 10 ≤ n = ltb-false _ _ e in
    rw (e, get_or-append (digits_within k (n / 10)) ((48 + n % 10) ∷ []) 0 0 (digits_some k (n / 10) (omega arith))) (digits_first k (n / 10) (omega arith) (omega arith)))

pub decimal_first : (n : ℕ) → 0 < n → 48 < get_or (decimal n) 0 0
unfolding decimal
decimal_first n p = digits_first (suc n) n (omega arith) p
