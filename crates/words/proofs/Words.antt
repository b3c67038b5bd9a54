-- Laws of numbers in octets of a lent slice: what is put is read back, and nothing else changes. All that use words go by these.
-- Assumes nothing.
use mathlib.Core.Path.{◌≡◌, refl, ◌∙◌}
use mathlib.Core.List.{List, [], ◌∷◌, ◌++◌}
use Prim.Native.Nat.{ℕ, zero, suc, ◌+◌, ◌*◌, ◌/◌, ◌%◌, ◌^◌, ◌<◌, ◌≤◌}
use native.Mathlib.Omega.{arith}
use native.Mathlib.Numerals.{unary_clauses}
use lib.ListN.{length, get_or, set, length-set, replicate, take, drop}
use lib.Seq.{get_or-set_same, get_or-set_other}
use Rattle.std.proofs.Common.{add-zero, add-one, append_assoc, drop-cons, take-append-drop}
use Rattle.std.specs.Int.{w64, from_le_bytes}
use Rattle.std.proofs.lemmas.List.{drop-set-lt, take_more_set}
use Rattle.words.specs.Words.{number, put, word}
use Rattle.words.specs.Octets.{low_first}

-- a word's octets one by one, as the program has them
pub octets : (xs : List ℕ) (at : ℕ)
    → word xs at ≡ get_or xs at 0 + 256 * (get_or xs (at + 1) 0 + 256 * (get_or xs (at + 2) 0 + 256 * (get_or xs (at + 3) 0 + 256 * (get_or xs (at + 4) 0 + 256 * (get_or xs (at + 5) 0 + 256 * (get_or xs (at + 6) 0 + 256 * get_or xs (at + 7) 0))))))
unfolding number
octets xs at = simp unary_clauses

-- eight octets that are those from a place on
pub whole : (xs bs : List ℕ) (at : ℕ) → ((k : ℕ) → k < 8 → get_or bs k 0 ≡ get_or xs (at + k) 0) → from_le_bytes w64 bs ≡ word xs at
whole xs bs at same =
    rw (octets xs at, same 0 (omega arith), same 1 (omega arith), same 2 (omega arith), same 3 (omega arith), same 4 (omega arith), same 5 (omega arith), same 6 (omega arith), same 7 (omega arith), add-zero) (omega arith)

-- the octets that `to_le_bytes` gives
pub eight_low : (v : ℕ)
    → v % 256 ∷ v / 0x100 % 256 ∷ v / 0x10000 % 256 ∷ v / 0x1000000 % 256 ∷ v / 0x100000000 % 256 ∷ v / 0x10000000000 % 256 ∷ v / 0x1000000000000 % 256 ∷ v / 0x100000000000000 % 256 ∷ [] ≡ low_first 8 v
eight_low v =
    let d₂ : v / 0x100 / 256 ≡ v / 0x10000 = omega arith in
    let d₃ : v / 0x10000 / 256 ≡ v / 0x1000000 = omega arith in
    let d₄ : v / 0x1000000 / 256 ≡ v / 0x100000000 = omega arith in
    let d₅ : v / 0x100000000 / 256 ≡ v / 0x10000000000 = omega arith in
    let d₆ : v / 0x10000000000 / 256 ≡ v / 0x1000000000000 = omega arith in
    let d₇ : v / 0x1000000000000 / 256 ≡ v / 0x100000000000000 = omega arith in
    simp (d₂, d₃, d₄, d₅, d₆, d₇)

-- one octet more
pub put_next : (k n : ℕ) (xs : List ℕ) (at v : ℕ) → k < n → put (suc k) xs at v ≡ set (put k xs at v) (at + k) (get_or (low_first n v) k 0)
unfolding put
put_next zero zero xs at v h = absurd (omega arith)
put_next (suc k) zero xs at v h = absurd (omega arith)
put_next zero (suc n) xs at v h = rw add-zero refl
put_next (suc k) (suc n) xs at v h =
    let place : at + 1 + k ≡ at + suc k = omega arith in
    rw (put_next k n (set xs at (v % 256)) (at + 1) (v / 256) (omega arith), place) refl

-- all at once, where there is room
pub put_whole : (n : ℕ) (xs : List ℕ) (at v : ℕ) → at + n ≤ length xs → take at xs ++ (low_first n v ++ drop n (drop at xs)) ≡ put n xs at v
unfolding put
put_whole zero xs at v room = take-append-drop at xs
put_whole (suc n) xs at v room =
    let d : ℕ = v % 256 in
    let rest : drop (suc n) (drop at xs) ≡ drop n (drop (at + 1) (set xs at d)) = rw (drop-cons xs at 0 (omega arith), drop-set-lt (at + 1) xs at d (omega arith), add-one) refl in
    rw (rest, ← put_whole n (set xs at d) (at + 1) (v / 256) (rw length-set (omega arith)), take_more_set xs at d (omega arith), append_assoc) refl

pub put_length : (n : ℕ) (xs : List ℕ) (at v : ℕ) → length (put n xs at v) ≡ length xs
unfolding put
put_length zero xs at v = refl
put_length (suc n) xs at v = put_length n (set xs at (v % 256)) (at + 1) (v / 256) ∙ length-set xs at (v % 256)

-- octets outside stay
pub other : (n : ℕ) (xs : List ℕ) (at v k : ℕ) → (at ≤ k → k < at + n → ⊥) → get_or (put n xs at v) k 0 ≡ get_or xs k 0
unfolding put
other zero xs at v k outside = refl
other (suc n) xs at v k outside =
    other n (set xs at (v % 256)) (at + 1) (v / 256) k (λ p q. outside (omega arith) (omega arith))
    ∙ get_or-set_other xs at k (v % 256) 0 (λ e. outside (omega arith) (omega arith))

-- what is put is read back
pub back : (n : ℕ) (xs : List ℕ) (at v : ℕ) → at + n ≤ length xs → v < 256 ^ n → number n (put n xs at v) at ≡ v
unfolding number put
back zero xs at v room fits = omega arith
back (suc n) xs at v room fits =
    let first : get_or (put n (set xs at (v % 256)) (at + 1) (v / 256)) at 0 ≡ v % 256 = other n (set xs at (v % 256)) (at + 1) (v / 256) at (λ p q. omega arith) ∙ get_or-set_same xs at (v % 256) 0 (omega arith) in
    let rest : number n (put n (set xs at (v % 256)) (at + 1) (v / 256)) (at + 1) ≡ v / 256 = back n (set xs at (v % 256)) (at + 1) (v / 256) (rw length-set (omega arith)) (omega arith) in
    rw (first, rest) (omega arith)

-- a number elsewhere reads as it did
pub same : (n : ℕ) (xs ys : List ℕ) (at : ℕ) → ((k : ℕ) → at ≤ k → k < at + n → get_or ys k 0 ≡ get_or xs k 0) → number n ys at ≡ number n xs at
unfolding number
same zero xs ys at h = refl
same (suc n) xs ys at h = rw (h at (omega arith) (omega arith), same n xs ys (at + 1) (λ k l g. h k (omega arith) (omega arith)))

-- of zeros: 0
pub zeros : (n k : ℕ) → get_or {A = ℕ} (replicate n 0) k 0 ≡ 0
zeros zero k = refl
zeros (suc n) zero = refl
zeros (suc n) (suc k) = zeros n k

pub of_zeros : (n octets at : ℕ) → number n (replicate octets 0) at ≡ 0
unfolding number
of_zeros zero octets at = refl
of_zeros (suc n) octets at = rw (zeros octets at, of_zeros n octets (at + 1))
