-- Address signals in the octets of an IAM: where each lies, and what the loop that reads them has read.
-- Assumes nothing.
use mathlib.Core.Path.{◌≡◌, refl, sym, ap, ◌∙◌}
use mathlib.Core.Bool.{cond}
use mathlib.Core.List.{List, [], ◌∷◌}
use Prim.Native.Nat.{ℕ, zero, suc, ◌+◌, ◌*◌, ◌-◌, ◌/◌, ◌%◌, ◌<◌, ◌≤◌}
use native.Mathlib.Nat.{zero-add}
use native.Mathlib.Numerals.{add-one}
use native.Mathlib.Omega.{arith}
use lib.Dec.{eqb}
use lib.ListN.{length, get_or, take, drop, set, length-drop}
use lib.Seq.{get_or-drop, paste, paste-suc, length-take-le}
use Rattle.formats.specs.Way.{halves}
use Rattle.words.specs.Octets.{over}
use Rattle.formats.specs.Messages.{half}
use Rattle.reader.specs.Told.{no_codes}

-- which half of which octet a signal is
pub half_at : (os : List ℕ) (i : ℕ) → i / 2 < length os
    → get_or (halves os) i 0 ≡ cond (eqb (i % 2) 0) (get_or os (i / 2) 0 % 16) (get_or os (i / 2) 0 / 16)
half_at [] i h = absurd (omega arith)
half_at (o ∷ os) zero h = refl
half_at (o ∷ os) (suc zero) h = refl
half_at (o ∷ os) (suc (suc i)) h =
    let d : suc (suc i) / 2 ≡ suc (i / 2) = omega arith in
    let m : suc (suc i) % 2 ≡ i % 2 = omega arith in
    rw (d, m) (half_at os i (omega arith))

pub length_halves : (os : List ℕ) → length (halves os) ≡ 2 * length os
length_halves [] = refl
length_halves (o ∷ os) = let e = length_halves os in omega arith

-- the loop that reads an IAM's address signals reads one more
pub reads : (xs : List ℕ) (i : ℕ) → i < 15 → 9 + i / 2 < length xs → (codes : List ℕ) (code : ℕ)
    → code ≡ cond (eqb (i % 2) 0) (get_or xs (9 + i / 2) 0 % 16) (get_or xs (9 + i / 2) 0 / 16) → codes ≡ paste no_codes 0 (halves (drop 9 xs)) i
    → set codes i code ≡ paste no_codes 0 (halves (drop 9 xs)) (i + 1)
reads xs i few h codes code e p =
    let os : List ℕ = drop 9 xs in
    let l : length (drop 9 xs) ≡ length xs - 9 = length-drop 9 xs in
    let at : get_or os (i / 2) 0 ≡ get_or xs (9 + i / 2) 0 = get_or-drop 9 xs (i / 2) 0 in
    let f : get_or (halves os) i 0 ≡ code = half_at os i (omega arith) ∙ ap (λ (o : ℕ). cond (eqb (i % 2) 0) (o % 16) (o / 16)) at ∙ sym e in
    ap (λ (l : List ℕ). set l i code) p ∙ ap (set (paste no_codes 0 (halves os) i) i) (sym f)
    ∙ ap (λ (k : ℕ). set (paste no_codes 0 (halves os) i) k (get_or (halves os) i 0)) (sym (zero-add i))
    ∙ paste-suc no_codes 0 (halves os) i 0 (rw (zero-add i) few) (omega (arith, length_halves os))
    ∙ ap (paste no_codes 0 (halves os)) (sym (add-one i))

-- or the two of an octet, where it has read an even number of them
pub reads_two : (xs : List ℕ) (i : ℕ) → i % 2 ≡ 0 → i + 1 < 15 → 9 + i / 2 < length xs → (codes : List ℕ) (earlier later : ℕ)
    → earlier ≡ cond (eqb (i % 2) 0) (get_or xs (9 + i / 2) 0 % 16) (get_or xs (9 + i / 2) 0 / 16)
    → later ≡ cond (eqb ((i + 1) % 2) 0) (get_or xs (9 + i / 2) 0 % 16) (get_or xs (9 + i / 2) 0 / 16)
    → codes ≡ paste no_codes 0 (halves (drop 9 xs)) i
    → set (set codes i earlier) (i + 1) later ≡ paste no_codes 0 (halves (drop 9 xs)) (i + 2)
reads_two xs i even few h codes earlier later e l p =
    let same : (i + 1) / 2 ≡ i / 2 = omega (arith, even) in
    let two : i + 1 + 1 ≡ i + 2 = omega arith in
    reads xs (i + 1) few (rw same h) (set codes i earlier) later (rw same l) (reads xs i (omega arith) h codes earlier e p)
    ∙ ap (paste no_codes 0 (halves (drop 9 xs))) two

-- and when it has read them all
pub read_all : (xs : List ℕ) (n i : ℕ) → 9 + half n ≤ length xs → i ≤ n → n ≤ i → (codes : List ℕ) → codes ≡ paste no_codes 0 (halves (drop 9 xs)) i
    → codes ≡ over (take n (halves (drop 9 xs))) no_codes
read_all xs n i h a b codes p =
    let same : i ≡ n = omega arith in
    let l : length (drop 9 xs) ≡ length xs - 9 = length-drop 9 xs in
    p ∙ ap (paste no_codes 0 (halves (drop 9 xs))) same
    ∙ rw (length-take-le n (halves (drop 9 xs)) (omega (arith, length_halves (drop 9 xs))), zero-add n)
