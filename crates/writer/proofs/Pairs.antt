-- Address signals two to an octet: the octet that two of them make, and what the loop that stores them has stored.
-- Assumes nothing.
use mathlib.Core.Path.{◌≡◌, refl, ap, ◌∙◌}
use mathlib.Core.Bool.{false}
use mathlib.Core.List.{List, [], ◌∷◌}
use Prim.Native.Nat.{ℕ, zero, suc, ◌+◌, ◌-◌, ◌*◌, ◌/◌, ◌%◌, ◌<◌, ◌≤◌}
use native.Mathlib.Omega.{arith}
use borrow.Author.Tests.{ltb-false}
use lib.Dec.{ltb}
use lib.ListN.{length, get_or, set}
use lib.Seq.{paste}
use Rattle.std.proofs.lemmas.List.Edits.{paste_more}
use Rattle.circuit.proofs.Groups.{none}
use Rattle.formats.specs.Octets.{above_fifteen}
use Rattle.formats.specs.Way.{pairs}
use Rattle.formats.specs.Messages.{half}

pub length_pairs : (cs : List ℕ) → length (pairs cs) ≡ half (length cs)
length_pairs [] = refl
length_pairs (a ∷ []) = refl
length_pairs (a ∷ b ∷ cs) = let e = length_pairs cs in omega arith

-- the octet of two signals, and of the last one where their count is odd
pub pair_at : (cs : List ℕ) (j : ℕ) → 2 * j + 1 < length cs → get_or (pairs cs) j 0 ≡ get_or cs (2 * j) 0 + 16 * get_or cs (2 * j + 1) 0
pair_at [] j h = absurd (omega arith)
pair_at (a ∷ []) j h = absurd (omega arith)
pair_at (a ∷ b ∷ cs) zero h = refl
pair_at (a ∷ b ∷ cs) (suc j) h =
    let e : 2 * suc j ≡ suc (suc (2 * j)) = omega arith in
    let f : 2 * suc j + 1 ≡ suc (suc (2 * j + 1)) = omega arith in
    rw (f, e) (pair_at cs j (omega arith))

pub last_at : (cs : List ℕ) (j : ℕ) → 2 * j + 1 ≡ length cs → get_or (pairs cs) j 0 ≡ get_or cs (2 * j) 0
last_at [] j h = absurd (omega arith)
last_at (a ∷ []) zero h = refl
last_at (a ∷ []) (suc j) h = absurd (omega arith)
last_at (a ∷ b ∷ cs) zero h = absurd (omega arith)
last_at (a ∷ b ∷ cs) (suc j) h =
    let e : 2 * suc j ≡ suc (suc (2 * j)) = omega arith in
    rw e (last_at cs j (omega arith))

-- a turn of the loop that stores them, and what follows it
module _ (cs buffer : List ℕ) (room : 9 + half (length cs) ≤ length buffer) (j : ℕ) (now : List ℕ) (is : now ≡ paste buffer 9 (pairs cs) j) where
  pub pairs_more : j < length cs / 2 → set now (9 + j) (get_or cs (2 * j) 0 + 16 * get_or cs (2 * j + 1) 0) ≡ paste buffer 9 (pairs cs) (j + 1)
  pairs_more h =
      rw (is, ← pair_at cs j (omega arith)) (paste_more buffer 9 (pairs cs) j 0 (omega arith) (omega (arith, length_pairs cs)))

  module _ (ends : j ≡ length cs / 2) where
    pub pairs_odd : length cs % 2 ≡ 1 → set now (9 + length cs / 2) (get_or cs (length cs - 1) 0) ≡ paste buffer 9 (pairs cs) (half (length cs))
    pairs_odd o =
        let l : length cs - 1 ≡ 2 * j = omega arith in
        let n : half (length cs) ≡ j + 1 = omega arith in
        rw (n, l, ← ends, is, ← last_at cs j (omega arith)) (paste_more buffer 9 (pairs cs) j 0 (omega arith) (omega (arith, length_pairs cs)))

  pub pairs_even : j ≤ length cs / 2 → length cs / 2 ≤ j → (length cs % 2 ≡ 1 → ⊥) → now ≡ paste buffer 9 (pairs cs) (half (length cs))
  pairs_even a b o = let n : j ≡ half (length cs) = omega arith in is ∙ ap (paste buffer 9 (pairs cs)) n

-- none of the signals is above 15
pub at_most : (s : List ℕ) (i : ℕ) → above_fifteen s ≡ false → i < length s → get_or s i 0 ≤ 15
at_most [] i e h = absurd (omega arith)
at_most (code ∷ rest) zero e h = ltb-false 15 code (none false false (ltb 15 code) (above_fifteen rest) e).2
at_most (code ∷ rest) (suc i) e h = at_most rest i (none false false (ltb 15 code) (above_fifteen rest) e).3 (omega arith)
