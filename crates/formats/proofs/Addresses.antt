-- Which addresses are refused, test by test.
-- Assumes nothing.
use mathlib.Core.Path.{◌≡◌, refl, subst}
use mathlib.Core.Bool.{Bool, true, false, ◌||◌}
use mathlib.Core.List.{List}
use Prim.Native.Nat.{ℕ, ◌<◌, ◌≤◌}
use native.Mathlib.Omega.{arith}
use borrow.Author.Tests.{lt-ltb, le-ltb, ltb-false, eq-eqb, ne_eqb, eqb-false}
use lib.Dec.{T, eqb, ltb}
use lib.ListN.{length}
use Rattle.formats.specs.Octets.{bad_codes, bad_address}

-- an address that is in order
pub in_order : (address : List ℕ) → bad_address address ≡ false → (length address ≡ 0 → ⊥) × (length address ≤ 15) × (bad_codes address ≡ false)
unfolding bad_address
in_order address e = go (eqb (length address) 0) refl (ltb 15 (length address)) refl e
  where
    go : (x : Bool) → eqb (length address) 0 ≡ x → (y : Bool) → ltb 15 (length address) ≡ y → (x || y || bad_codes address) ≡ false
        → (length address ≡ 0 → ⊥) × (length address ≤ 15) × (bad_codes address ≡ false)
    go true z y p q = absurd (subst T q tt)
    go false z true p q = absurd (subst T q tt)
    go false z false p q = (eqb-false (length address) 0 z, ltb-false 15 (length address) p, q)

pub few : (address : List ℕ) → bad_address address ≡ false → length address ≤ 15
few address e = (in_order address e).1

-- the tests of an address
module _ (address : List ℕ) where
  pub no_count : length address ≡ 0 → true ≡ bad_address address
  unfolding bad_address
  no_count e = rw (eq-eqb (length address) 0 e)

  pub high_count : 15 < length address → true ≡ bad_address address
  unfolding bad_address
  high_count h = rw (ne_eqb (length address) 0 (omega arith), lt-ltb 15 (length address) h)

  pub just_codes : (length address ≡ 0 → ⊥) → length address ≤ 15 → bad_codes address ≡ bad_address address
  unfolding bad_address
  just_codes e h = rw (ne_eqb (length address) 0 e, le-ltb 15 (length address) h)
