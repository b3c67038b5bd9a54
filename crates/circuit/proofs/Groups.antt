-- Laws of groups: what a group that is taken has, and that exactly one of two ends controls a circuit.
-- Assumes nothing.
use mathlib.Core.Path.{◌≡◌, refl, sym, subst}
use mathlib.Core.Bool.{Bool, true, false, not, ◌||◌}
use Prim.Native.Nat.{ℕ, zero, suc, ◌%◌, ◌<◌, ◌≤◌}
use native.Mathlib.Omega.{arith}
use lib.Dec.{T, eqb, ltb}
use borrow.Author.Tests.{ltb-true, ltb-false, lt-ltb, le-ltb, eqb-false, ne_eqb}
use Rattle.circuit.specs.Groups.{bad_code, bad_group, controls}

-- four tests, none of which holds
pub none : (a b c d : Bool) → (a || b || c || d) ≡ false → (a ≡ false) × (b ≡ false) × (c ≡ false) × (d ≡ false)
none true b c d e = absurd (subst T e tt)
none false true c d e = absurd (subst T e tt)
none false false true d e = absurd (subst T e tt)
none false false false d e = (refl, refl, refl, e)

pub all_false : (a b c d : Bool) → a ≡ false → b ≡ false → c ≡ false → d ≡ false → (a || b || c || d) ≡ false
all_false a b c d p q r s = rw (p, q, r, s)

-- a group that is taken has at most 4096 records
pub at_most4096 : (own far records : ℕ) → bad_group own far records ≡ false → records ≤ 4096
at_most4096 own far records e = go (eqb records 0) (none (bad_code own) (bad_code far) (eqb own far) _ e).3
  where
    go : (b : Bool) → (b || ltb 4096 records) ≡ false → records ≤ 4096
    go true d = absurd (subst T d tt)
    go false d = ltb-false 4096 records d

-- a group that is taken has two codes in range
pub in_range : (own far records : ℕ) → bad_group own far records ≡ false → (own < 16384) × (far < 16384)
in_range own far records e =
    let n = none (bad_code own) (bad_code far) (eqb own far) (eqb records 0 || ltb 4096 records) e in
    let a : own ≤ 16383 = ltb-false _ _ n.0 in
    let b : far ≤ 16383 = ltb-false _ _ n.1 in
    (omega arith, omega arith)

-- and is one from the other end too, with any number of records that a group may have
pub turned : (own far records theirs : ℕ) → bad_group own far records ≡ false → (eqb theirs 0 || ltb 4096 theirs) ≡ false → bad_group far own theirs ≡ false
turned own far records theirs e m = all_false (bad_code far) (bad_code own) (eqb far own) (eqb theirs 0 || ltb 4096 theirs) n.1 n.0 other m
  where
    n : (bad_code own ≡ false) × (bad_code far ≡ false) × (eqb own far ≡ false) × ((eqb records 0 || ltb 4096 records) ≡ false)
    n = none (bad_code own) (bad_code far) (eqb own far) (eqb records 0 || ltb 4096 records) e

    other : eqb far own ≡ false
    other = ne_eqb far own (λ p. eqb-false own far n.2 (sym p))

-- its number of records is one that a group may have
pub records_fit : (own far records : ℕ) → bad_group own far records ≡ false → (eqb records 0 || ltb 4096 records) ≡ false
records_fit own far records e = (none (bad_code own) (bad_code far) (eqb own far) (eqb records 0 || ltb 4096 records) e).3

parity : (m : ℕ) → m < 2 → eqb m 1 ≡ not (eqb m 0)
parity zero h = refl
parity (suc zero) h = refl
parity (suc (suc m)) h = absurd (omega arith)

parity' : (m : ℕ) → m < 2 → eqb m 0 ≡ not (eqb m 1)
parity' zero h = refl
parity' (suc zero) h = refl
parity' (suc (suc m)) h = absurd (omega arith)

-- of two different codes exactly one controls, whatever the circuit
pub one_controls : (own far cic : ℕ) → (own ≡ far → ⊥) → controls far own cic ≡ not (controls own far cic)
one_controls own far cic different = go (ltb far own) refl
  where
    go : (higher : Bool) → ltb far own ≡ higher → controls far own cic ≡ not (controls own far cic)
    go true e = let h : far < own = ltb-true _ _ e in simp (e, le-ltb own far (omega arith)) (parity (cic % 2) (omega arith))
    go false e = let h : own ≤ far = ltb-false _ _ e in simp (e, lt-ltb own far (omega arith)) (parity' (cic % 2) (omega arith))
