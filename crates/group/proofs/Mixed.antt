-- Two batches in which each circuit has the same events in the same order: one comes of the other by exchanging neighbours of different circuits. A
-- batch with at most one event a circuit comes so in any order.
-- Assumes nothing.
use mathlib.Core.Path.{◌≡◌, refl, sym, ap, ◌∙◌, subst}
use mathlib.Core.Bool.{Bool, true, false, cond}
use mathlib.Core.List.Permᴰ
use mathlib.Core.List.{List, [], ◌∷◌, ◌++◌, cons-ne-nil}
use Prim.Native.Nat.{ℕ, ◌≤◌}
use lib.Dec.{eqb}
use lib.ListN.{length, get_or, drop}
use borrow.Author.Tests.{eqb-true, eqb-false}
use Rattle.group.specs.Batches.{Handed, only, events_of, OnceEach, Rearranged}
use Rattle.group.proofs.Batches.{Spares, takes, once_behind, apart}

pub data Mixed : List Handed → List Handed → Type 0 where
  none : Mixed [] []
  behind : {xs ys : List Handed} (x : Handed) → Mixed xs ys → Mixed (x ∷ xs) (x ∷ ys)
  exchanged : (x y : Handed) (xs : List Handed) → (x.cic ≡ y.cic → ⊥) → Mixed (x ∷ y ∷ xs) (y ∷ x ∷ xs)
  twice : {xs ys zs : List Handed} → Mixed xs ys → Mixed ys zs → Mixed xs zs

-- each circuit has the same events
in_turn : (i : ℕ) (x y : Handed) (xs : List Handed) → (x.cic ≡ y.cic → ⊥) → events_of i (x ∷ y ∷ xs) ≡ events_of i (y ∷ x ∷ xs)
unfolding only
in_turn i x y xs other = go (eqb x.cic i) (eqb y.cic i) refl refl
  where
    go : (a b : Bool) → eqb x.cic i ≡ a → eqb y.cic i ≡ b
        → cond a (x ∷ cond b (y ∷ events_of i xs) (events_of i xs)) (cond b (y ∷ events_of i xs) (events_of i xs))
        ≡ cond b (y ∷ cond a (x ∷ events_of i xs) (events_of i xs)) (cond a (x ∷ events_of i xs) (events_of i xs))
    go true true p q = absurd (other (eqb-true x.cic i p ∙ sym (eqb-true y.cic i q)))
    go true false p q = refl
    go false b p q = refl

pub same_each : (i : ℕ) {xs ys : List Handed} → Mixed xs ys → events_of i xs ≡ events_of i ys
unfolding only
same_each i none = refl
same_each i (behind x m) = let k = same_each i m in λ j. cond (eqb x.cic i) (x ∷ k j) (k j)
same_each i (exchanged x y xs other) = in_turn i x y xs other
same_each i (twice m n) = same_each i m ∙ same_each i n

-- an event goes back behind some that are not for its circuit
unmoved : (xs : List Handed) → Mixed xs xs
unmoved [] = none
unmoved (x ∷ xs) = behind x (unmoved xs)

goes_back : (x : Handed) (earlier later : List Handed) → Spares x.cic earlier → Mixed (x ∷ (earlier ++ later)) (earlier ++ (x ∷ later))
goes_back x [] later s = unmoved (x ∷ later)
goes_back x (y ∷ earlier) later s = twice (exchanged x y (earlier ++ later) s.0) (behind y (goes_back x earlier later s.1))

-- where a circuit's first event stands
record Place (x : Handed) (ys : List Handed) : Type 0 where
  earlier : List Handed
  later : List Handed
  is : earlier ++ (x ∷ later) ≡ ys
  spares : Spares x.cic earlier

find : (x : Handed) (others ys : List Handed) → events_of x.cic ys ≡ x ∷ others → Place x ys
unfolding only
find x others [] e = absurd (cons-ne-nil x others (sym e))
find x others (y ∷ ys) e = go (eqb y.cic x.cic) refl e (find x others ys)
  where
    go : (b : Bool) → eqb y.cic x.cic ≡ b → cond b (y ∷ events_of x.cic ys) (events_of x.cic ys) ≡ x ∷ others
        → (events_of x.cic ys ≡ x ∷ others → Place x ys) → Place x (y ∷ ys)
    go true p q more = record { earlier = []; later = ys; is = λ j. get_or (sym q j) 0 x ∷ ys; spares = tt }
    go false p q more = let k : Place x ys = more q in record { earlier = y ∷ k.earlier; later = k.later; is = λ j. y ∷ k.is j; spares = (λ z. eqb-false y.cic x.cic p (sym z), k.spares) }

-- a first event that both have does not matter
cancelled : (i : ℕ) (x : Handed) (xs ys : List Handed) → events_of i (x ∷ xs) ≡ events_of i (x ∷ ys) → events_of i xs ≡ events_of i ys
unfolding only
cancelled i x xs ys = go (eqb x.cic i)
  where
    go : (b : Bool) → cond b (x ∷ events_of i xs) (events_of i xs) ≡ cond b (x ∷ events_of i ys) (events_of i ys) → events_of i xs ≡ events_of i ys
    go true q = ap (drop 1) q
    go false q = q

pub mixed : (xs ys : List Handed) → ((i : ℕ) → events_of i xs ≡ events_of i ys) → Mixed xs ys
unfolding only
mixed [] [] same = none
mixed [] (y ∷ ys) same = absurd (cons-ne-nil y (events_of y.cic ys) (sym (takes (λ (x : Handed). x.cic) y.cic y ys refl) ∙ sym (same y.cic)))
mixed (x ∷ xs) ys same =
    let p : Place x ys = find x (events_of x.cic xs) ys (sym (same x.cic) ∙ takes (λ (x : Handed). x.cic) x.cic x xs refl) in
    let back : Mixed (x ∷ (p.earlier ++ p.later)) ys = subst (Mixed (x ∷ (p.earlier ++ p.later))) p.is (goes_back x p.earlier p.later p.spares) in
    twice (behind x (mixed xs (p.earlier ++ p.later) (λ i. cancelled i x xs (p.earlier ++ p.later) (same i ∙ sym (same_each i back))))) back

-- a batch with at most one event a circuit, in any order
pub once_still : {xs ys : List Handed} → Mixed xs ys → OnceEach xs → OnceEach ys
once_still m o i = subst (λ (events : List Handed). length events ≤ 1) (same_each i m) (o i)

pub rearranged : {xs ys : List Handed} → Rearranged xs ys → OnceEach xs → Mixed xs ys
rearranged Permᴰ.nil o = none
rearranged (Permᴰ.cons {a} {l₁ = l₁} {l₂ = l₂} e r) o = subst (λ (x : Handed). Mixed (a ∷ l₁) (x ∷ l₂)) e (behind a (rearranged r (once_behind a l₁ o)))
rearranged (Permᴰ.swap {a} {b} {b' = b'} {l = l} e f) o =
    subst (λ (x : Handed). Mixed (a ∷ b ∷ l) (x ∷ b' ∷ l)) f (subst (λ (x : Handed). Mixed (a ∷ b ∷ l) (b ∷ x ∷ l)) e (exchanged a b l (apart (a ∷ b ∷ l) o).0.0))
rearranged (Permᴰ.trans p q) o = let m = rearranged p o in twice m (rearranged q (once_still m o))
