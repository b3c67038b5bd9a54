-- The first number below n that passes a test, and whether there is one; of those that pass, the one that goes before all of them.
-- Assumes nothing.
use mathlib.Core.Path.{◌≡◌, refl}
use mathlib.Core.Bool.{Bool, true, false, cond}
use Prim.Native.Nat.{ℕ, zero, suc, ◌<◌, ◌≤◌}
use native.Mathlib.Omega.{arith}
use lib.Dec.{T, ltb}
use borrow.Author.Tests.{ltb-true, ltb-false}
use Rattle.circuit.specs.Every.{implies, each_below}
use Rattle.circuit.proofs.Every.{left, right, both, then, given, at_below, each_of}
use Rattle.select.specs.First.{first, some, is_best, best}
use Rattle.select.specs.Way.{Best}

pub first_holds : (n : ℕ) (f : ℕ → Bool) → first n f < n → T (f (first n f))
unfolding first
first_holds zero f h = absurd (omega arith)
first_holds (suc n) f h = go (f zero) refl h (first_holds n (λ k. f (suc k)))
  where
    m : ℕ
    m = first n (λ k. f (suc k))

    go : (b : Bool) → f zero ≡ b → cond b zero (suc m) < suc n → (m < n → T (f (suc m))) → T (f (cond b zero (suc m)))
    go true e h rest = rw e tt
    go false e h rest = rest (omega arith)

pub first_not : (n : ℕ) (f : ℕ → Bool) (j : ℕ) → j < first n f → T (f j) → ⊥
unfolding first
first_not zero f j h t = omega arith
first_not (suc n) f j h t = go (f zero) refl j h t (first_not n (λ k. f (suc k)))
  where
    m : ℕ
    m = first n (λ k. f (suc k))

    go : (b : Bool) → f zero ≡ b → (j : ℕ) → j < cond b zero (suc m) → T (f j) → ((j : ℕ) → j < m → T (f (suc j)) → ⊥) → ⊥
    go true e j h t rest = omega arith
    go false e zero h t rest = rw e at t
    go false e (suc j) h t rest = rest j (omega arith) t

-- tests that are the same below n have the same first
pub first_same : (n : ℕ) (f g : ℕ → Bool) → ((j : ℕ) → j < n → f j ≡ g j) → first n f ≡ first n g
unfolding first
first_same zero f g h = refl
first_same (suc n) f g h = rw (h zero (omega arith), first_same n (λ k. f (suc k)) (λ k. g (suc k)) (λ k l. h (suc k) (omega arith)))

-- one that passes, where none before it does
pub first_at : (n : ℕ) (f : ℕ → Bool) (i : ℕ) → i < n → T (f i) → ((j : ℕ) → j < i → T (f j) → ⊥) → first n f ≡ i
first_at n f i h t before = go (ltb (first n f) i) refl (ltb i (first n f)) refl
  where
    go : (a : Bool) → ltb (first n f) i ≡ a → (b : Bool) → ltb i (first n f) ≡ b → first n f ≡ i
    go true e b d = let l : first n f < i = ltb-true _ _ e in absurd (before (first n f) l (first_holds n f (omega arith)))
    go false e true d = absurd (first_not n f i (ltb-true _ _ d) t)
    go false e false d = let p : i ≤ first n f = ltb-false _ _ e in let q : first n f ≤ i = ltb-false _ _ d in omega arith

pub some_at : (n : ℕ) (f : ℕ → Bool) (i : ℕ) → i < n → T (f i) → some n f ≡ true
some_at n f i h t = go (ltb (first n f) n) refl
  where
    go : (b : Bool) → ltb (first n f) n ≡ b → b ≡ true
    go true e = refl
    go false e = let l : n ≤ first n f = ltb-false _ _ e in absurd (first_not n f i (omega arith) t)

pub none_of : (n : ℕ) (f : ℕ → Bool) → ((j : ℕ) → j < n → T (f j) → ⊥) → some n f ≡ false
none_of n f none = go (ltb (first n f) n) refl
  where
    go : (b : Bool) → ltb (first n f) n ≡ b → b ≡ false
    go true e = let l : first n f < n = ltb-true _ _ e in absurd (none (first n f) l (first_holds n f l))
    go false e = refl

pub none_at : (n : ℕ) (f : ℕ → Bool) → some n f ≡ false → (j : ℕ) → j < n → T (f j) → ⊥
none_at n f e j h t = let l : n ≤ first n f = ltb-false _ _ e in first_not n f j (omega arith) t

-- an order of numbers, by which of two different ones exactly one goes before the other
pub record Order (goes : ℕ → ℕ → Bool) : Type 0 where
  pub same : (i : ℕ) → T (goes i i)
  pub through : (i j k : ℕ) → T (goes i j) → T (goes j k) → T (goes i k)
  pub either : (i j : ℕ) → (T (goes i j) → ⊥) → T (goes j i)
  pub once : (i j : ℕ) → T (goes i j) → T (goes j i) → i ≡ j

-- of the first n, none passes or one is the best
data Sought (among : ℕ → Bool) (goes : ℕ → ℕ → Bool) (n : ℕ) : Type 0 where
  nothing : ((j : ℕ) → j < n → T (among j) → ⊥) → Sought among goes n
  found : (b : ℕ) → Best among goes n b → Sought among goes n

pub with_last : (n : ℕ) (P : ℕ → Type 0) → ((j : ℕ) → j < n → P j) → P n → (j : ℕ) → j < suc n → P j
with_last n P below last j h = go (ltb j n) refl
  where
    go : (b : Bool) → ltb j n ≡ b → P j
    go true e = below j (ltb-true j n e)
    go false e = let l : n ≤ j = ltb-false j n e in let q : j ≡ n = omega arith in rw q last

module _ {among : ℕ → Bool} {goes : ℕ → ℕ → Bool} (o : Order goes) where
  -- a best one is the best
  pub the_best : {n b : ℕ} → Best among goes n b → best n among goes ≡ b
  the_best {n} {b} w =
      first_at n (is_best n among goes) b w.below
      (both (among b) _ w.is (each_of n (λ j. implies (among j) (goes b j)) (λ j h. given (among j) (goes b j) (w.goes_first j h))))
      (λ j h t. other j h (left (among j) _ t) (right (among j) _ t))
    where
      other : (j : ℕ) → j < b → T (among j) → T (each_below n (λ k. implies (among k) (goes j k))) → ⊥
      other j h t all =
          let l : b < n = w.below in
          let e : j ≡ b = o.once j b (then (among b) (goes j b) (at_below n (λ k. implies (among k) (goes j k)) all b l) w.is) (w.goes_first j (omega arith) t) in
          omega arith

  -- one more: it is the first of them, or it goes before the best so far, or that one stays
  pub starts : {n : ℕ} → ((j : ℕ) → j < n → T (among j) → ⊥) → T (among n) → Best among goes (suc n) n
  starts {n} none t =
      record { below = omega arith; is = t; goes_first = with_last n (λ j. T (among j) → T (goes n j)) (λ j h s. absurd (none j h s)) (λ s. o.same n) }

  pub takes : {n b : ℕ} → Best among goes n b → T (among n) → T (goes n b) → Best among goes (suc n) n
  takes {n} {b} w t g =
      record { below = omega arith; is = t; goes_first = with_last n (λ j. T (among j) → T (goes n j)) (λ j h s. o.through n b j g (w.goes_first j h s)) (λ s. o.same n) }

  pub stays : {n b : ℕ} → Best among goes n b → (T (among n) → T (goes b n)) → Best among goes (suc n) b
  stays {n} {b} w g =
      let l : b < n = w.below in
      record { below = omega arith; is = w.is; goes_first = with_last n (λ j. T (among j) → T (goes b j)) w.goes_first g }

  -- where one passes there is a best one
  best_of : (n : ℕ) → Sought among goes n
  best_of zero = nothing (λ j h t. omega arith)
  best_of (suc n) = go (best_of n) (among n) refl
    where
      against : (b : ℕ) → Best among goes n b → T (among n) → (g : Bool) → goes n b ≡ g → Sought among goes (suc n)
      against b w t true e = found n (takes w t (rw e tt))
      against b w t false e = found b (stays w (λ s. o.either n b (λ g. rw e at g)))

      go : Sought among goes n → (p : Bool) → among n ≡ p → Sought among goes (suc n)
      go (nothing none) true e = found n (starts none (rw e tt))
      go (nothing none) false e = nothing (with_last n (λ j. T (among j) → ⊥) none (λ t. rw e at t))
      go (found b w) true e = against b w (rw e tt) (goes n b) refl
      go (found b w) false e = found b (stays w (λ t. absurd (rw e at t)))

  pub is_the_best : (n : ℕ) → some n among ≡ true → Best among goes n (best n among goes)
  is_the_best n e = go (best_of n)
    where
      go : Sought among goes n → Best among goes n (best n among goes)
      go (nothing none) = let l : first n among < n = ltb-true _ _ e in absurd (none (first n among) l (first_holds n among l))
      go (found b w) = rw (the_best w) w
