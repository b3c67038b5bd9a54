-- Address signals one after the other: whether some is one that a test fits, and where the first such stands.
-- Assumes nothing.
use mathlib.Core.Path.{◌≡◌, refl, sym, ap, ap₂, ◌∙◌}
use mathlib.Core.Bool.{Bool, true, false, cond, ◌||◌, or-true}
use mathlib.Core.List.{List, [], ◌∷◌}
use Prim.Native.Nat.compare
use Prim.Native.Nat.{ℕ, zero, suc, ◌+◌, ◌-◌, ◌<◌, ◌≤◌}
use native.Mathlib.Numerals.{add-one}
use native.Mathlib.Omega.{arith}
use borrow.Author.Tests.{ltb-true, ltb-false, lt-ltb, le-ltb}
use lib.Dec.{ltb, is_le}
use lib.ListN.{length, get_or, drop, length-drop}
use lib.Seq.{drop-cons}
use Rattle.std.specs.Bool.{MatchBool}
use Rattle.std.specs.List.{AllWithin, HoldsAt}
use Rattle.formats.specs.Octets.{some_signal, before_signal, above_fifteen}

-- from a place on: whether more stand behind it, and how many signals stand before the first that a test fits
more : (s : List ℕ) (i : ℕ) → ltb 0 (length (drop (suc i) s)) ≡ ltb (i + 1) (length s)
more s i = ap (ltb 0) (length-drop (suc i) s) ∙ go (ltb (i + 1) (length s)) refl
  where
    go : (b : Bool) → ltb (i + 1) (length s) ≡ b → ltb 0 (length s - suc i) ≡ ltb (i + 1) (length s)
    go true e = let h : i + 1 < length s = ltb-true _ _ e in lt-ltb 0 (length s - suc i) (omega arith) ∙ sym e
    go false e = let h : length s ≤ i + 1 = ltb-false _ _ e in le-ltb 0 (length s - suc i) (omega arith) ∙ sym e

module _ (test : ℕ → Bool → Bool) (s : List ℕ) (i : ℕ) where
  abbrev fitting : Bool → ℕ
  fitting b = cond b 0 (suc (before_signal test (drop (i + 1) s)))

  pub next : i < length s → before_signal test (drop i s) ≡ fitting (test (get_or s i 0) (ltb (i + 1) (length s)))
  next h = rw (drop-cons s i 0 h, more s i, add-one i)

-- signal by signal: no signal is one that the test fits, and none is of those before the first
shifted : (a b : ℕ) → ltb (suc a) (suc b) ≡ ltb a b
shifted a b = ap is_le (compare.suc-suc (suc a) b)

pub none_fits : (test : ℕ → Bool → Bool) (s : List ℕ) → ((j : ℕ) → j < length s → test (get_or s j 0) (ltb (suc j) (length s)) ≡ false) → some_signal test s ≡ false
none_fits test [] h = refl
none_fits test (c ∷ rest) h =
    ap₂ ◌||◌ (ap (test c) (sym (shifted 0 (length rest))) ∙ h 0 (omega arith))
    (none_fits test rest (λ j l. ap (test (get_or rest j 0)) (sym (shifted (suc j) (length rest))) ∙ h (suc j) (omega arith)))

pub none_before : (test : ℕ → Bool → Bool) (s : List ℕ) (j : ℕ) → j < before_signal test s → test (get_or s j 0) (ltb (suc j) (length s)) ≡ false
none_before test [] j l = absurd (omega arith)
none_before test (c ∷ rest) j l = go (none_before test rest) (test c (ltb 0 (length rest))) refl j l
  where
    go : ((j : ℕ) → j < before_signal test rest → test (get_or rest j 0) (ltb (suc j) (length rest)) ≡ false)
        → (b : Bool) → test c (ltb 0 (length rest)) ≡ b → (j : ℕ) → j < cond b 0 (suc (before_signal test rest)) → test (get_or (c ∷ rest) j 0) (ltb (suc j) (suc (length rest))) ≡ false
    go more true e j l = absurd (omega arith)
    go more false e zero l = ap (test c) (shifted 0 (length rest)) ∙ e
    go more false e (suc j) l = ap (test (get_or rest j 0)) (shifted (suc j) (length rest)) ∙ more j (omega arith)

pub some_fits : (test : ℕ → Bool → Bool) (s : List ℕ) (j : ℕ) → j < length s → test (get_or s j 0) (ltb (suc j) (length s)) ≡ true → some_signal test s ≡ true
some_fits test [] j l e = absurd (omega arith)
some_fits test (c ∷ rest) zero l e = ap (λ (b : Bool). b || some_signal test rest) (ap (test c) (sym (shifted 0 (length rest))) ∙ e)
some_fits test (c ∷ rest) (suc j) l e =
    ap (λ (b : Bool). test c (ltb 0 (length rest)) || b) (some_fits test rest j (omega arith) (ap (test (get_or rest j 0)) (sym (shifted (suc j) (length rest))) ∙ e))
    ∙ or-true (test c (ltb 0 (length rest)))

-- some signal is one that fewer than all stand before
pub some_before : (test : ℕ → Bool → Bool) (s : List ℕ) → some_signal test s ≡ ltb (before_signal test s) (length s)
some_before test [] = refl
some_before test (c ∷ rest) = go (test c (ltb 0 (length rest))) (some_before test rest)
  where
    go : (b : Bool) → some_signal test rest ≡ ltb (before_signal test rest) (length rest)
        → (b || some_signal test rest) ≡ ltb (cond b 0 (suc (before_signal test rest))) (suc (length rest))
    go true e = sym (lt-ltb 0 (suc (length rest)) (omega arith))
    go false e = e ∙ sym (shifted (before_signal test rest) (length rest))

-- so where none is, each is none, and where some is, the first is one
pub each_passes : (test : ℕ → Bool → Bool) (s : List ℕ) → some_signal test s ≡ false → (j : ℕ) → j < length s → test (get_or s j 0) (ltb (suc j) (length s)) ≡ false
each_passes test s e j l = let h : length s ≤ before_signal test s = ltb-false _ _ (sym (some_before test s) ∙ e) in none_before test s j (omega arith)

pub first_fits : (test : ℕ → Bool → Bool) (s : List ℕ) → before_signal test s < length s → test (get_or s (before_signal test s) 0) (ltb (suc (before_signal test s)) (length s)) ≡ true
first_fits test [] l = absurd (omega arith)
first_fits test (c ∷ rest) l = go (first_fits test rest) (test c (ltb 0 (length rest))) refl l
  where
    place : Bool → ℕ
    place b = cond b 0 (suc (before_signal test rest))

    go : (before_signal test rest < length rest → test (get_or rest (before_signal test rest) 0) (ltb (suc (before_signal test rest)) (length rest)) ≡ true)
        → (b : Bool) → test c (ltb 0 (length rest)) ≡ b → place b < suc (length rest) → test (get_or (c ∷ rest) (place b) 0) (ltb (suc (place b)) (suc (length rest))) ≡ true
    go more true e l = ap (test c) (shifted 0 (length rest)) ∙ e
    go more false e l = ap (test (get_or rest (before_signal test rest) 0)) (shifted (suc (before_signal test rest)) (length rest)) ∙ more (omega arith)

-- what an `any` over the signals has found
pub above : (s : List ℕ) (r : Bool) → MatchBool r ((k : ℕ) × (k < length s) × HoldsAt (λ (x : ℕ). 15 < x) s k) (AllWithin (λ (x : ℕ). x ≤ 15) s 0 (length s))
    → r ≡ above_fifteen s
above s true (k, l, h) = sym (some_fits (λ code more. ltb 15 code) s k l (lt-ltb _ _ (h 0)))
above s false h = sym (none_fits (λ code more. ltb 15 code) s (λ j l. le-ltb _ _ (h j 0 (omega arith) l)))
