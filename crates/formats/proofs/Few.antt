-- Short international numbers: how many signals are counted, and by what a number is short or not.
-- Assumes nothing.
use mathlib.Core.Path.{◌≡◌, refl, sym, ap, ◌∙◌}
use mathlib.Core.Bool.{Bool, true, false, cond, not, ◌&&◌, ◌||◌, and-true, and-false}
use mathlib.Core.List.{List, [], ◌∷◌}
use Prim.Native.Nat.{ℕ, suc, ◌+◌, ◌%◌, ◌<◌, ◌≤◌, min}
use native.Mathlib.Numerals.{add-one}
use native.Mathlib.Omega.{arith}
use borrow.Author.Tests.{ltb-true, ltb-false, lt-ltb, le-ltb, eq-eqb, ne_eqb}
use lib.Dec.{eqb, ltb}
use lib.ListN.{length, get_or, drop, take}
use lib.Seq.{drop-cons}
use Rattle.std.proofs.lemmas.List.{length-take}
use Rattle.std.specs.List.{filter}
use Rattle.formats.specs.Octets.{international, besides_st, to_operator, short}

-- A LOOP OVER THE SIGNALS

module _ (s : List ℕ) (n i : ℕ) (p : besides_st s ≡ n + besides_st (drop i s)) where
  abbrev one : Bool → ℕ
  one st = cond st (besides_st (drop (i + 1) s)) (suc (besides_st (drop (i + 1) s)))

  next : i < length s → besides_st (drop i s) ≡ one (eqb (get_or s i 0) 15)
  next h = rw (drop-cons s i 0 h, add-one i)

  -- it passes ST, or counts one more
  pub passes_st : i < length s → get_or s i 0 ≡ 15 → besides_st s ≡ n + besides_st (drop (i + 1) s)
  passes_st h e = p ∙ ap (λ (k : ℕ). n + k) (next h ∙ ap one (eq-eqb _ _ e))

  pub counts_one : i < length s → (get_or s i 0 ≡ 15 → ⊥) → besides_st s ≡ n + 1 + besides_st (drop (i + 1) s)
  counts_one h e = let q : besides_st (drop i s) ≡ suc (besides_st (drop (i + 1) s)) = next h ∙ ap one (ne_eqb _ _ e) in omega arith

-- FEWER THAN FOUR

others : (s : List ℕ) → length (filter (λ (x : ℕ). not (eqb x 15)) s) ≡ besides_st s
others [] = refl
others (code ∷ rest) = go (eqb code 15) (others rest)
  where
    go : (st : Bool) → length (filter (λ (x : ℕ). not (eqb x 15)) rest) ≡ besides_st rest
        → length (cond (not st) (code ∷ filter (λ (x : ℕ). not (eqb x 15)) rest) (filter (λ (x : ℕ). not (eqb x 15)) rest)) ≡ cond st (besides_st rest) (suc (besides_st rest))
    go true e = e
    go false e = ap suc e

-- it is enough to look at the first four
first_four : (n : ℕ) → ltb (min 4 n) 4 ≡ ltb n 4
first_four n = go (ltb n 4) refl
  where
    go : (b : Bool) → ltb n 4 ≡ b → ltb (min 4 n) 4 ≡ ltb n 4
    go true e = let h : n < 4 = ltb-true _ _ e in lt-ltb _ _ (omega arith) ∙ sym e
    go false e = let h : 4 ≤ n = ltb-false _ _ e in le-ltb _ _ (omega arith) ∙ sym e

pub four : (s : List ℕ) → ltb (length (take 4 (filter (λ (x : ℕ). not (eqb x 15)) s))) 4 ≡ ltb (besides_st s) 4
four s =
    ap (λ (n : ℕ). ltb n 4) (length-take 4 (filter (λ (x : ℕ). not (eqb x 15)) s))
    ∙ first_four (length (filter (λ (x : ℕ). not (eqb x 15)) s))
    ∙ ap (λ (n : ℕ). ltb n 4) (others s)

-- THE FIRST SIGNAL

pub nobody : (s : List ℕ) → length s ≡ 0 → false ≡ to_operator s
nobody [] e = refl
nobody (code ∷ rest) e = absurd (omega arith)

pub by_eleven : (s : List ℕ) → (length s ≡ 0 → ⊥) → get_or s 0 0 ≡ 11 → true ≡ to_operator s
by_eleven [] some e = absurd (some refl)
by_eleven (code ∷ rest) some e = sym (ap (λ (b : Bool). b || eqb code 12) (eq-eqb _ _ e))

pub by_twelve : (s : List ℕ) → (length s ≡ 0 → ⊥) → (get_or s 0 0 ≡ 11 → ⊥) → eqb (get_or s 0 0) 12 ≡ to_operator s
by_twelve [] some e = absurd (some refl)
by_twelve (code ∷ rest) some e = sym (ap (λ (b : Bool). b || eqb code 12) (ne_eqb _ _ e))

-- WHETHER A NUMBER IS SHORT

module _ (indicators : ℕ) (s : List ℕ) where
  -- by the nature of address alone, by its first signal, or by how many there are
  pub otherwise : (indicators % 4 ≡ 3 → ⊥) → short indicators s ≡ false
  unfolding short
  otherwise h = ap (λ (b : Bool). b && (ltb (besides_st s) 4 && not (to_operator s))) (ne_eqb _ _ h)

  pub exempt : to_operator s ≡ true → short indicators s ≡ false
  unfolding short
  exempt e =
      ap (λ (b : Bool). international indicators && (ltb (besides_st s) 4 && not b)) e ∙ ap (λ (b : Bool). international indicators && b) (and-false (ltb (besides_st s) 4))
      ∙ and-false (international indicators)

  pub by_count : indicators % 4 ≡ 3 → to_operator s ≡ false → ltb (besides_st s) 4 ≡ short indicators s
  unfolding short
  by_count h e =
      sym (ap (λ (b : Bool). international indicators && (ltb (besides_st s) 4 && not b)) e ∙ ap (λ (b : Bool). b && (ltb (besides_st s) 4 && true)) (eq-eqb _ _ h)
      ∙ and-true (ltb (besides_st s) 4))

  pub long_enough : 4 ≤ besides_st s → short indicators s ≡ false
  unfolding short
  long_enough h = ap (λ (b : Bool). international indicators && (b && not (to_operator s))) (le-ltb _ _ h) ∙ and-false (international indicators)

-- BY THE SIGNALS ONE BY ONE

at_most : (s : List ℕ) → besides_st s ≤ length s
at_most [] = omega arith
at_most (code ∷ rest) = go (eqb code 15) (at_most rest)
  where
    go : (st : Bool) → besides_st rest ≤ length rest → cond st (besides_st rest) (suc (besides_st rest)) ≤ suc (length rest)
    go true l = omega arith
    go false l = omega arith

-- where none is ST all are counted
pub none_is_st : (s : List ℕ) → ((j : ℕ) → j < length s → get_or s j 0 ≡ 15 → ⊥) → besides_st s ≡ length s
none_is_st [] h = refl
none_is_st (code ∷ rest) h = ap (λ (st : Bool). cond st (besides_st rest) (suc (besides_st rest))) (ne_eqb code 15 (h 0 (omega arith))) ∙ ap suc (none_is_st rest (λ j l. h (suc j) (omega arith)))

-- two numbers that begin with the same signal and have fewer than four are both short or both not
module _ (indicators : ℕ) where
  by_first : (s : List ℕ) → length s < 4 → short indicators s ≡ (international indicators && not (to_operator s))
  unfolding short
  by_first s l = ap (λ (b : Bool). international indicators && (b && not (to_operator s))) (lt-ltb (besides_st s) 4 (omega (arith, at_most s)))

  pub same_first : (s t : List ℕ) → length s < 4 → length t ≡ length s → get_or t 0 0 ≡ get_or s 0 0 → short indicators t ≡ short indicators s
  same_first s t l n e = by_first t (omega arith) ∙ ap (λ (b : Bool). international indicators && not b) (same s t n e) ∙ sym (by_first s l)
    where
      same : (s t : List ℕ) → length t ≡ length s → get_or t 0 0 ≡ get_or s 0 0 → to_operator t ≡ to_operator s
      same [] [] n e = refl
      same [] (code ∷ rest) n e = absurd (omega arith)
      same (code ∷ rest) [] n e = absurd (omega arith)
      same (code ∷ rest) (code' ∷ rest') n e = ap (λ (c : ℕ). eqb c 11 || eqb c 12) e
