-- The order by rank, the lower or the higher one first, and of equal ranks by number: of any two different circuits exactly one goes before the other.
-- Assumes nothing.
use mathlib.Core.Path.{◌≡◌, refl, sym, ◌∙◌}
use mathlib.Core.Bool.{Bool, true, false, cond, ◌&&◌, ◌||◌}
use mathlib.Core.List.{List}
use Prim.Native.Nat.{ℕ, ◌<◌, ◌≤◌}
use native.Mathlib.Omega.{arith}
use lib.Dec.{T, eqb, leb, ltb, eqb→eq, leb→le, ltb→lt, lt→ltb, nltb→le, not_T}
use borrow.Author.Tests.{eqb-true, eqb-false, eq-eqb, leb-true, leb-false, le-leb}
use Rattle.circuit.proofs.Every.{left, right, both}
use Rattle.layout.specs.Layout.{rank_at}
use Rattle.select.specs.Way.{Best}
use Rattle.select.proofs.First.{Order}
use Rattle.select.specs.Selection.{ours, earlier, stops}

-- a rank goes before another: of our own the lower one, of theirs the higher one
abbrev pub before : (own : Bool) → (a b : ℕ) → Bool
before own a b = cond own (ltb a b) (ltb b a)

-- by rank, and of equal ranks by number
abbrev pub ahead : (lt : ℕ → ℕ → Bool) → (a b i j : ℕ) → Bool
ahead lt a b i j = lt a b || (eqb a b && leb i j)

abbrev pub goes : (own : Bool) → List ℕ → (i j : ℕ) → Bool
goes own table i j = ahead (before own) (rank_at table i) (rank_at table j) i j

-- this is an order, whichever way the ranks go
pub record Strict (lt : ℕ → ℕ → Bool) : Type 0 where
  pub never : (a : ℕ) → T (lt a a) → ⊥
  pub through : (a b c : ℕ) → T (lt a b) → T (lt b c) → T (lt a c)
  pub either : (a b : ℕ) → (T (lt a b) → ⊥) → (a ≡ b → ⊥) → T (lt b a)

pub strict : (own : Bool) → Strict (before own)
strict true =
    record {
      never = λ a t. omega (arith, ltb→lt a a t);
      through = λ a b c s t. lt→ltb a c (omega (arith, ltb→lt a b s, ltb→lt b c t));
      either = λ a b n d. lt→ltb b a (omega (arith, d, nltb→le a b (not_T (ltb a b) n)));
    }
strict false =
    record {
      never = λ a t. omega (arith, ltb→lt a a t);
      through = λ a b c s t. lt→ltb c a (omega (arith, ltb→lt b a s, ltb→lt c b t));
      either = λ a b n d. lt→ltb a b (omega (arith, d, nltb→le b a (not_T (ltb b a) n)));
    }

pub data Ahead (lt : ℕ → ℕ → Bool) (a b i j : ℕ) : Type 0 where
  by_rank : T (lt a b) → Ahead lt a b i j
  by_number : a ≡ b → i ≤ j → Ahead lt a b i j

pub view : (lt : ℕ → ℕ → Bool) (a b i j : ℕ) → T (ahead lt a b i j) → Ahead lt a b i j
view lt a b i j t = go (lt a b) refl t
  where
    go : (p : Bool) → lt a b ≡ p → T (p || (eqb a b && leb i j)) → Ahead lt a b i j
    go true e t = by_rank (rw e tt)
    go false e t = by_number (eqb→eq a b (left (eqb a b) _ t)) (leb→le i j (right (eqb a b) _ t))

pub ahead_is : (lt : ℕ → ℕ → Bool) (a b i j : ℕ) → Ahead lt a b i j → T (ahead lt a b i j)
ahead_is lt a b i j (by_rank t) = go (lt a b) t
  where
    go : (p : Bool) → T p → T (p || (eqb a b && leb i j))
    go true t = tt
    go false t = absurd t
ahead_is lt a b i j (by_number e h) = go (lt a b)
  where
    go : (p : Bool) → T (p || (eqb a b && leb i j))
    go true = tt
    go false = both (eqb a b) _ (rw (eq-eqb a b e) tt) (rw (le-leb i j h) tt)

module _ {lt : ℕ → ℕ → Bool} (s : Strict lt) (rank : ℕ → ℕ) where
  abbrev by : ℕ → ℕ → Bool
  by i j = ahead lt (rank i) (rank j) i j

  seen : (i j : ℕ) → T (by i j) → Ahead lt (rank i) (rank j) i j
  seen i j t = view lt (rank i) (rank j) i j t

  is : (i j : ℕ) → Ahead lt (rank i) (rank j) i j → T (by i j)
  is i j a = ahead_is lt (rank i) (rank j) i j a

  ordered : Order by
  ordered = record { same = λ i. is i i (by_number refl (omega arith)); through = λ i j k p q. is i k (through i j k (seen i j p) (seen j k q)); either = either; once = λ i j p q. once i j (seen i j p) (seen j i q) }
    where
      through : (i j k : ℕ) → Ahead lt (rank i) (rank j) i j → Ahead lt (rank j) (rank k) j k → Ahead lt (rank i) (rank k) i k
      through i j k (by_rank p) (by_rank q) = by_rank (s.through (rank i) (rank j) (rank k) p q)
      through i j k (by_rank p) (by_number e h) = by_rank (rw (← e) p)
      through i j k (by_number e h) (by_rank q) = by_rank (rw e q)
      through i j k (by_number e h) (by_number d g) = by_number (e ∙ d) (omega arith)

      either : (i j : ℕ) → (T (by i j) → ⊥) → T (by j i)
      either i j n = go (eqb (rank i) (rank j)) refl (leb i j) refl
        where
          go : (a : Bool) → eqb (rank i) (rank j) ≡ a → (b : Bool) → leb i j ≡ b → T (by j i)
          go true e true d = absurd (n (is i j (by_number (eqb-true _ _ e) (leb-true i j d))))
          go true e false d = let h : j < i = leb-false i j d in is j i (by_number (sym (eqb-true _ _ e)) (omega arith))
          go false e b d = is j i (by_rank (s.either (rank i) (rank j) (λ t. n (is i j (by_rank t))) (eqb-false _ _ e)))

      once : (i j : ℕ) → Ahead lt (rank i) (rank j) i j → Ahead lt (rank j) (rank i) j i → i ≡ j
      once i j (by_rank p) (by_rank q) = absurd (s.never (rank i) (s.through (rank i) (rank j) (rank i) p q))
      once i j (by_rank p) (by_number e h) = absurd (s.never (rank i) (rw e at p))
      once i j (by_number e h) (by_rank q) = absurd (s.never (rank j) (rw e at q))
      once i j (by_number e h) (by_number d g) = omega arith

pub order : (own : Bool) (table : List ℕ) → Order (goes own table)
order own table = ordered (strict own) (rank_at table)

-- of two circuits the one of lower number goes first, unless the other's rank goes before
pub lower_first : (own : Bool) (table : List ℕ) (c i : ℕ) → c < i → (T (before own (rank_at table i) (rank_at table c)) → ⊥) → T (goes own table c i)
lower_first own table c i h n = (order own table).either i c (λ t. go (view (before own) (rank_at table i) (rank_at table c) i c t))
  where
    go : Ahead (before own) (rank_at table i) (rank_at table c) i c → ⊥
    go (by_rank t) = n t
    go (by_number e l) = omega arith

-- of ours, the first that is unused goes before all others
module _ (mine : ℕ → Bool) (table : List ℕ) (n i : ℕ) (h : i < n) (here : T (stops mine table i)) (before : (j : ℕ) → j < i → T (stops mine table j) → ⊥) where
  unused : rank_at table i ≡ 0
  unused = eqb→eq _ _ (right (ours mine table i) _ here)

  pub first_unused : Best (ours mine table) (earlier table) n i
  first_unused = record { below = h; is = left (ours mine table i) _ here; goes_first = λ j l t. go j t (eqb (rank_at table j) 0) refl }
    where
      to : (j : ℕ) → Ahead ltb (rank_at table i) (rank_at table j) i j → T (earlier table i j)
      to j a = ahead_is ltb (rank_at table i) (rank_at table j) i j a

      tied : (j : ℕ) → T (ours mine table j) → rank_at table j ≡ 0 → (b : Bool) → leb i j ≡ b → T (earlier table i j)
      tied j t e true d = to j (by_number (unused ∙ sym e) (leb-true i j d))
      tied j t e false d = absurd (before j (leb-false i j d) (both (ours mine table j) _ t (rw e tt)))

      go : (j : ℕ) → T (ours mine table j) → (b : Bool) → eqb (rank_at table j) 0 ≡ b → T (earlier table i j)
      go j t true e = tied j t (eqb-true _ _ e) (leb i j) refl
      go j t false e = let q : rank_at table j ≡ 0 → ⊥ = eqb-false _ _ e in to j (by_rank (lt→ltb (rank_at table i) (rank_at table j) (omega (arith, unused))))
