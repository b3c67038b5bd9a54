-- Batches of events (docs/RULES.md, "Two circuits, either order"): each circuit's events answer and leave there what they would by themselves.
-- Assumes nothing.
use mathlib.Core.Path.{◌≡◌, refl, sym, ap, ◌∙◌, subst}
use mathlib.Core.Bool.{Bool, true, false, cond}
use mathlib.Core.List.{List, [], ◌∷◌, map, cons-ne-nil}
use Prim.Native.Nat.{ℕ, ◌≤◌}
use native.Mathlib.Omega.{arith}
use lib.Dec.{eqb}
use lib.ListN.{length}
use borrow.Author.Tests.{eqb-true, eqb-false, eq-eqb, ne_eqb}
use Rattle.layout.specs.Layout.{held_at}
use Rattle.group.specs.Batches.{Handed, Answered, given, after, answered, only, events_of, answers_of, OnceEach, No13}
use Rattle.group.specs.Runs.{Follows}
use Rattle.group.proofs.Meets.{Meets, itself, elsewhere, answers_as, there}

abbrev cic_of : Handed → ℕ
cic_of x = x.cic

abbrev refusal_of : Answered → ℕ
refusal_of a = a.answer.refusal

-- no event of the batch is for circuit i; none is for the circuit of an earlier one; none is refused 13
abbrev pub Spares : ℕ → List Handed → Type 0
Spares i [] = Unit {0}
Spares i (x ∷ xs) = (i ≡ x.cic → ⊥) × Spares i xs

abbrev pub Apart : List Handed → Type 0
Apart [] = Unit {0}
Apart (x ∷ xs) = Spares x.cic xs × Apart xs

abbrev pub Never13 : List Answered → Type 0
Never13 [] = Unit {0}
Never13 (a ∷ told) = (a.answer.refusal ≡ 13 → ⊥) × Never13 told

-- one of a list that has the number, or has not
module _ {A : Type 0} (number_of : A → ℕ) (n : ℕ) (x : A) (xs : List A) where
  pub takes : number_of x ≡ n → only number_of n (x ∷ xs) ≡ x ∷ only number_of n xs
  unfolding only
  takes e = rw (eq-eqb (number_of x) n e) refl

  leaves : (number_of x ≡ n → ⊥) → only number_of n (x ∷ xs) ≡ only number_of n xs
  unfolding only
  leaves e = rw (ne_eqb (number_of x) n e) refl

  fewer : length (only number_of n xs) ≤ length (only number_of n (x ∷ xs))
  unfolding only
  fewer = go (eqb (number_of x) n)
    where
      go : (b : Bool) → length (only number_of n xs) ≤ length (cond b (x ∷ only number_of n xs) (only number_of n xs))
      go true = omega arith
      go false = omega arith

-- these are what the definitions say
pub never13 : (told : List Answered) → No13 told → Never13 told
never13 [] n = tt
never13 (a ∷ told) n =
    let differs : a.answer.refusal ≡ 13 → ⊥ = λ e. cons-ne-nil _ _ (sym (takes refusal_of 13 a told e) ∙ n) in
    (differs, never13 told (sym (leaves refusal_of 13 a told differs) ∙ n))

pub no13 : (told : List Answered) → Never13 told → No13 told
unfolding only
no13 [] n = refl
no13 (a ∷ told) n = leaves refusal_of 13 a told n.0 ∙ no13 told n.1

spares : (i : ℕ) (xs : List Handed) → length (events_of i xs) ≤ 0 → Spares i xs
spares i [] h = tt
spares i (x ∷ xs) h = (λ e. omega (arith, ap length (takes cic_of i x xs (sym e)), h), spares i xs (omega (arith, fewer cic_of i x xs, h)))

pub once_behind : (x : Handed) (xs : List Handed) → OnceEach (x ∷ xs) → OnceEach xs
once_behind x xs o i = omega (arith, fewer cic_of i x xs, o i)

pub apart : (xs : List Handed) → OnceEach xs → Apart xs
apart [] o = tt
apart (x ∷ xs) o = (spares x.cic xs (omega (arith, ap length (takes cic_of x.cic x xs refl), o x.cic)), apart xs (once_behind x xs o))

module _ (own far : ℕ) where
  -- a circuit's events in the midst of others', from u, answer and leave there what they do by themselves, from t
  abbrev Along : (t u : List ℕ) → (i : ℕ) → List Handed → Type 0
  Along t u i xs = (answers_of i (answered own far u xs) ≡ answered own far t (events_of i xs)) × (held_at (after own far u xs) i ≡ held_at (after own far t (events_of i xs)) i)

  one_more : (t u : List ℕ) (i : ℕ) (x : Handed) (xs : List Handed) → Meets t u i → ((given own far u x).answer.refusal ≡ 13 → ⊥)
      → ((s : List ℕ) → Meets s (given own far u x).table i → Along s (given own far u x).table i xs) → Along t u i (x ∷ xs)
  unfolding after answered only
  one_more t u i x xs m not13 more = go (eqb x.cic i) refl
    where
      t₁ : List ℕ
      t₁ = (given own far t x).table

      u₁ : List ℕ
      u₁ = (given own far u x).table

      go : (b : Bool) → eqb x.cic i ≡ b
          → (cond b (record { to = x; answer = (given own far u x).answer } ∷ answers_of i (answered own far u₁ xs)) (answers_of i (answered own far u₁ xs)) ≡ answered own far t (cond b (x ∷ events_of i xs) (events_of i xs)))
          × (held_at (after own far u₁ xs) i ≡ held_at (after own far t (cond b (x ∷ events_of i xs) (events_of i xs))) i)
      go true e =
          let here : x.cic ≡ i = eqb-true x.cic i e in
          let met : Meets t u x.cic = subst (Meets t u) (sym here) m in
          let k : Along t₁ u₁ i xs = more t₁ (subst (Meets t₁ u₁) here (there own far x met not13)) in
          (λ j. record { to = x; answer = answers_as own far x met not13 j } ∷ k.0 j, k.1)
      go false e = more t (elsewhere own far m x (λ z. eqb-false x.cic i e (sym z)))

  along : (t u : List ℕ) (i : ℕ) (xs : List Handed) → Meets t u i → Never13 (answered own far u xs) → Along t u i xs
  unfolding after answered only
  along t u i [] m n = (refl, sym m.held)
  along t u i (x ∷ xs) m n = one_more t u i x xs m n.0 (λ s k. along s (given own far u x).table i xs k n.1)

  pub by_themselves : (table : List ℕ) (i : ℕ) (xs : List Handed) → No13 (answered own far table xs) → Along table table i xs
  by_themselves table i xs n = along table table i xs (itself table i) (never13 (answered own far table xs) n)

  -- at every circuit of a batch
  abbrev AllMeet : (t u : List ℕ) → List Handed → Type 0
  AllMeet t u [] = Unit {0}
  AllMeet t u (x ∷ xs) = Meets t u x.cic × AllMeet t u xs

  at_first : (t : List ℕ) (xs : List Handed) → AllMeet t t xs
  at_first t [] = tt
  at_first t (x ∷ xs) = (itself t x.cic, at_first t xs)

  behind : (t u : List ℕ) (x : Handed) (xs : List Handed) → Spares x.cic xs → AllMeet t u xs → AllMeet t (given own far u x).table xs
  behind t u x [] s a = tt
  behind t u x (y ∷ ys) s a = (elsewhere own far a.0 x (λ z. s.0 (sym z)), behind t u x ys s.1 a.1)

  -- with at most one event a circuit, each answers as it would alone
  abbrev pub alone : List ℕ → Handed → Answered
  alone table x = record { to = x; answer = (given own far table x).answer }

  each_alone : (t u : List ℕ) (xs : List Handed) → AllMeet t u xs → Apart xs → Never13 (answered own far u xs) → answered own far u xs ≡ map (alone t) xs
  unfolding answered
  each_alone t u [] a o n = refl
  each_alone t u (x ∷ xs) a o n =
      λ j. record { to = x; answer = answers_as own far x a.0 n.0 j } ∷ each_alone t (given own far u x).table xs (behind t u x xs o.0 a.1) o.1 n.1 j

  pub as_if_alone : (table : List ℕ) (xs : List Handed) → OnceEach xs → No13 (answered own far table xs) → answered own far table xs ≡ map (alone table) xs
  as_if_alone table xs o n = each_alone table table xs (at_first table xs) (apart xs o) (never13 (answered own far table xs) n)

-- a batch is a run of events
pub a_run : {own far : ℕ} {first table : List ℕ} → Follows own far first table → (xs : List Handed) → Follows own far first (after own far table xs)
unfolding after
a_run f [] = f
a_run {own = own} {far = far} {first = first} {table = table} f (x ∷ xs) =
    a_run {table = (given own far table x).table} (Follows.next f x.cic x.event) xs
