-- Laws of a list of refusals: when a number is given, when none is, and what a rule at the end adds.
-- Assumes nothing.
use mathlib.Core.Path.{◌≡◌, refl, sym, ◌∙◌, subst}
use mathlib.Core.Bool.{Bool, true, false, not, cond, ◌&&◌}
use mathlib.Core.List.{List, [], ◌∷◌, ◌++◌}
use mathlib.Core.Logic.{◌↔◌, inl, inr, ⊎_elim}
use Prim.Native.Nat.{ℕ, zero, suc}
use native.Mathlib.Omega.{arith}
use lib.Dec.{T, eqb}
use borrow.Author.Tests.{eq-eqb}
use Rattle.circuit.proofs.Every.{left, right}
use Rattle.circuit.specs.Refusals.{refuse, Rule, first_rule, Given, Clear}

-- A refusal's number is the answer exactly when a test with this number holds and none before it does.
pub exactly : (rules : List Rule) (n : ℕ) → (first_rule rules ≡ suc n) ↔ Given (suc n) rules
unfolding Given
exactly [] n = (λ e. omega arith, λ g. absurd g)
exactly (refuse k true ∷ rules) n = (λ e. inl (refl, e), λ g. ⊎_elim (λ h. h.1) (λ h. absurd (subst T h.0 tt)) g)
exactly (refuse k false ∷ rules) n = (λ e. inr (refl, (exactly rules n).0 e), λ g. ⊎_elim (λ h. absurd (subst T (sym h.0) tt)) (λ h. (exactly rules n).1 h.1) g)

-- What the number of every rule fits, the answer does.
abbrev pub every_number : (ℕ → Bool) → List Rule → Bool
every_number test [] = true
every_number test (refuse n holds ∷ rules) = test n && every_number test rules

pub answer_fits : (test : ℕ → Bool) (rules : List Rule) → T (every_number test rules) → (n : ℕ) → first_rule rules ≡ suc n → T (test (suc n))
answer_fits test [] t n e = absurd (omega arith)
answer_fits test (refuse k true ∷ rules) t n e = subst (λ (m : ℕ). T (test m)) e (left (test k) (every_number test rules) t)
answer_fits test (refuse k false ∷ rules) t n e = answer_fits test rules (right (test k) (every_number test rules) t) n e

-- no rule has the number 0, which stands for none
abbrev a_refusal : ℕ → Bool
a_refusal zero = false
a_refusal (suc n) = true

abbrev pub numbered : List Rule → Bool
numbered = every_number a_refusal

-- No refusal is given exactly when no test holds.
pub clear : (rules : List Rule) → T (numbered rules) → first_rule rules ≡ 0 → Clear rules
clear [] t e = tt
clear (refuse zero holds ∷ rules) t e = absurd t
clear (refuse (suc n) true ∷ rules) t e = absurd (omega arith)
clear (refuse (suc n) false ∷ rules) t e = (refl, clear rules t e)

pub none_given : (rules : List Rule) → Clear rules → first_rule rules ≡ 0
none_given [] c = refl
none_given (refuse n true ∷ rules) c = absurd (subst T c.0 tt)
none_given (refuse n false ∷ rules) c = none_given rules c.1

-- Rules at the end of a list decide exactly where none before them does.
pub before_them : (rules more : List Rule) (n : ℕ) → first_rule rules ≡ suc n → first_rule (rules ++ more) ≡ suc n
before_them [] more n e = absurd (omega arith)
before_them (refuse k true ∷ rules) more n e = e
before_them (refuse k false ∷ rules) more n e = before_them rules more n e

pub after_them : (rules more : List Rule) → Clear rules → first_rule (rules ++ more) ≡ first_rule more
after_them [] more c = refl
after_them (refuse k true ∷ rules) more c = absurd (subst T c.0 tt)
after_them (refuse k false ∷ rules) more c = after_them rules more c.1

-- Two lists that differ in the test of a last rule alone give the same number, unless one of them gives that rule's.
pub but_for_last : (rules : List Rule) (n : ℕ) (a b : Bool) → (first_rule (rules ++ (refuse n a ∷ [])) ≡ n → ⊥) → (first_rule (rules ++ (refuse n b ∷ [])) ≡ n → ⊥)
    → first_rule (rules ++ (refuse n a ∷ [])) ≡ first_rule (rules ++ (refuse n b ∷ []))
but_for_last [] n true b p q = absurd (p refl)
but_for_last [] n false true p q = absurd (q refl)
but_for_last [] n false false p q = refl
but_for_last (refuse k true ∷ rules) n a b p q = refl
but_for_last (refuse k false ∷ rules) n a b p q = but_for_last rules n a b p q

-- And the number of the last rule stays given if its test still holds.
pub last_holds : (rules : List Rule) (n : ℕ) (a b : Bool) → (T a → T b) → first_rule (rules ++ (refuse n a ∷ [])) ≡ n → first_rule (rules ++ (refuse n b ∷ [])) ≡ n
last_holds [] n a true h e = refl
last_holds [] n true false h e = absurd (h tt)
last_holds [] n false false h e = e
last_holds (refuse k true ∷ rules) n a b h e = e
last_holds (refuse k false ∷ rules) n a b h e = last_holds rules n a b h e

-- Where it is given, and no rule before it has its number, its test holds, and none before it does.
pub only_last : (rules : List Rule) (n : ℕ) (a : Bool) → T (every_number (λ k. not (eqb k (suc n))) rules) → first_rule (rules ++ (refuse (suc n) a ∷ [])) ≡ suc n → T a × ((b : Bool) → first_rule (rules ++ (refuse (suc n) b ∷ [])) ≡ cond b (suc n) 0)
only_last [] n true t e = (tt, λ b. refl)
only_last [] n false t e = absurd (omega arith)
only_last (refuse k true ∷ rules) n a t e = absurd (not_itself k (suc n) (left (not (eqb k (suc n))) (every_number (λ k. not (eqb k (suc n))) rules) t) e)
  where
    not_itself : (k n : ℕ) → T (not (eqb k n)) → k ≡ n → ⊥
    not_itself k n t e = subst (λ (b : Bool). T (not b)) (eq-eqb k n e) t
only_last (refuse k false ∷ rules) n a t e = only_last rules n a (right (not (eqb k (suc n))) (every_number (λ k. not (eqb k (suc n))) rules) t) e

-- Two lists with the same numbers and conditions are the same.
abbrev pub Alike : List Rule → List Rule → Type 0
Alike [] [] = Unit {0}
Alike [] (r ∷ others) = ⊥
Alike (r ∷ rules) [] = ⊥
Alike (refuse n a ∷ rules) (refuse k b ∷ others) = (n ≡ k) × (a ≡ b) × Alike rules others

pub alike : (rules others : List Rule) → Alike rules others → rules ≡ others
alike [] [] e = refl
alike [] (r ∷ others) e = absurd e
alike (r ∷ rules) [] e = absurd e
alike (refuse n a ∷ rules) (refuse k b ∷ others) e = λ i. refuse (e.0 i) (e.1 i) ∷ alike rules others e.2 i

-- An answer that is the first rule that holds: each number is answered exactly when it is given, and 0 exactly when none is.
module _ (rules : List Rule) (answer : ℕ) (is : answer ≡ first_rule rules) where
  pub answered : (n : ℕ) → (answer ≡ suc n) ↔ Given (suc n) rules
  answered n = (λ e. (exactly rules n).0 (sym is ∙ e), λ g. is ∙ (exactly rules n).1 g)

  pub accepted : T (numbered rules) → (answer ≡ 0) ↔ Clear rules
  accepted t = (λ e. clear rules t (sym is ∙ e), λ c. is ∙ none_given rules c)
