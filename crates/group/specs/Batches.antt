-- Events that are handed over in a batch (docs/RULES.md, "Two circuits, either order"): one after another, each on its own circuit.
-- Assumes nothing.
use Rattle.circuit.specs.declared.Event.{Event}
use Rattle.std.specs.Prelude.{◌≡◌, cond, ℕ, ◌≤◌, eqb, length, Option}
use mathlib.Core.List.{List, [], ◌∷◌, Permᴰ}
use Rattle.answers.specs.Answers.{Answer}
use Rattle.group.specs.Table.{Step, step_in}

-- an event for a circuit
pub record Handed : Type 0 where
  pub cic : ℕ
  pub event : Option Event

-- and what it answered
pub record Answered : Type 0 where
  pub to : Handed
  pub answer : Answer

-- one event of a batch
abbrev pub given : (own far : ℕ) → List ℕ → Handed → Step
given own far table x = step_in own far table x.cic x.event

-- the table after a batch, and its events with what each of them answered, in the order in which they were given
unfoldable pub after : (own far : ℕ) → List ℕ → List Handed → List ℕ
after own far table [] = table
after own far table (x ∷ xs) = after own far (given own far table x).table xs

unfoldable pub answered : (own far : ℕ) → List ℕ → List Handed → List Answered
answered own far table [] = []
answered own far table (x ∷ xs) = record { to = x; answer = (given own far table x).answer } ∷ answered own far (given own far table x).table xs

-- those of a list that have this number, in their order
unfoldable pub only : {A : Type 0} → (A → ℕ) → ℕ → List A → List A
only number_of n [] = []
only number_of n (x ∷ xs) = cond (eqb (number_of x) n) (x ∷ only number_of n xs) (only number_of n xs)

-- those of a circuit
abbrev pub events_of : ℕ → List Handed → List Handed
events_of = only (λ (x : Handed). x.cic)

abbrev pub answers_of : ℕ → List Answered → List Answered
answers_of = only (λ (a : Answered). a.to.cic)

-- at most one event a circuit
abbrev pub OnceEach : List Handed → Type 0
OnceEach xs = (i : ℕ) → length (events_of i xs) ≤ 1

-- none is refused 13
abbrev pub No13 : List Answered → Type 0
No13 told = only (λ (a : Answered). a.answer.refusal) 13 told ≡ []

-- the same ones in any order
abbrev pub Rearranged : {A : Type 0} → List A → List A → Type 0
Rearranged xs ys = Permᴰ xs ys
