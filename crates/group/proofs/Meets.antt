-- Two tables that hold the same at a circuit, of which events on other circuits led to the second: the circuit's next event answers and leaves the
-- same in both (docs/RULES.md, "Two circuits, either order").
-- Assumes nothing.
use mathlib.Core.Path.{◌≡◌, refl, sym, ◌∙◌}
use mathlib.Core.Bool.{Bool, true, false, not, cond, ◌&&◌}
use mathlib.Core.List.{List}
use Prim.Native.Nat.{ℕ, ◌+◌, ◌≤◌}
use native.Mathlib.Omega.{arith}
use lib.Dec.{eqb}
use Rattle.layout.specs.Layout.{group_in, held_at, counter_in}
use Rattle.group.specs.Batches.{Handed, given}
use Rattle.group.proofs.Laws.{others, keeps_length, keeps_group}
use Rattle.group.proofs.Ranks.{counted, idled, counter_rises}
use Rattle.group.proofs.Local.{still13, same_answer, same_left}

-- the counter has not fallen: so far as it goes, 13 in the first is 13 in the second
pub record Meets (t u : List ℕ) (i : ℕ) : Type 0 where
  pub group : group_in t ≡ group_in u
  pub held : held_at t i ≡ held_at u i
  pub counter : counter_in t ≤ counter_in u

pub itself : (t : List ℕ) (i : ℕ) → Meets t t i
itself t i = record { group = refl; held = refl; counter = omega arith }

module _ (own far : ℕ) where
  -- an event on another circuit
  pub untouched : (u : List ℕ) (x : Handed) (i : ℕ) → (i ≡ x.cic → ⊥) → held_at (given own far u x).table i ≡ held_at u i
  untouched u x i other = (others own far u x.cic x.event i other).held

  pub elsewhere : {t u : List ℕ} {i : ℕ} → Meets t u i → (x : Handed) → (i ≡ x.cic → ⊥) → Meets t (given own far u x).table i
  elsewhere {t} {u} {i} m x other = record {
    group = m.group ∙ sym (keeps_group own far u x.cic x.event);
    held = m.held ∙ sym (untouched u x i other);
    counter = omega (arith, m.counter, counter_rises (counted own far u x.cic x.event) (keeps_length own far u x.cic x.event));
  }

  -- an event on the circuit itself, given to both
  module _ {t u : List ℕ} (x : Handed) (m : Meets t u x.cic) (not13 : (given own far u x).answer.refusal ≡ 13 → ⊥) where
    pub nor13 : (given own far t x).answer.refusal ≡ 13 → ⊥
    nor13 e = not13 (still13 own far t u x.cic x.event m.group m.held m.counter e)

    pub answers_as : (given own far u x).answer ≡ (given own far t x).answer
    answers_as = sym (same_answer own far t u x.cic x.event m.group m.held nor13 not13)

    pub leaves_as : held_at (given own far t x).table x.cic ≡ held_at (given own far u x).table x.cic
    leaves_as = same_left own far t u x.cic x.event m.group m.held nor13 not13

    pub frees_as : idled t (given own far t x).table x.cic ≡ idled u (given own far u x).table x.cic
    frees_as = λ j. not (eqb (m.held j).state 0) && eqb (leaves_as j).state 0

    pub there : Meets (given own far t x).table (given own far u x).table x.cic
    there = record {
      group = keeps_group own far t x.cic x.event ∙ m.group ∙ sym (keeps_group own far u x.cic x.event);
      held = leaves_as;
      counter = rises (idled u (given own far u x).table x.cic) (rw frees_as at (counted own far t x.cic x.event).counter) (counted own far u x.cic x.event).counter;
    }
      where
        rises : (b : Bool) → counter_in (given own far t x).table ≡ cond b (counter_in t + 1) (counter_in t) → counter_in (given own far u x).table ≡ cond b (counter_in u + 1) (counter_in u)
            → counter_in (given own far t x).table ≤ counter_in (given own far u x).table
        rises true p q = omega (arith, m.counter)
        rises false p q = omega (arith, m.counter)
