-- What an event answers and leaves at its circuit depends on what is held there alone, but for 13, which looks at the counter (docs/RULES.md, "Two
-- circuits, either order").
-- Assumes nothing.
use Rattle.std.specs.Prelude.{Option, Some, None}
use Rattle.circuit.specs.declared.Event.{Event}
use mathlib.Core.Path.{◌≡◌, refl, sym, ◌∙◌, subst}
use mathlib.Core.Bool.{Bool, true, false, not, cond}
use mathlib.Core.List.{List, [], ◌∷◌, ◌++◌}
use Prim.Native.Nat.{ℕ, ◌+◌, ◌≤◌}
use native.Mathlib.Omega.{arith}
use lib.Dec.{T, eqb, leb, le→leb, leb→le}
use borrow.Author.Tests.{ne_eqb}
use Rattle.circuit.specs.declared.Record.{Record}
use Rattle.circuit.specs.declared.Event.TheVariants.{Arrives, Ordered, RunsOut}
use Rattle.circuit.specs.Groups.{controls}
use Rattle.circuit.specs.Refusals.{Rule, refuse, first_rule}
use Rattle.circuit.proofs.Every.{left, right, both, is_true}
use Rattle.circuit.proofs.Refusals.{every_number, but_for_last, last_holds, only_last}
use Rattle.words.specs.Words.{largest}
use Rattle.step.specs.Refusals.{found_rules}
use Rattle.step.specs.Step.{step_found}
use Rattle.step.specs.Frees.{frees_found}
use Rattle.layout.specs.Layout.{group_in, Held, holding, held_at, counter_in, record_of, record_at, put}
use Rattle.layout.proofs.Laws.{put_held, ranked_held}
use Rattle.group.specs.Refusals.{circuit_rules, spent, refusal_in}
use Rattle.group.specs.Table.{outcome_at, step_in}
use Rattle.group.proofs.Laws.{saying, by_cases, answers, refusals}
use Rattle.group.proofs.Ranks.{frees_rises}

-- a circuit's event leaves there what its answer shows, and what was there if it is refused
pub leaves : (own far : ℕ) (table : List ℕ) (cic : ℕ) (event : Option Event)
    → let s = step_in own far table cic event in held_at s.table cic ≡ cond (eqb s.answer.refusal 0) (holding s.answer.state s.answer.flags) (held_at table cic)
leaves own far table cic event =
    by_cases own far table cic event (λ s. held_at s.table cic ≡ cond (eqb s.answer.refusal 0) (holding s.answer.state s.answer.flags) (held_at table cic))
    refl refl (λ n h. rw (ne_eqb n 0 h) refl)
    (λ h l a f. put_held table cic r h)
    (λ h l a f k. ranked_held (put table cic r) cic cic _ ∙ put_held table cic r h)
  where
    r : Record
    r = (outcome_at own far table cic event).after

-- two tables of a group that hold the same at a circuit
module _ (own far : ℕ) (t u : List ℕ) (cic : ℕ) (event : Option Event) (group : group_in t ≡ group_in u) (same : held_at t cic ≡ held_at u cic) where
  -- the rules before 13, and the first that holds by what 13 asks
  abbrev before13 : List ℕ → List Rule
  before13 table = circuit_rules own far (group_in table) cic (held_at table cic) event

  abbrev refused_by : List ℕ → Bool → ℕ
  refused_by table b = first_rule (before13 table ++ (refuse 13 b ∷ []))

  abbrev full : List ℕ → Bool
  full table = spent own far table cic event

  abbrev frees : Held → Bool
  frees h = frees_found (controls own far cic) h.state event

  refuses : (table : List ℕ) → (step_in own far table cic event).answer.refusal ≡ refused_by table (full table)
  refuses table = refusals own far table cic event

  -- the first rule that holds is the same in both, whatever 13 asks
  alike : (b : Bool) → refused_by t b ≡ refused_by u b
  alike b = λ i. first_rule (circuit_rules own far (group i) cic (same i) event ++ (refuse 13 b ∷ []))

  -- 13 at a counter is 13 at every higher one
  pub still13 : counter_in t ≤ counter_in u → (step_in own far t cic event).answer.refusal ≡ 13 → (step_in own far u cic event).answer.refusal ≡ 13
  still13 h e = refuses u ∙ last_holds (before13 u) 13 (full t) (full u) higher (sym (alike (full t)) ∙ sym (refuses t) ∙ e)
    where
      higher : T (full t) → T (full u)
      higher s =
          both (frees (held_at u cic)) (leb largest (counter_in u))
          (subst (λ (h : Held). T (frees h)) same (left (frees (held_at t cic)) (leb largest (counter_in t)) s))
          (le→leb largest (counter_in u) (omega (arith, h, leb→le largest (counter_in t) (right (frees (held_at t cic)) (leb largest (counter_in t)) s))))

  -- an event that is refused 13 in one table and not in the other is taken there, and the counter rises
  pub rises13 : (step_in own far u cic event).answer.refusal ≡ 13 → ((step_in own far t cic event).answer.refusal ≡ 13 → ⊥)
      → counter_in (step_in own far t cic event).table ≡ counter_in t + 1
  rises13 e not13 =
      frees_rises own far t cic event (go (full t) (refuses t ∙ alike (full t) ∙ k.1 (full t)))
      (is_true (frees (held_at t cic)) (subst (λ (h : Held). T (frees h)) (sym same) (left (frees (held_at u cic)) (leb largest (counter_in u)) k.0)))
    where
      -- no rule before 13 has that number
      earlier : (event : Option Event) → T (every_number (λ k. not (eqb k 13)) (found_rules (record_at u cic) event))
      earlier (Some (Arrives s)) = tt
      earlier (Some (Ordered k)) = tt
      earlier (Some (RunsOut t)) = tt
      earlier None = tt

      k : T (full u) × ((b : Bool) → refused_by u b ≡ cond b 13 0)
      k = only_last (before13 u) 12 (full u) (earlier event) (sym (refuses u) ∙ e)

      go : (b : Bool) → (step_in own far t cic event).answer.refusal ≡ cond b 13 0 → (step_in own far t cic event).answer.refusal ≡ 0
      go true q = absurd (not13 q)
      go false q = q

  -- where it is refused 13 in neither
  module _ (p : (step_in own far t cic event).answer.refusal ≡ 13 → ⊥) (q : (step_in own far u cic event).answer.refusal ≡ 13 → ⊥) where
    same_refusal : refusal_in own far t cic event ≡ refusal_in own far u cic event
    same_refusal =
        alike (full t)
        ∙ but_for_last (before13 u) 13 (full t) (full u) (λ e. p (refuses t ∙ alike (full t) ∙ e)) (λ e. q (refuses u ∙ e))

    pub same_answer : (step_in own far t cic event).answer ≡ (step_in own far u cic event).answer
    same_answer =
        answers own far t cic event
        ∙ (λ i. saying (same_refusal i) (same i) (step_found (controls own far cic) (record_of (same i).state (same i).flags) event))
        ∙ sym (answers own far u cic event)

    pub same_left : held_at (step_in own far t cic event).table cic ≡ held_at (step_in own far u cic event).table cic
    same_left =
        leaves own far t cic event
        ∙ (λ i. cond (eqb (same_answer i).refusal 0) (holding (same_answer i).state (same_answer i).flags) (same i))
        ∙ sym (leaves own far u cic event)
