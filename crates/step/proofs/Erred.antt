-- The three ways in which earlier versions erred (docs/RULES.md, "Three earlier errors"), shut out.
-- Assumes nothing.
use mathlib.Core.Path.{◌≡◌, refl, sym, ap, ◌∙◌, subst}
use mathlib.Core.Bool.{Bool, true, false, not, cond, ◌&&◌, ◌||◌}
use Prim.Native.Nat.{ℕ, ◌≤◌, zero-le}
use native.Mathlib.Omega.{arith}
use lib.Dec.{T, eqb, eqb→eq, leb, ltb, le→leb, leb→le}
use borrow.Author.Tests.{ne_eqb}
use Rattle.circuit.specs.declared.Record.{Record}
use Rattle.circuit.specs.declared.Signal.TheVariants.{Iam, Rsc}
use Rattle.circuit.specs.declared.Sends.TheVariants.{One}
use Rattle.circuit.specs.declared.Command.TheVariants.{Restart}
use Rattle.circuit.specs.declared.Event.{Event}
use Rattle.circuit.specs.declared.Event.TheVariants.{Arrives, Ordered}
use Rattle.circuit.specs.Records.{valid, restarted, flags_allowed, only_far}
use Rattle.circuit.specs.Rows.{first, answered}
use Rattle.circuit.specs.Every.{implies}
use Rattle.circuit.proofs.Every.{then, left, right, both, is_true, everywhere, at_valid}
use Rattle.step.specs.Step.{step, sent}
use Rattle.step.specs.Refusals.{within}
use Rattle.step.specs.Frees.{frees}
use Rattle.step.proofs.Always.{frees_listed}

out : (s : ℕ) → T (within s 1 5) → T (not (eqb s 0))
out s w = let h : 1 ≤ s = leb→le 1 s (left (leb 1 s) _ w) in rw (ne_eqb s 0 (λ e. omega arith)) tt

-- First error: idle on sending CLF, not on RLG. What takes an outgoing or releasing record to idle is in the list of `Frees`: RLG in 5, and
-- CLF in 1 and 5 not controlling.
pub freed_only_by_rlg : (c : Bool) (r : Record) (e : Event) → T (valid r) → T (within r.state 1 5) → (step c r e).after.state ≡ 0 → T (frees c r.state e)
freed_only_by_rlg c r e v w idle =
    subst T (frees_listed c r e v)
    (both (not (eqb r.state 0)) _ (out r.state w) (subst (λ (s : ℕ). T (eqb s 0)) (sym idle) tt))

-- Second error: both ends giving way at dual seizure, or the losing end sending CLF. An end that has seized yields when it goes to 6.
abbrev pub yields : (c : Bool) → Record → Bool
yields c r = eqb (step c r (Arrives Iam)).after.state 6

abbrev crosses : Bool → Record → Bool
crosses c r = implies (eqb r.state 1) (eqb (step c r (Arrives Iam)).after.state (cond c 1 6) && eqb (sent (step c r (Arrives Iam)).sends) 0)

crossing : T (everywhere crosses)
unfolding step first
crossing = tt

seized : (c : Bool) (r : Record) → T (valid r) → r.state ≡ 1 → T (eqb (step c r (Arrives Iam)).after.state (cond c 1 6) && eqb (sent (step c r (Arrives Iam)).sends) 0)
seized c r v one = then (eqb r.state 1) _ (at_valid crosses crossing c r v) (rw one tt)

winner : (c : Bool) → eqb (cond c 1 6) 6 ≡ not c
winner true = refl
winner false = refl

yields_if : (c : Bool) (r : Record) → T (valid r) → r.state ≡ 1 → yields c r ≡ not c
yields_if c r v one = ap (λ (s : ℕ). eqb s 6) (eqb→eq (step c r (Arrives Iam)).after.state (cond c 1 6) (left (eqb (step c r (Arrives Iam)).after.state (cond c 1 6)) _ (seized c r v one))) ∙ winner c

-- of two crossing seizures exactly one yields
pub exactly_one_yields : (c : Bool) (a b : Record) → T (valid a) → T (valid b) → a.state ≡ 1 → b.state ≡ 1 → yields (not c) b ≡ not (yields c a)
exactly_one_yields c a b va vb sa sb = rw (yields_if c a va sa, yields_if (not c) b vb sb)

-- and neither sends anything
pub crossing_is_silent : (c : Bool) (r : Record) → T (valid r) → r.state ≡ 1 → sent (step c r (Arrives Iam)).sends ≡ 0
crossing_is_silent c r v one = eqb→eq _ _ (right (eqb (step c r (Arrives Iam)).after.state (cond c 1 6)) _ (seized c r v one))

-- Third error: a restart that keeps the stored state and sends no RSC. From every valid record it answers RSC, state 12 and no flag.
pub restart_forgets : (c : Bool) (r : Record) → T (valid r) → step c r (Ordered Restart) ≡ answered restarted (One Rsc) 0
unfolding step first
restart_forgets c r v = simp (is_true (leb r.state 12) (left (leb r.state 12) _ v), is_true (flags_allowed r && (ltb r.state 12 || only_far r)) (right (leb r.state 12) _ v), is_true (leb 0 r.state) (le→leb 0 r.state zero-le))
