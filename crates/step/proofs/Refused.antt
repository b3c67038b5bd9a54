-- A refusal sends nothing, gives indication 0 and keeps the record, and its number is the one that docs/RULES.md gives, whatever the record.
-- Assumes nothing.
use Rattle.std.specs.Prelude.{Option, Some, None}
use mathlib.Core.Path.{◌≡◌, refl}
use mathlib.Core.Bool.{Bool, true, false, cond}
use mathlib.Core.List.{List, [], ◌∷◌, ◌++◌}
use Prim.Native.Nat.{ℕ, ◌≤◌}
use native.Mathlib.Omega.{arith}
use Rattle.std.proofs.lemmas.Bool.Decides.{nat_tests}
use lib.Dec.{T, eqb}
use Rattle.circuit.specs.declared.Record.{Record}
use Rattle.circuit.specs.declared.Row.{Row}
use Rattle.circuit.specs.declared.Event.{Event}
use Rattle.circuit.specs.declared.Event.TheVariants.{Arrives, Ordered, RunsOut}
use Rattle.circuit.specs.declared.Outcome.{Outcome}
use Rattle.circuit.specs.Records.{valid}
use Rattle.circuit.specs.Rows.{fits, done, first, refused, discarded}
use Rattle.signals.specs.Table.{table}
use Rattle.commands.specs.Tables.{command_table, command_refusal, timer_table}
use Rattle.step.specs.Step.{by_tables, step, step_found}
use Rattle.circuit.specs.Refusals.{refuse, first_rule}
use Rattle.step.specs.Refusals.{found_rules, refusal, refusal_found}
use Rattle.step.proofs.Always.{refuses, refuses_missing}

-- the answer is a refusal of this record, or it is accepted
abbrev pub Keeps : Record → Outcome → Type 0
Keeps r o = (o.refusal ≡ 0 → ⊥) → o ≡ refused o.refusal r

-- a table's answer is a refusal only where no row fits
of_row : (w : Row) (o : Outcome) (r : Record) (b : Bool) → Keeps r o → Keeps r (cond b (done w) o)
of_row w o r true k h = absurd (h refl)
of_row w o r false k h = k h

of_rows : (s : ℕ) (ws : List Row) (n : ℕ) (r : Record) → Keeps r (first s ws (refused n r))
unfolding first
of_rows s [] n r h = refl
of_rows s (w ∷ ws) n r h = of_row w (first s ws (refused n r)) r (fits s w) (of_rows s ws n r) h

-- no signal is refused on a valid record
accepts_row : (w : Row) (o : Outcome) (b : Bool) → o.refusal ≡ 0 → (cond b (done w) o).refusal ≡ 0
accepts_row w o true h = refl
accepts_row w o false h = h

accepts : (s : ℕ) (ws : List Row) (r : Record) → (first s ws (discarded r)).refusal ≡ 0
unfolding first
accepts s [] r = refl
accepts s (w ∷ ws) r = accepts_row w (first s ws (discarded r)) (fits s w) (accepts s ws r)

of_tables : (c : Bool) (r : Record) (e : Event) → Keeps r (by_tables c r e)
of_tables c r (Arrives s) h = absurd (h (accepts r.state (table c r s) r))
of_tables c r (Ordered k) h = of_rows r.state (command_table r k) (command_refusal r k) r h
of_tables c r (RunsOut t) h = of_rows r.state (timer_table r t) 6 r h

pub keeps : (c : Bool) (r : Record) (e : Event) → Keeps r (step c r e)
unfolding step
keeps c r e h = grind (arith, nat_tests, of_tables)

pub keeps_found : (c : Bool) (r : Record) (f : Option Event) → Keeps r (step_found c r f)
unfolding step_found
keeps_found c r (Some e) h = keeps c r e h
keeps_found c r None h = grind (arith, nat_tests)

-- which refusal is given, for every record and every event that may be none
pub refuses_found : (c : Bool) (r : Record) (f : Option Event) → (step_found c r f).refusal ≡ refusal_found r f
unfolding step_found step
refuses_found c r (Some e) = let h : T (valid r) → (cond (valid r) (by_tables c r e) (refused 12 r)).refusal ≡ refusal r e = λ t. unfold step in refuses c r e t in grind (arith, nat_tests)
refuses_found c r None = refuses_missing c r

-- an event is accepted on a valid record only
pub accepted_valid : (r : Record) (f : Option Event) → refusal_found r f ≡ 0 → T (valid r)
accepted_valid r f h = grind (arith, nat_tests)

-- the refusals of an event that may be none are 0 and 3 to 6
pub low_refusal : (r : Record) (f : Option Event) → first_rule (found_rules r f) ≤ 6
low_refusal r None = omega arith
low_refusal r (Some (Arrives s)) = omega arith
low_refusal r (Some (Ordered k)) = grind (arith, nat_tests)
low_refusal r (Some (RunsOut t)) = grind (arith, nat_tests)

pub at_least3 : (r : Record) (f : Option Event) → (first_rule (found_rules r f) ≡ 0 → ⊥) → 3 ≤ first_rule (found_rules r f)
at_least3 r None n = omega arith
at_least3 r (Some (Arrives s)) n = absurd (n refl)
at_least3 r (Some (Ordered k)) n = grind (arith, nat_tests)
at_least3 r (Some (RunsOut t)) n = grind (arith, nat_tests)

-- a rule behind them is asked where none of them holds
pub then_last : (r : Record) (f : Option Event) (k : ℕ) (b : Bool) → first_rule (found_rules r f ++ (refuse k b ∷ [])) ≡ cond (eqb (first_rule (found_rules r f)) 0) (cond b k 0) (first_rule (found_rules r f))
then_last r None k b = refl
then_last r (Some (Arrives s)) k b = refl
then_last r (Some (Ordered c)) k b = grind (arith, nat_tests)
then_last r (Some (RunsOut t)) k b = grind (arith, nat_tests)
