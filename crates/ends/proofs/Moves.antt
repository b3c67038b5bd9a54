-- A move is the call's part of what an end does: its new state and the words that it sends. A table lists the moves that are possible in each
-- state, whatever the flags, and is computed from what an end does.
-- Assumes nothing.
use Rattle.std.specs.Prelude.{Option, Some}
use Rattle.circuit.specs.declared.Event.{Event}
use mathlib.Core.Bool.{Bool, true, false, cond, ◌&&◌}
use mathlib.Core.List.{List, [], ◌∷◌, ◌++◌}
use mathlib.Core.Path.{◌≡◌}
use Prim.Native.Nat.{ℕ, zero, suc}
use lib.Dec.{T, eqb, eqb→eq}
use lib.ListN.{get_or}
use Rattle.circuit.specs.declared.Record.{Record}
use Rattle.circuit.specs.declared.Signal.{Signal}
use Rattle.circuit.specs.declared.Command.TheVariants.{Restart}
use Rattle.circuit.specs.declared.Event.TheVariants.{Arrives, Ordered}
use Rattle.circuit.specs.declared.Outcome.{Outcome}
use Rattle.circuit.specs.Records.{rec, valid}
use Rattle.circuit.specs.Rows.{first}
use Rattle.circuit.proofs.Every.{left, right, each_bool, at_bool}
use Rattle.step.specs.Step.{step, step_found}
use Rattle.ends.specs.Ends.{in_order, does}
use Rattle.ends.specs.Calm.{Leave, Leave.at_once, Leave.once_calm, Leave.withheld, leave}
use Rattle.ends.proofs.Words.{rsc, word, heard, member, same_list, same_list_lem}
use Rattle.ends.proofs.Events.{said, alike, host_events, each_record, at_record, everywhere, at_word, at_host}

pub data Move : Type 0 where
  to : ℕ → List ℕ → Move

abbrev pub move_of : Outcome → Move
move_of o = to o.after.state (heard (in_order o.sends))

abbrev pub same_move : Move → Move → Bool
same_move (to s o) (to t u) = eqb s t && same_list o u

pub same_move_lem : (a b : Move) → T (same_move a b) → a ≡ b
same_move_lem (to s o) (to t u) h =
    let e : s ≡ t = eqb→eq s t (left (eqb s t) _ h) in
    let d : o ≡ u = same_list_lem o u (right (eqb s t) _ h) in
    cc

abbrev pub among : Move → List Move → Bool
among a l = member same_move a l

-- a restart makes one move, whatever the record
abbrev pub reset : Move
reset = to 12 (rsc ∷ [])

abbrev resets : Bool → Record → Bool
resets c r = same_move (move_of (does c r (Some (Ordered Restart)))) reset

all_reset : T (each_bool (λ c. each_record (resets c)))
unfolding does step_found step first
all_reset = tt

pub restart_moves : (c : Bool) (r : Record) → T (valid r) → move_of (does c r (Some (Ordered Restart))) ≡ reset
restart_moves c r v = same_move_lem (move_of (does c r (Some (Ordered Restart)))) reset (at_record (resets c) (at_bool (λ c. each_record (resets c)) all_reset c) r v)

-- The moves by role, state and cause: a word that arrives, 0..12, or what the host gives, by the leave that it has
abbrev pub Table : Type 0
Table = Bool → ℕ → ℕ → List Move

abbrev pub cause_of : Leave → ℕ
cause_of at_once = 13
cause_of once_calm = 14
cause_of withheld = 15

-- a table has every move

abbrev pub by_cause : Leave → Move → (ℕ → List Move) → Bool
by_cause at_once a row = among a (row (cause_of at_once))
by_cause once_calm a row = among a (row (cause_of once_calm))
by_cause withheld a row = true

abbrev pub host_listed : Table → Bool → Record → Option Event → Bool
host_listed m c r e = by_cause (leave r e) (move_of (does c r e)) (m c r.state)

abbrev word_listed : Table → Bool → Record → ℕ → Bool
word_listed m c r k = among (move_of (does c r (Some (Arrives (said k))))) (m c r.state k)

abbrev pub complete : Table → Bool
complete m = everywhere (word_listed m) (host_listed m)

module _ (m : Table) (t : T (complete m)) (c : Bool) (r : Record) (v : T (valid r)) where
  pub word_listed_lem : (x : Signal) → T (among (move_of (does c r (Some (Arrives x)))) (m c r.state (word x)))
  word_listed_lem x = rw (alike c r x) (at_word (word_listed m) (host_listed m) t c r v x)

  pub host_listed_lem : (e : Option Event) → T (host_listed m c r e)
  host_listed_lem e = at_host (word_listed m) (host_listed m) t c r v (λ x. tt) e

-- the table, computed

abbrev put : Move → List Move → List Move
put a l = cond (among a l) l (a ∷ l)

abbrev over_bools : (Bool → List Move → List Move) → List Move → List Move
over_bools f l = f true (f false l)

-- with every set of flags that is allowed in state s
abbrev if_valid : (Record → List Move → List Move) → Record → List Move → List Move
if_valid f r l = cond (valid r) (f r l) l

abbrev over_flags : ℕ → (Record → List Move → List Move) → List Move
over_flags s f = over_bools (λ own. over_bools (λ far. over_bools (λ bla. over_bools (λ uba. if_valid f (rec s own far bla uba))))) []

abbrev put_host : Bool → ℕ → Record → List (Option Event) → List Move → List Move
put_host c k r [] l = l
put_host c k r (e ∷ es) l = put_host c k r es (cond (eqb (cause_of (leave r e)) k) (put (move_of (does c r e)) l) l)

abbrev pub tabulate : {A : Type 0} → ℕ → (ℕ → A) → List A
tabulate zero f = []
tabulate (suc n) f = f zero ∷ tabulate n (λ k. f (suc k))

abbrev column : Bool → ℕ → List (List Move)
column c s = tabulate 13 (λ k. over_flags s (λ r. put (move_of (does c r (Some (Arrives (said k)))))))
    ++ (over_flags s (λ r. put_host c (cause_of at_once) r host_events) ∷ over_flags s (λ r. put_host c (cause_of once_calm) r host_events) ∷ [])

abbrev pub Columns : Type 0
Columns = List (List (List Move))

abbrev pub look : Columns → Columns → Table
look x y c s k = get_or (get_or (cond c x y) s []) k []

unfoldable pub columns : Bool → Columns
unfolding does step_found step first
columns c = tabulate 13 (column c)

-- it has every move
pub completed : T (complete (look (columns true) (columns false)))
unfolding columns does step_found step first
completed = tt
