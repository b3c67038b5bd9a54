-- T-12, two circuits, either order (docs/RULES.md, under that title): what a host may rely on that hands over events in batches, one after another
-- and each on one circuit.
-- Left out are the release ranks and the counter, and with them the choice of a circuit and refusal 13, which go by these. At the end of the page are
-- examples in which they depend on the order, and one of two events on one circuit.
-- Assumes nothing.
use Rattle.std.specs.Prelude.{◌≡◌, refl, cond, List, [], ◌∷◌, ◌++◌, map, ℕ, ◌+◌, ◌-◌, ◌≤◌, eqb, length, replicate, Option, Some}
use mathlib.Core.List.Permᴰ
use Rattle.circuit.specs.declared.Signal.TheVariants.{Iam, Clf}
use Rattle.circuit.specs.declared.Command.TheVariants.{Seize}
use Rattle.circuit.specs.declared.Event.{Event}
use Rattle.circuit.specs.declared.Event.TheVariants.{Arrives, Ordered}
use Rattle.circuit.specs.Rows.{first}
use Rattle.words.specs.Words.{largest, number, put}
use Rattle.step.specs.Step.{step, step_found}
use Rattle.layout.specs.Layout.{group_in, held_at, records_in, counter_in, state_at, flags_at, rank_at, record_of, flags_of, put_octets, put_rank, put_counter, idle}
use Rattle.group.specs.Table.{step_in}
use Rattle.group.specs.Runs.{Follows}
use Rattle.group.specs.Batches.{Handed, Answered, after, answered, only, OnceEach, No13, Rearranged}
use Rattle.group.proofs.Local as local
use Rattle.group.proofs.Batches as batches
use Rattle.group.proofs.Mixed as mixed
use Rattle.group.proofs.Orders as orders
use Rattle.select.specs.First as First
use Rattle.select.specs.Selection.{choice, select_in}

-- ONE EVENT

-- what a table says of its group, the number of circuits, and what it holds of a circuit apart from its rank, the state and the flags
pub group_is : (table : List ℕ) → group_in table ≡ record { records = records_in (length table) }
group_is table = refl

pub held_is : (table : List ℕ) (i : ℕ) → held_at table i ≡ record { state = state_at table i; flags = flags_at table i }
held_is table i = refl

-- But for 13, what an event answers, and what it leaves at its circuit, depends on what is held of that circuit alone: in two tables of one group that
-- hold the same there it is the same, whatever else they hold.
pub its_circuit_alone : (own far : ℕ) (t u : List ℕ) (cic : ℕ) (event : Option Event) → group_in t ≡ group_in u → held_at t cic ≡ held_at u cic
    → ((step_in own far t cic event).answer.refusal ≡ 13 → ⊥) → ((step_in own far u cic event).answer.refusal ≡ 13 → ⊥)
    → ((step_in own far t cic event).answer ≡ (step_in own far u cic event).answer)
    × (held_at (step_in own far t cic event).table cic ≡ held_at (step_in own far u cic event).table cic)
its_circuit_alone own far t u cic event group held p q = (local.same_answer own far t u cic event group held p q, local.same_left own far t u cic event group held p q)

-- TWO EVENTS ON DIFFERENT CIRCUITS

-- Two events on different circuits, of which neither is refused 13 in one order, be they accepted or refused otherwise: each answers the same in the
-- other order, with its refusal, state and flags, signals and indication, and in the end the table holds the same of every circuit. Two events that
-- are accepted in both orders are a case of this.
pub either_order : (own far : ℕ) (table : List ℕ) (i j : ℕ) (e f : Option Event) → (i ≡ j → ⊥)
    → let e_first = step_in own far table i e in
    let f_then = step_in own far e_first.table j f in
    let f_first = step_in own far table j f in
    let e_then = step_in own far f_first.table i e in
    (e_first.answer.refusal ≡ 13 → ⊥) → (f_then.answer.refusal ≡ 13 → ⊥)
    → (e_then.answer ≡ e_first.answer) × (f_then.answer ≡ f_first.answer) × ((k : ℕ) → held_at f_then.table k ≡ held_at e_then.table k)
either_order own far table i j e f other p q =
    let x : Handed = record { cic = i; event = e } in
    let y : Handed = record { cic = j; event = f } in
    (orders.x_answers own far table x y other p q, orders.y_answers own far table x y other p q, orders.left_held own far table x y other p q)

-- BATCHES

-- a batch is given one event after another
pub given_in_turn : (own far : ℕ) (table : List ℕ) (x : Handed) (xs : List Handed)
    → (after own far table [] ≡ table) × (after own far table (x ∷ xs) ≡ after own far (step_in own far table x.cic x.event).table xs)
unfolding after
given_in_turn own far table x xs = (refl, refl)

pub answered_in_turn : (own far : ℕ) (table : List ℕ) (x : Handed) (xs : List Handed)
    → (answered own far table [] ≡ [])
    × (answered own far table (x ∷ xs) ≡ record { to = x; answer = (step_in own far table x.cic x.event).answer } ∷ answered own far (step_in own far table x.cic x.event).table xs)
unfolding answered
answered_in_turn own far table x xs = (refl, refl)

-- so it is a run of events, of which all holds that is promised of these
pub a_run : (own far : ℕ) (table : List ℕ) (xs : List Handed) → Follows own far table (after own far table xs)
a_run own far table xs = batches.a_run Follows.start xs

-- those of a list that have a number
pub only_these : {A : Type 0} (number_of : A → ℕ) (n : ℕ) (x : A) (xs : List A)
    → (only number_of n [] ≡ []) × (only number_of n (x ∷ xs) ≡ cond (eqb (number_of x) n) (x ∷ only number_of n xs) (only number_of n xs))
unfolding only
only_these number_of n x xs = (refl, refl)

-- at most one event a circuit, and none refused 13
pub once_each_is : (xs : List Handed) → ((i : ℕ) → length (only (λ (x : Handed). x.cic) i xs) ≤ 1) → OnceEach xs
once_each_is xs h = h

pub no13_is : (told : List Answered) → only (λ (a : Answered). a.answer.refusal) 13 told ≡ [] → No13 told
no13_is told e = e

-- A rearrangement is every order that there is: one of the batch's events comes first, whichever it is, and the others follow in any order.
pub none_in_order : Rearranged {A = Handed} [] []
none_in_order = Permᴰ.nil

pub whichever_first : (before behind : List Handed) (x : Handed) (rest : List Handed) → Rearranged (before ++ behind) rest → Rearranged (before ++ (x ∷ behind)) (x ∷ rest)
whichever_first before behind x rest r = Permᴰ.trans (Permᴰ.middle x before behind) (Permᴰ.cons refl r)

module _ (own far : ℕ) (table : List ℕ) where
  -- In a batch with at most one event a circuit, of which none is refused 13, each event answers what it would answer alone, on the table as it
  -- stood before the batch.
  pub as_if_alone : (xs : List Handed) → OnceEach xs → No13 (answered own far table xs)
      → answered own far table xs ≡ map (λ (x : Handed). record { to = x; answer = (step_in own far table x.cic x.event).answer }) xs
  as_if_alone = batches.as_if_alone own far table

  -- So it may be given in any order: none is refused 13 then either, each event has the same answer, and in the end the table holds the same of
  -- every circuit. The batch has any length.
  pub any_order : (xs ys : List Handed) → Rearranged xs ys → OnceEach xs → No13 (answered own far table xs)
      → No13 (answered own far table ys) × Rearranged (answered own far table xs) (answered own far table ys)
      × ((i : ℕ) → held_at (after own far table xs) i ≡ held_at (after own far table ys) i)
  any_order xs ys r o n =
      let m = mixed.rearranged r o in
      (orders.no13_then own far table m n, orders.answered_then own far table r o n, orders.held_then own far table m n)

  -- A batch with several events of one circuit: these answer, and leave there, what they would by themselves, in their order.
  pub each_circuits_events : (i : ℕ) (xs : List Handed) → No13 (answered own far table xs)
      → let mine = only (λ (x : Handed). x.cic) i xs in
      (only (λ (a : Answered). a.to.cic) i (answered own far table xs) ≡ answered own far table mine)
      × (held_at (after own far table xs) i ≡ held_at (after own far table mine) i)
  each_circuits_events = batches.by_themselves own far table

  -- So two batches in which each circuit has the same events in the same order, however the circuits are mixed: if none is refused 13 in the one,
  -- none is in the other, each circuit's events have the same answers, and in the end the table holds the same of every circuit.
  pub however_mixed : (xs ys : List Handed) → ((i : ℕ) → only (λ (x : Handed). x.cic) i xs ≡ only (λ (x : Handed). x.cic) i ys) → No13 (answered own far table xs)
      → No13 (answered own far table ys)
      × ((i : ℕ) → only (λ (a : Answered). a.to.cic) i (answered own far table xs) ≡ only (λ (a : Answered). a.to.cic) i (answered own far table ys))
      × ((i : ℕ) → held_at (after own far table xs) i ≡ held_at (after own far table ys) i)
  however_mixed xs ys same n =
      let m = mixed.mixed xs ys same in
      (orders.no13_then own far table m n, orders.answers_then own far table m n, orders.held_then own far table m n)

  -- no event of a batch is refused 13, in whatever order, where the counter is below its largest value by as many as there are events
  pub few_never13 : (xs : List Handed) → counter_in table + length xs ≤ largest → No13 (answered own far table xs)
  few_never13 = orders.room_for own far table

-- WHAT DOES DEPEND ON THE ORDER

-- our code is 2 and the far one 1, so we control the even circuits
abbrev on : ℕ → Event → Handed
on i e = record { cic = i; event = Some e }

-- three circuits, of which 0 and 2 have incoming calls; the counter's lowest octet, and its others
abbrev three : ℕ → ℕ → List ℕ
three lowest rest = (lowest ∷ replicate 7 rest) ++ (6 ∷ replicate 9 0) ++ replicate 10 0 ++ (6 ∷ replicate 9 0)

abbrev one_way : List Handed
one_way = on 0 (Arrives Clf) ∷ on 2 (Arrives Clf) ∷ []

abbrev other_way : List Handed
other_way = on 2 (Arrives Clf) ∷ on 0 (Arrives Clf) ∷ []

-- ranks: both circuits are freed, and the one that was freed later has the higher rank
abbrev ranks_after : List Handed → List ℕ
ranks_after xs = let t = after 2 1 (three 0 0) xs in rank_at t 0 ∷ rank_at t 2 ∷ []

pub ranks_by_order : (ranks_after one_way ≡ 1 ∷ 2 ∷ []) × (ranks_after other_way ≡ 2 ∷ 1 ∷ [])
unfolding after step_in records_in counter_in state_at flags_at rank_at record_of flags_of put_octets put_rank put_counter number put step_found step first
ranks_by_order = (refl, refl)

-- and the one that was freed first is the next to be chosen
pub choice_by_order : ((select_in 2 1 (after 2 1 (three 0 0) one_way)).cic.0 ≡ 0) × ((select_in 2 1 (after 2 1 (three 0 0) other_way)).cic.0 ≡ 2)
unfolding after step_in records_in counter_in state_at flags_at rank_at record_of flags_of put_octets put_rank put_counter number put step_found step first First.first select_in choice
choice_by_order = (refl, refl)

-- 13: one below its largest value the counter has room for one release, and whichever comes second is refused
abbrev refusals : List ℕ → List Handed → List ℕ
refusals table xs = map (λ (a : Answered). a.answer.refusal) (answered 2 1 table xs)

pub thirteen_by_order : (counter_in (three 254 255) ≡ largest - 1) × (refusals (three 254 255) one_way ≡ 0 ∷ 13 ∷ []) × (refusals (three 254 255) other_way ≡ 0 ∷ 13 ∷ [])
unfolding answered step_in records_in counter_in state_at flags_at rank_at record_of flags_of put_octets put_rank put_counter number put step_found step first
thirteen_by_order = (refl, refl, refl)

-- one circuit, ours: an IAM that arrives before the seizure begins a call, and the seizure is refused; one that arrives after it is discarded
pub one_circuits_order : let called = on 0 (Arrives Iam) ∷ on 0 (Ordered Seize) ∷ [] in
    let seized = on 0 (Ordered Seize) ∷ on 0 (Arrives Iam) ∷ [] in
    (refusals (idle 18) called ≡ 0 ∷ 5 ∷ []) × (state_at (after 2 1 (idle 18) called) 0 ≡ 6)
    × (refusals (idle 18) seized ≡ 0 ∷ 0 ∷ []) × (state_at (after 2 1 (idle 18) seized) 0 ≡ 1)
unfolding after answered step_in records_in counter_in state_at flags_at rank_at record_of flags_of put_octets put_rank put_counter number put step_found step first
one_circuits_order = (refl, refl, refl, refl)
