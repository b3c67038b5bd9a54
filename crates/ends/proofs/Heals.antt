-- A restart heals: after it the end that restarted is in 12 and an RSC is on its way, so one test over the other end's records and all orders in
-- which signals can arrive decides.
-- Assumes nothing.
use Rattle.std.specs.Prelude.{Option, Some}
use Rattle.circuit.specs.declared.Event.{Event}
use mathlib.Core.Bool.{Bool, true, false, not, ◌&&◌, ◌||◌}
use mathlib.Core.List.{List, [], ◌∷◌, ◌++◌}
use mathlib.Core.Logic.{◌⊎◌, inl, inr}
use mathlib.Core.Path.{◌≡◌, refl, sym, ap, subst, subst₂}
use Prim.Native.Nat.{ℕ, zero, suc}
use lib.Dec.{T, eqb, eqb→eq}
use Rattle.circuit.specs.declared.Record.{Record}
use Rattle.circuit.specs.declared.Signal.{Signal}
use Rattle.circuit.specs.declared.Signal.TheVariants.{Rsc}
use Rattle.circuit.specs.declared.Timer.TheVariants.{Repeat}
use Rattle.circuit.specs.declared.Event.TheVariants.{Arrives, RunsOut}
use Rattle.circuit.specs.Records.{valid, restarted}
use Rattle.circuit.specs.Rows.{first}
use Rattle.circuit.specs.Groups.{controls}
use Rattle.circuit.proofs.Groups.{one_controls}
use Rattle.circuit.proofs.Every.{left, right, each_bool, at_bool}
use Rattle.step.specs.Step.{step, step_found}
use Rattle.step.proofs.Erred.{restart_forgets}
use Rattle.ends.specs.Machine.{none, Happening.host, after}
use Rattle.ends.specs.Ends.{End, end, Pair, in_order, does, end_acts, marks}
use Rattle.ends.specs.Heals.{at, delivered, first_repeats, repeated, Quiet, Healed, after_restart, ClaimHeals, turns, ClaimArrives}
use Rattle.ends.proofs.Machine.{all_lost}
use Rattle.ends.proofs.Events.{each_record, at_record}
use Rattle.ends.proofs.Plain.{marks_equal}

-- in every order in which signals can arrive, all has arrived after fewer than n of them, and then P holds
module _ (c : Bool) (P : Record → Record → Bool) where
  abbrev in_every_order : (n : ℕ) → Record → List Signal → Record → List Signal → Bool
  in_every_order zero r w t v = false
  in_every_order (suc n) r [] t [] = P r t
  in_every_order (suc n) r (s ∷ w) t [] = let o = does c r (Some (Arrives s)) in in_every_order n o.after w t (in_order o.sends)
  in_every_order (suc n) r [] t (u ∷ v) = let o = does (not c) t (Some (Arrives u)) in in_every_order n r (in_order o.sends) o.after v
  in_every_order (suc n) r (s ∷ w) t (u ∷ v) =
      let o = does c r (Some (Arrives s)) in
      let q = does (not c) t (Some (Arrives u)) in
      in_every_order n o.after w t ((u ∷ v) ++ in_order o.sends) && in_every_order n r ((s ∷ w) ++ in_order q.sends) q.after v

  abbrev Ends : Pair → Type 0
  Ends p = T (P p.0.holds p.1.holds)

  quietly : (n : ℕ) (r : Record) (w : List Signal) (t : Record) (v : List Signal) → w ≡ [] → v ≡ [] → T (in_every_order n r w t v) → T (P r t)
  quietly zero r w t v ew ev h = absurd h
  quietly (suc n) r w t v ew ev h = subst (λ (v : List Signal). T (in_every_order (suc n) r [] t v)) ev (subst (λ (w : List Signal). T (in_every_order (suc n) r w t v)) ew h)

  -- the order makes no difference
  orderly : (order : List Bool) (n : ℕ) (r : Record) (w : List Signal) (t : Record) (v : List Signal) → T (in_every_order n r w t v)
      → Quiet (delivered c (not c) order (end r w, end t v)) → Ends (delivered c (not c) order (end r w, end t v))
  unfolding delivered
  orderly [] n r w t v h q = quietly n r w t v q.to_first q.to_second h
  orderly (true ∷ order) n r [] t v h q = orderly order n r [] t v h q
  orderly (true ∷ order) zero r (s ∷ w) t v h q = absurd h
  orderly (true ∷ order) (suc n) r (s ∷ w) t [] h q =
      let o = does c r (Some (Arrives s)) in
      orderly order n o.after w t (in_order o.sends) h q
  orderly (true ∷ order) (suc n) r (s ∷ w) t (u ∷ v) h q =
      let o = does c r (Some (Arrives s)) in
      orderly order n o.after w t ((u ∷ v) ++ in_order o.sends) (left (in_every_order n o.after w t ((u ∷ v) ++ in_order o.sends)) _ h) q
  orderly (false ∷ order) n r w t [] h q = orderly order n r w t [] h q
  orderly (false ∷ order) zero r w t (u ∷ v) h q = absurd h
  orderly (false ∷ order) (suc n) r [] t (u ∷ v) h q =
      let o = does (not c) t (Some (Arrives u)) in
      orderly order n r (in_order o.sends) o.after v h q
  orderly (false ∷ order) (suc n) r (s ∷ w) t (u ∷ v) h q =
      let o = does c r (Some (Arrives s)) in
      let p = does (not c) t (Some (Arrives u)) in
      orderly order n r ((s ∷ w) ++ in_order p.sends) p.after v (right (in_every_order n o.after w t ((u ∷ v) ++ in_order o.sends)) _ h) q

-- both idle, and the marks are right
abbrev settled : Record → Record → Bool
settled r t = eqb r.state 0 && (eqb t.state 0 && (marks t.far r.own && marks r.far t.own))

pub healed : (p : Pair) → T (settled p.0.holds p.1.holds) → Healed p
healed p h =
    let r = p.0.holds in
    let t = p.1.holds in
    let two = right (eqb r.state 0) _ h in
    let three = right (eqb t.state 0) _ two in
    record {
      first_idle = eqb→eq r.state 0 (left (eqb r.state 0) _ h);
      second_idle = eqb→eq t.state 0 (left (eqb t.state 0) _ two);
      block_of_first = marks_equal t.far r.own (left (marks t.far r.own) _ three);
      block_of_second = marks_equal r.far t.own (right (marks t.far r.own) _ three);
    }

-- at once, or after timer 4; the longest order has this many arrivals
abbrev most : ℕ
most = 9

unfoldable after_timer : (c : Bool) → Record → Record → Bool
unfolding repeated
after_timer c r t =
    let p = repeated c (not c) (end r [], end t []) in
    in_every_order c settled most p.0.holds p.0.coming p.1.holds p.1.coming

abbrev heals : (c : Bool) → Record → Record → Bool
heals c r t = settled r t || after_timer c r t

unfoldable restart_heals : (c : Bool) → Record → Bool
restart_heals c t = in_every_order c (heals c) most restarted [] t (Rsc ∷ [])

abbrev empties : Pair → Bool
empties p = none (λ (s : Signal). true) p.0.coming && none (λ (s : Signal). true) p.1.coming

unfoldable restart_empties : (c : Bool) → Record → Bool
unfolding delivered repeated
restart_empties c t =
    let p = delivered c (not c) turns (end restarted [], end t (Rsc ∷ [])) in
    empties p && empties (delivered c (not c) turns (repeated c (not c) p))

tested : T (each_bool (λ c. each_record (λ t. restart_heals c t && restart_empties c t)))
unfolding restart_heals after_timer restart_empties delivered repeated does step_found step first
tested = tt

-- from the test to the claims

is_empty : (q : List Signal) → T (none (λ (s : Signal). true) q) → q ≡ []
is_empty [] h = refl
is_empty (s ∷ q) h = absurd h

quiet : (p : Pair) → T (empties p) → Quiet p
quiet p h = record {
  to_first = is_empty p.0.coming (left (none (λ (s : Signal). true) p.0.coming) _ h);
  to_second = is_empty p.1.coming (right (none (λ (s : Signal). true) p.0.coming) _ h);
}

pub afterwards : (c : Bool) (x y : End) → T (valid x.holds) → after_restart c x y ≡ (end restarted [], end y.holds (Rsc ∷ []))
unfolding does step_found
afterwards c x y v = rw (restart_forgets c x.holds v, all_lost x.coming, all_lost y.coming) refl

module _ (c : Bool) where
  abbrev HealsAt : Pair → Type 0
  HealsAt p = Healed p ⊎ ((later : List Bool) → Quiet (delivered c (not c) later (repeated c (not c) p)) → Healed (delivered c (not c) later (repeated c (not c) p)))

  abbrev Empties : Pair → Type 0
  Empties p = Quiet (delivered c (not c) turns p) × Quiet (delivered c (not c) turns (repeated c (not c) (delivered c (not c) turns p)))

  -- the timer's part of the test
  by_timer : (r t : Record) → T (after_timer c r t) → (later : List Bool) → Quiet (delivered c (not c) later (repeated c (not c) (end r [], end t [])))
      → Healed (delivered c (not c) later (repeated c (not c) (end r [], end t [])))
  unfolding after_timer
  by_timer r t h later q =
      let p = repeated c (not c) (end r [], end t []) in
      healed (delivered c (not c) later p) (orderly c settled later most p.0.holds p.0.coming p.1.holds p.1.coming h q)

  at_rest : (r t : Record) → T (heals c r t) → HealsAt (end r [], end t [])
  at_rest r t h = by (settled r t) (after_timer c r t) (healed (end r [], end t [])) (by_timer r t) h
    where
      by : {X Y : Type 0} (a b : Bool) → (T a → X) → (T b → Y) → T (a || b) → X ⊎ Y
      by true b f g h = inl (f tt)
      by false b f g h = inr (g h)

  heals_at : (r t : Record) (w v : List Signal) → w ≡ [] → v ≡ [] → T (heals c r t) → HealsAt (end r w, end t v)
  heals_at r t w v ew ev h = subst₂ (λ (w v : List Signal). HealsAt (end r w, end t v)) (sym ew) (sym ev) (at_rest r t h)

  module _ (x y : End) (vx : T (valid x.holds)) (vy : T (valid y.holds)) where
    here : T (restart_heals c y.holds && restart_empties c y.holds)
    here = at_record (λ t. restart_heals c t && restart_empties c t) (at_bool (λ c. each_record (λ t. restart_heals c t && restart_empties c t)) tested c) y.holds vy

    orderly_healing : (order : List Bool) → Quiet (delivered c (not c) order (end restarted [], end y.holds (Rsc ∷ [])))
        → HealsAt (delivered c (not c) order (end restarted [], end y.holds (Rsc ∷ [])))
    unfolding restart_heals
    orderly_healing order q =
        let p = delivered c (not c) order (end restarted [], end y.holds (Rsc ∷ [])) in
        heals_at p.0.holds p.1.holds p.0.coming p.1.coming q.to_first q.to_second
        (orderly c (heals c) order most restarted [] y.holds (Rsc ∷ []) (left (restart_heals c y.holds) _ here) q)

    healing : (order : List Bool) → Quiet (delivered c (not c) order (after_restart c x y)) → HealsAt (delivered c (not c) order (after_restart c x y))
    healing order = subst (λ (p : Pair). Quiet (delivered c (not c) order p) → HealsAt (delivered c (not c) order p)) (sym (afterwards c x y vx)) (orderly_healing order)

    emptied : Empties (end restarted [], end y.holds (Rsc ∷ []))
    unfolding restart_empties
    emptied =
        let p = delivered c (not c) turns (end restarted [], end y.holds (Rsc ∷ [])) in
        let q = delivered c (not c) turns (repeated c (not c) p) in
        let h : T (empties p && empties q) = right (restart_heals c y.holds) _ here in
        (quiet p (left (empties p) _ h), quiet q (right (empties p) _ h))

    emptying : Empties (after_restart c x y)
    emptying = subst Empties (sym (afterwards c x y vx)) emptied

module _ (own far cic : ℕ) (different : own ≡ far → ⊥) (x y : End) (vx : T (valid x.holds)) (vy : T (valid y.holds)) where
  abbrev a : Bool
  a = controls own far cic

  in_group : (order : List Bool) → let p = delivered a (controls far own cic) order (after_restart a x y) in
      Quiet p → Healed p ⊎ ((later : List Bool) → let q = delivered a (controls far own cic) later (repeated a (controls far own cic) p) in Quiet q → Healed q)
  in_group order = subst
      (λ (b : Bool). Quiet (delivered a b order (after_restart a x y)) → Healed (delivered a b order (after_restart a x y))
      ⊎ ((later : List Bool) → Quiet (delivered a b later (repeated a b (delivered a b order (after_restart a x y))))
      → Healed (delivered a b later (repeated a b (delivered a b order (after_restart a x y))))))
      (sym (one_controls own far cic different)) (healing a x y vx vy order)

  in_turns : let p = delivered a (controls far own cic) turns (after_restart a x y) in
      Quiet p × Quiet (delivered a (controls far own cic) turns (repeated a (controls far own cic) p))
  in_turns = subst
      (λ (b : Bool). Quiet (delivered a b turns (after_restart a x y)) × Quiet (delivered a b turns (repeated a b (delivered a b turns (after_restart a x y)))))
      (sym (one_controls own far cic different)) (emptying a x y vx vy)

pub restart_heals_all : ClaimHeals
unfolding ClaimHeals
restart_heals_all = in_group

pub all_arrives : ClaimArrives
unfolding ClaimArrives
all_arrives = in_turns

-- where timer 4 runs out
module _ (a b : Bool) (r t : Record) where
  abbrev quiet_pair : Pair
  quiet_pair = (end r [], end t [])

  abbrev timer4 : Option Event
  timer4 = Some (RunsOut Repeat)

  pub repeats_first : first_repeats quiet_pair ≡ true
      → repeated a b quiet_pair ≡ (end (step_found a r timer4).after [], end t (in_order (step_found a r timer4).sends))
  unfolding repeated does
  repeats_first e = ap (λ (f : Bool). after (end_acts a) (end_acts b) quiet_pair (at f (host timer4) ∷ [])) e

  pub repeats_second : first_repeats quiet_pair ≡ false
      → repeated a b quiet_pair ≡ (end r (in_order (step_found b t timer4).sends), end (step_found b t timer4).after [])
  unfolding repeated does
  repeats_second e = ap (λ (f : Bool). after (end_acts a) (end_acts b) quiet_pair (at f (host timer4) ∷ [])) e
