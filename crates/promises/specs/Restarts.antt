-- Restarts: whatever was lost, a restart heals it; and when a host, who sees its own end alone, may restart a circuit and let timers 4 and 5 run out.
-- Two ends may hold any two legal records: signals were lost, a stale table was taken up, the other end was another maker's. A restart (command 10) at
-- either end puts that right: demand 3 holds from there on, whatever happens next, and agreement comes.
-- Ends and what can happen to them are those of `Demand3`, exchanges those of `Demand3Link`.
-- Assumes nothing.
use Rattle.circuit.specs.declared.Event.{Event}
use Rattle.std.specs.Prelude.{◌≡◌, Bool, true, cond, ◌||◌, ◌⊎◌, ℕ, ◌<◌, T, eqb, length, Option, Some, None}
use Rattle.std.proofs.Math.Path.{refl, subst, subst₂}
use Rattle.std.proofs.Math.Bool.{false}
use mathlib.Core.List.{List, [], ◌∷◌, ◌++◌}
use Rattle.circuit.specs.declared.Record.{Record}
use Rattle.circuit.specs.declared.Failure.{Failure}
use Rattle.circuit.specs.declared.AddressType.{AddressType}
use Rattle.circuit.specs.declared.Charging.{Charging}
use Rattle.circuit.specs.declared.Signal.{Signal}
use Rattle.circuit.specs.declared.Signal.TheVariants.{Acm, Clf, Rsc}
use Rattle.circuit.specs.declared.Command.{Command}
use Rattle.circuit.specs.declared.Command.TheVariants.{Seize, Release, AddressComplete, Answer, ClearBack, ReAnswer, FailCall, Block, Unblock, Restart}
use Rattle.circuit.specs.declared.Timer.{Timer}
use Rattle.circuit.specs.declared.Timer.TheVariants.{AddressWait, AnswerWait, IncomingHangUp, Repeat, OneMinute, BlockRepeat}
use Rattle.circuit.specs.declared.Event.TheVariants.{Arrives, Ordered, RunsOut}
use Rattle.circuit.specs.Records.{plain, valid}
use Rattle.circuit.specs.Groups.{bad_group, controls}
use Rattle.circuit.proofs.Every.{is_true}
use Rattle.codes.specs.Numbers.{event_of}
use Rattle.layout.specs.Layout.{records_in, allowed_at}
use Rattle.step.specs.Step.{step_found}
use Rattle.group.specs.Table.{step_in}
use Rattle.ends.specs.Machine.{When.any_time, When.never, without, Happening.arrives, Happening.host, Step.first, Step.second, after, given, turn, Reached.start, Reached.at_first}
use Rattle.ends.specs.Ends.{End, end, in_order, does, end_acts, restart, unheard, Start.first_restarted, EndsCome}
use Rattle.ends.specs.Heals.{first_repeats, delivered, repeated, Quiet, Healed, ClaimHeals, ClaimArrives}
use Rattle.ends.specs.Calm.{WatchedEnd, watched, KeptPair, still, Gift.event, Gift.cut, Gift.lull, Leave, Leave.at_once, Leave.once_calm, leave, ready, kept_acts, KeptStart.both_idle as calm_and_idle, KeptStart.first_restarted as kept_cut_at_first, KeptCome, ClaimKept, by_other}
use Rattle.ends.specs.Cases.{kept_command, kept_timer, KeptRun, ran_kept, kept, kept_runs, kept_led}
use Rattle.ends.proofs.Machine.{all_lost}
use Rattle.ends.proofs.Heals.{afterwards, restart_heals_all, all_arrives, repeats_first, repeats_second}
use Rattle.ends.proofs.Calm.{waiting, not_waiting, kept_ends_agree, kept_next_heard, mirror_kept, restarted_amid}
use Rattle.ends.proofs.Plain.{told_plainly, not_awaiting, opposite12, unheard_rlg, not_both}
use Rattle.ends.proofs.Cases.{kept_as_told, kept_reached}
use Rattle.exchanges.specs.Link.{Message, exchange, is_about, plainly, writes_all, ExchangesCome}
use Rattle.exchanges.proofs.Rules.{restarting}
use Rattle.promises.specs.Demand3.{AgreeOn, SameStage, Never}

-- DEMAND 3 HOLDS FROM THERE ON

-- A restart at the first end, whatever legal record it held and whatever was on its way, which is lost: after it that end is in 12 with no flag, its RSC
-- is on its way and nothing else is.
pub restart_gives : (a : Bool) (r t : Record) (w v : List Signal) → T (valid r)
    → turn (end_acts a) (host (Some (Ordered Restart))) (end r w) (end t v) ≡ (end (plain 12) [], end t (Rsc ∷ []))
restart_gives a r t w v = afterwards a (end r w) (end t v)

-- From any two legal records: after a restart at the first end two ends come to whatever `Demand3` speaks of, as they do from idle.
pub ends_restarted : {a b : Bool} (r t : Record) (w v : List Signal) → T (valid r) → T (valid t)
    → let p = turn (end_acts a) (host (Some (Ordered Restart))) (end r w) (end t v) in EndsCome a b p.0 p.1
ends_restarted r t w v good good' = start (first_restarted (end r w) (end t v) good good')

-- The same over the link, on any circuit that both exchanges have, whose two octets are legal in both tables: its messages are lost, in both directions,
-- and no other's.
pub link_restarted : {own far cic : ℕ} (t u : List ℕ) (w v : List Message)
    → bad_group own far (records_in (length t)) ≡ false → cic < records_in (length t) → bad_group far own (records_in (length u)) ≡ false → cic < records_in (length u)
    → T (allowed_at t cic) → T (allowed_at u cic)
    → ExchangesCome own far cic (exchange (step_in own far t cic (event_of 2 10 0)).table (without (is_about cic) w))
    (exchange u (without (is_about cic) v ++ writes_all own far (records_in (length t)) cic plainly (in_order (step_in own far t cic (event_of 2 10 0)).answer.sends)))
link_restarted {own} {far} {cic} = restarting own far cic

-- AGREEMENT COMES

-- What is on its way arrives, in some order, and nothing else happens: true, the oldest signal on its way to the first end is next, false, to the second.
module _ (a b : Bool) (x y : End) (order : List Bool) where
  pub none_arrives : delivered a b [] (x, y) ≡ (x, y)
  unfolding delivered
  none_arrives = refl

  pub first_takes : delivered a b (true ∷ order) (x, y) ≡ delivered a b order (turn (end_acts a) arrives x y)
  unfolding delivered
  first_takes = refl

  pub second_takes : delivered a b (false ∷ order) (x, y) ≡ delivered a b order ((turn (end_acts b) arrives y x).1, (turn (end_acts b) arrives y x).0)
  unfolding delivered
  second_takes = refl

-- Timer 4 runs out, at the first end or at the second: at an end in 5, and where neither is in 5, at one in 12.
pub who_repeats : (x y : End)
    → first_repeats (x, y) ≡ (eqb x.holds.state 5 || cond (eqb y.holds.state 5) false (eqb x.holds.state 12))
who_repeats x y = refl

pub first_repeating : (a b : Bool) (r t : Record) → first_repeats (end r [], end t []) ≡ true
    → repeated a b (end r [], end t []) ≡ (end (step_found a r (Some (RunsOut Repeat))).after [], end t (in_order (step_found a r (Some (RunsOut Repeat))).sends))
first_repeating = repeats_first

pub second_repeating : (a b : Bool) (r t : Record) → first_repeats (end r [], end t []) ≡ false
    → repeated a b (end r [], end t []) ≡ (end r (in_order (step_found b t (Some (RunsOut Repeat))).sends), end (step_found b t (Some (RunsOut Repeat))).after [])
second_repeating = repeats_second

pub restart_is : restart ≡ host (Some (Ordered Restart))
restart_is = refl

-- From any two legal records a restart at the first end, then all arrives in whatever order: once nothing is on its way, both ends are idle and each
-- far-block mark equals the other end's own block; or that is so once timer 4 has run out in that silence and all has arrived again.
pub restart_heals : (own far cic : ℕ) → (own ≡ far → ⊥) → (x y : End) → T (valid x.holds) → T (valid y.holds)
    → let a = controls own far cic in
    let b = controls far own cic in
    (order : List Bool) → let p = delivered a b order (turn (end_acts a) restart x y) in
    Quiet p → Healed p ⊎ ((later : List Bool) → let q = delivered a b later (repeated a b p) in Quiet q → Healed q)
unfolding ClaimHeals
restart_heals = restart_heals_all

-- nothing is on its way; both are idle and know each other's block
pub quiet_is : {x y : End} → Quiet (x, y) → (x.coming ≡ []) × (y.coming ≡ [])
quiet_is q = (q.to_first, q.to_second)

pub healed_is : {x y : End} → Healed (x, y)
    → (x.holds.state ≡ 0) × (y.holds.state ≡ 0) × (y.holds.far ≡ x.holds.own) × (x.holds.far ≡ y.holds.own)
healed_is h = (h.first_idle, h.second_idle, h.block_of_first, h.block_of_second)

-- And all does arrive: five signals at each end, turn by turn, are enough, both times.
pub restart_arrives : (own far cic : ℕ) → (own ≡ far → ⊥) → (x y : End) → T (valid x.holds) → T (valid y.holds)
    → let a = controls own far cic in
    let b = controls far own cic in
    let turns = true ∷ false ∷ true ∷ false ∷ true ∷ false ∷ true ∷ false ∷ true ∷ false ∷ [] in
    let p = delivered a b turns (turn (end_acts a) restart x y) in
    Quiet p × Quiet (delivered a b turns (repeated a b p))
unfolding ClaimArrives
restart_arrives = all_arrives

-- THE RULE THAT A HOST CAN KEEP

-- `watched r k w`: an end with the record r and w on its way to it; k tells whether it is calm: it has itself neither sent nor received a signal on the
-- circuit since nothing was on its way. `KeptCome a b x y`: two ends can come to be x and y whose hosts keep the rule.
abbrev KeptPairCome : (a b : Bool) → KeptPair → Type 0
KeptPairCome a b p = KeptCome a b p.0 p.1

module _ {a b : Bool} where
  -- at first both are idle with no flag, calm or not, and nothing is on its way; or one has just restarted, and everything was lost by that
  pub kept_idle : (k j : Bool) → KeptCome a b (watched (plain 0) k []) (watched (plain 0) j [])
  kept_idle k j = start (calm_and_idle k j)

  pub kept_restarted : (r t : Record) (j : Bool) → T (valid r) → T (valid t)
      → KeptCome a b (watched (step_found a r (Some (Ordered Restart))).after false []) (watched t j (in_order (step_found a r (Some (Ordered Restart))).sends))
  unfolding does
  kept_restarted r t j v v' = start (kept_cut_at_first (watched r false []) (watched t j []) v v')

  module _ {r t : Record} {k j : Bool} {w v : List Signal} where
    -- a signal arrives: that ends the calm
    pub kept_arrives : {s : Signal} → KeptCome a b (watched r k (s ∷ w)) (watched t j v)
        → KeptCome a b (watched (step_found a r (Some (Arrives s))).after false w) (watched t j (v ++ in_order (step_found a r (Some (Arrives s))).sends))
    unfolding does
    kept_arrives q = at_first q arrives

    -- the host gives an event that the rule allows; nothing is lost, and what is sent ends the calm
    pub kept_given : (e : Option Event) → T (ready k (leave r e)) → KeptCome a b (watched r k w) (watched t j v)
        → let o = step_found a r e in
        KeptCome a b (watched o.after (still (in_order o.sends) k) w) (watched t j (v ++ in_order o.sends))
    unfolding does
    kept_given e h q = subst (λ (b' : Bool). KeptPairCome a b (given (kept_acts a) (cond b' any_time never) (event e) (watched r k w) (watched t j v)))
        (is_true (ready k (leave r e)) h) (at_first q (host (event e)))

    -- a restart by which everything is lost that is on its way may come at any time
    pub kept_cut : KeptCome a b (watched r k w) (watched t j v)
        → let o = step_found a r (Some (Ordered Restart)) in
        KeptCome a b (watched o.after false []) (watched t j (in_order o.sends))
    unfolding does
    kept_cut q = subst₂ (λ (w v : List Signal). KeptCome a b (watched (step_found a r (Some (Ordered Restart))).after false w) (watched t j (v ++ in_order (step_found a r (Some (Ordered Restart))).sends)))
        (all_lost w) (all_lost v) (at_first q (host cut))

  -- nothing is on its way, and the end is calm from now on
  pub kept_lull : {r t : Record} {k j : Bool} → KeptCome a b (watched r k []) (watched t j []) → KeptCome a b (watched r true []) (watched t j [])
  kept_lull q = at_first q (host lull)

  -- the same happens at the second end
  pub either_kept_first : {x y : WatchedEnd} → KeptCome a b x y → KeptCome b a y x
  either_kept_first = mirror_kept

-- the leave that events have, as in `Demand3` their times
abbrev leaves : Record → List (Option Event) → List Leave
leaves r [] = []
leaves r (e ∷ l) = leave r e ∷ leaves r l

abbrev order : Command → Option Event
order k = Some (Ordered k)

abbrev runs_out : Timer → Option Event
runs_out t = Some (RunsOut t)

-- What the rule allows: to an end that is calm whatever the host may give at all; else all but command 10, and but timers 4 and 5 in states 5 and 12.
pub calm_needed : (r : Record) → (r.state ≡ 5) ⊎ (r.state ≡ 12)
    → (leave r (Some (Ordered Restart)) ≡ once_calm) × (leave r (Some (RunsOut Repeat)) ≡ once_calm) × (leave r (Some (RunsOut OneMinute)) ≡ once_calm)
calm_needed r s = (refl, waiting r s, waiting r s)

pub calm_not_needed_elsewhere : (r : Record) → (r.state ≡ 5 → ⊥) → (r.state ≡ 12 → ⊥)
    → (leave r (Some (RunsOut Repeat)) ≡ at_once) × (leave r (Some (RunsOut OneMinute)) ≡ at_once)
calm_not_needed_elsewhere r h k = (not_waiting r h k, not_waiting r h k)

pub sending_ends_calm : (s : Signal) (rest : List Signal) (k : Bool) → (still (s ∷ rest) k ≡ false) × (still {M = Signal} [] k ≡ k)
sending_ends_calm s rest k = (refl, refl)

pub calm_allows : (ready true once_calm ≡ true) × (ready false once_calm ≡ false) × ((k : Bool) → ready k at_once ≡ true)
calm_allows = (refl, refl, λ k. refl)

pub calm_not_needed : (r : Record) (t : AddressType) (free : Bool) (charging : Charging) (failure : Failure)
    → leaves r (order Seize ∷ order Release ∷ order (AddressComplete t free) ∷ order (Answer charging) ∷ order ClearBack ∷ order ReAnswer
    ∷ order (FailCall failure) ∷ order Block ∷ order Unblock ∷ runs_out AddressWait ∷ runs_out AnswerWait ∷ runs_out IncomingHangUp ∷ runs_out BlockRepeat ∷ None ∷ [])
    ≡ at_once ∷ at_once ∷ at_once ∷ at_once ∷ at_once ∷ at_once ∷ at_once ∷ at_once ∷ at_once ∷ at_once ∷ at_once ∷ at_once ∷ at_once ∷ at_once ∷ []
calm_not_needed r t free charging failure = refl

-- Demand 3 with this rule in place of silence and loss: for every circuit number and every two different point codes, whenever nothing is on its way and
-- neither end is in 5 or 12, the two records agree;
pub kept_agree : (own far cic : ℕ) → (own ≡ far → ⊥)
    → (r t : Record) (k j : Bool) → KeptCome (controls own far cic) (controls far own cic) (watched r k []) (watched t j [])
    → (r.state ≡ 5 → ⊥) → (r.state ≡ 12 → ⊥) → (t.state ≡ 5 → ⊥) → (t.state ≡ 12 → ⊥) → AgreeOn r t
unfolding ClaimKept
kept_agree own far cic different r t k j q r5 r12 t5 t12 =
    told_plainly SameStage SameStage.idle SameStage.seized SameStage.complete SameStage.free SameStage.answered SameStage.cleared r t
    (kept_ends_agree own far cic different (watched r k []) (watched t j []) q refl refl (not_awaiting r.state r12) (not_awaiting t.state t12))

-- an end rests in 5 only opposite one in 12;
pub kept_in5_only_opposite12 : (own far cic : ℕ) → (own ≡ far → ⊥)
    → (r t : Record) (k j : Bool) → KeptCome (controls own far cic) (controls far own cic) (watched r k []) (watched t j []) → r.state ≡ 5 → t.state ≡ 12
unfolding ClaimKept
kept_in5_only_opposite12 own far cic different r t k j q =
    opposite12 r.state t.state (λ r12 t12. (kept_ends_agree own far cic different (watched r k []) (watched t j []) q refl refl r12 t12).call)

-- and no signal is the next to arrive that never arrives.
pub kept_never_next : (own far cic : ℕ) → (own ≡ far → ⊥)
    → (r : Record) (k : Bool) (s : Signal) (w : List Signal) (y : WatchedEnd) → KeptCome (controls own far cic) (controls far own cic) (watched r k (s ∷ w)) y
    → Never s r.state → ⊥
kept_never_next own far cic different r k s w y q n =
    not_both (unheard r.state s) (unheard_then n) (kept_next_heard own far cic different (watched r k (s ∷ w)) y q s w refl)
  where
    unheard_then : {s : Signal} {p : ℕ} → Never s p → T (unheard p s)
    unheard_then (Never.release_guard {p} h k) = unheard_rlg p h k
    unheard_then Never.answer_charged = tt
    unheard_then Never.answer_free = tt
    unheard_then Never.clear_back = tt
    unheard_then Never.re_answer = tt
    unheard_then Never.clear_forward2 = tt
    unheard_then Never.clear_forward3 = tt
    unheard_then Never.clear_forward4 = tt

-- From any two legal records with nothing on its way: the second end's host gives whatever events it likes, as far as the rule allows them, and what
-- that end sends is on its way; then the first end, which has been still, restarts, and nothing is lost. Two ends can come to that too: so a restart
-- at a calm end heals whatever was lost before, as one does by which everything is lost.
pub restarted_while_other_sends : {a b : Bool} (r t : Record) → T (valid r) → T (valid t) → (events : List (Option Event))
    → KeptPairCome a b (after (kept_acts a) (kept_acts b) (watched r true [], watched t true []) (by_other events))
restarted_while_other_sends {a} {b} r t v v' events = restarted_amid a b r v t v' events

pub by_other_is : (e : Option Event) (events : List (Option Event))
    → (by_other [] ≡ first (host (event (Some (Ordered Restart)))) ∷ []) × (by_other (e ∷ events) ≡ second (host (event e)) ∷ by_other events)
by_other_is e events = (refl, refl)

-- Runs by this rule, from two idle ends that are calm. A call is seized; its end notes that nothing is on its way; an ACM is sent to it; being calm, it
-- restarts, and the ACM is not lost. All arrives, and both are idle. And timer 4 in 5, too early: nothing happens.
pub kept_runs_shown : kept_runs kept
    ≡ (first (kept_command 1 0) ∷ second arrives ∷ first (host lull) ∷ second (kept_command 3 0) ∷ first (kept_command 10 0) ∷ [])
    ∷ (first (kept_command 1 0) ∷ second arrives ∷ first (host lull) ∷ second (kept_command 3 0) ∷ first (kept_command 10 0)
    ∷ first arrives ∷ second arrives ∷ first arrives ∷ [])
    ∷ (first (kept_command 1 0) ∷ second arrives ∷ first (kept_command 2 0) ∷ first (kept_timer 4) ∷ [])
    ∷ []
kept_runs_shown = refl

pub kept_pairs_shown : kept_led kept
    ≡ (watched (plain 12) false (Acm 0 ∷ []), watched (plain 7) false (Rsc ∷ []))
    ∷ (watched (plain 0) false [], watched (plain 0) false [])
    ∷ (watched (plain 5) false [], watched (plain 6) false (Clf ∷ []))
    ∷ []
kept_pairs_shown = kept_as_told

pub kept_runs_reach : (run : KeptRun) → KeptPairCome true false (ran_kept (watched (plain 0) true [], watched (plain 0) true []) run)
kept_runs_reach = kept_reached
