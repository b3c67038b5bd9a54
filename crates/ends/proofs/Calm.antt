-- The theorem under the rule that a host can keep: two ends of one circuit agree whenever nothing is on its way and neither awaits reset.
-- Assumes nothing.
use Rattle.std.specs.Prelude.{Option, Some}
use Rattle.circuit.specs.declared.Event.{Event}
use mathlib.Core.Bool.{Bool, true, false, cond, not}
use mathlib.Core.List.{List, [], ◌∷◌, ◌++◌, append-nil}
use mathlib.Core.Logic.{◌⊎◌, inl, inr}
use mathlib.Core.Path.{◌≡◌, refl, subst}
use Prim.Native.Nat.{ℕ}
use lib.Dec.{T}
use borrow.Author.Tests.{ne_eqb}
use Rattle.circuit.specs.declared.Record.{Record}
use Rattle.circuit.specs.declared.Signal.{Signal}
use Rattle.circuit.specs.declared.Signal.TheVariants.{Rsc}
use Rattle.circuit.specs.declared.Command.TheVariants.{Restart}
use Rattle.circuit.specs.declared.Event.TheVariants.{Ordered}
use Rattle.circuit.specs.declared.Sends.TheVariants.{One}
use Rattle.circuit.specs.Records.{valid, restarted as forgotten}
use Rattle.circuit.specs.Rows.{answered}
use Rattle.circuit.specs.Groups.{controls}
use Rattle.circuit.proofs.Groups.{one_controls}
use Rattle.step.specs.Step.{step_found}
use Rattle.step.proofs.Erred.{restart_forgets}
use Rattle.ends.specs.Machine.{Both, acted, arrival, When.any_time, When.never, silence, given, Happening, Happening.arrives, Happening.host, turn, after, Reached.start, Reached.at_second}
use Rattle.ends.specs.Ends.{in_order, does, NextIsHeard}
use Rattle.ends.specs.Calm.{Watched, WatchedEnd, watched, bare, still, Gift, Gift.event, Gift.cut, Gift.lull, Leave.at_once, Leave.once_calm, waits, leave, ready, seen_calm, gives_kept, kept_acts, KeptStart, KeptStart.both_idle, KeptStart.first_restarted, KeptStart.second_restarted, KeptCome, ClaimKept, by_other}
use Rattle.ends.proofs.Machine.{always, mirror, all_lost}
use Rattle.ends.proofs.Marks.{Marks, arrived, hosted, restarted, swapped}
use Rattle.ends.proofs.Standing.{Stand, mirrored, calm_ready, takes, gets, loses, notes, idly, Holds}
use Rattle.ends.proofs.Claim.{agreed}
use Rattle.ends.proofs.Heard.{next_heard}

-- timers 4 and 5 wait in 5 and in 12
pub waiting : (r : Record) → (r.state ≡ 5) ⊎ (r.state ≡ 12) → cond (waits r) once_calm at_once ≡ once_calm
waiting r (inl e) = rw e refl
waiting r (inr e) = rw e refl

pub not_waiting : (r : Record) → (r.state ≡ 5 → ⊥) → (r.state ≡ 12 → ⊥) → cond (waits r) once_calm at_once ≡ at_once
not_waiting r h k = rw (ne_eqb r.state 5 h, ne_eqb r.state 12 k) refl

-- what holds of every pair that is reached; c: the first end is controlling
record Keeps (c : Bool) (x y : WatchedEnd) : Type 0 where
  blocks : Marks (bare x) (bare y)
  stands : Stand c x.holds.calm (bare x) y.holds.calm (bare y)

abbrev KeepsPair : Bool → Both Watched Signal → Type 0
KeepsPair c p = Keeps c p.0 p.1

-- the other way round
changed : (c : Bool) (x y : WatchedEnd) → Keeps c x y → Keeps (not c) y x
changed c x y i = record { blocks = swapped i.blocks; stands = mirrored c x.holds.calm (bare x) y.holds.calm (bare y) i.stands }

again : (c : Bool) (x y : WatchedEnd) → Keeps (not c) x y → Keeps c y x
again true x y i = changed false x y i
again false x y i = changed true x y i

-- a restart by which everything is lost, whatever was before
cuts : (c : Bool) (x y : WatchedEnd) → T (valid x.holds.of) → T (valid y.holds.of) → KeepsPair c (turn (kept_acts c) (host cut) x y)
cuts c x y vx vy = rw (all_lost x.coming, all_lost y.coming) (record {
  blocks = restarted c (bare y) x.holds.of vx vy;
  stands = loses c y.holds.calm x.holds.of (bare y) vx vy;
})

-- whatever happens keeps it

module _ (c : Bool) where
  keeps_arrival : (h : Watched) (q : List Signal) (other : WatchedEnd) → Keeps c (record { holds = h; coming = q }) other → KeepsPair c (arrival (kept_acts c) h q other)
  keeps_arrival h [] other i = i
  keeps_arrival h (x ∷ rest) other i = record {
    blocks = arrived c (bare other) h.of x rest i.blocks;
    stands = takes c h.calm other.holds.calm h.of x rest (bare other) i.blocks.mine i.stands;
  }

  module _ (me other : WatchedEnd) (i : Keeps c me other) where
    abbrev k : Bool
    k = me.holds.calm

    abbrev j : Bool
    j = other.holds.calm

    abbrev r : Record
    r = me.holds.of

    keeps_event : (e : Option Event) → KeepsPair c (given (kept_acts c) (cond (ready k (leave r e)) any_time never) (event e) me other)
    keeps_event e = by (ready k (leave r e)) (λ h. record {
      blocks = hosted c (bare other) (bare me) i.blocks e (calm_ready k (leave r e) h);
      stands = gets c k j (bare me) (bare other) i.blocks.mine i.stands e h;
    })
      where
        by : (q : Bool) → (T q → KeepsPair c (acted (seen_calm (still (in_order (does c r e).sends) k) (does c r e)) me.coming other))
            → KeepsPair c (given (kept_acts c) (cond q any_time never) (event e) me other)
        by true f = f tt
        by false f = i

    keeps_lull : KeepsPair c (turn (kept_acts c) (host lull) me other)
    keeps_lull = by (silence (λ (s : Signal). true) me other) (λ s. notes c k j r me.coming other.holds.of other.coming s i.stands)
      where
        by : (q : Bool) → (T q → Stand c true (bare me) j (bare other))
            → KeepsPair c (cond q (acted (gives_kept c me.holds lull) me.coming other) (me, other))
        by true f = rw (append-nil other.coming) (record { blocks = i.blocks; stands = f tt })
        by false f = i

    keeps_host : (g : Gift) → KeepsPair c (turn (kept_acts c) (host g) me other)
    keeps_host (event e) = keeps_event e
    keeps_host cut = cuts c me other i.blocks.mine i.blocks.yours
    keeps_host lull = keeps_lull

  keeps : (x y : WatchedEnd) (h : Happening Gift) → Keeps c x y → KeepsPair c (turn (kept_acts c) h x y)
  keeps x y arrives i = keeps_arrival x.holds x.coming y i
  keeps x y (host g) i = keeps_host x y i g

module _ (c : Bool) where
  keeps_second : (x y : WatchedEnd) (h : Happening Gift) → Keeps c x y → Keeps c (turn (kept_acts (not c)) h y x).1 (turn (kept_acts (not c)) h y x).0
  keeps_second x y h i = again c (turn (kept_acts (not c)) h y x).0 (turn (kept_acts (not c)) h y x).1 (keeps (not c) y x h (changed c x y i))

  started : (x y : WatchedEnd) → KeptStart c (not c) x y → Keeps c x y
  started x y (both_idle k j) = record { blocks = record { there = tt; back = tt; mine = tt; yours = tt }; stands = idly c k j }
  started x y (first_restarted p q v w) = cuts c p q v w
  started x y (second_restarted p q v w) = again c (turn (kept_acts (not c)) (host cut) q p).0 (turn (kept_acts (not c)) (host cut) q p).1 (cuts (not c) q p w v)

  kept_holds : {x y : WatchedEnd} → KeptCome c (not c) x y → Keeps c x y
  kept_holds = always (Keeps c) started (keeps c) keeps_second

-- so two such ends stand as those of `Ends` do
pub kept_held : (own far cic : ℕ) → (own ≡ far → ⊥) → (x y : WatchedEnd) → KeptCome (controls own far cic) (controls far own cic) x y
    → Holds (controls own far cic) (bare x) (bare y)
kept_held own far cic different x y r = record { blocks = i.blocks; first_calm = x.holds.calm; second_calm = y.holds.calm; stands = i.stands }
  where
    i : Keeps (controls own far cic) x y
    i = kept_holds (controls own far cic) (subst (λ (b : Bool). KeptCome (controls own far cic) b x y) (one_controls own far cic different) r)

pub kept_ends_agree : ClaimKept
unfolding ClaimKept
kept_ends_agree own far cic different x y r = agreed (controls own far cic) (bare x) (bare y) (kept_held own far cic different x y r)

-- no signal is the next to arrive that is never heard
pub kept_next_heard : (own far cic : ℕ) → (own ≡ far → ⊥) → (x y : WatchedEnd) → KeptCome (controls own far cic) (controls far own cic) x y → NextIsHeard (bare x)
kept_next_heard own far cic different x y r = next_heard (controls own far cic) (bare x) (bare y) (kept_held own far cic different x y r)

-- the two ends change places
pub mirror_kept : {a b : Bool} {x y : WatchedEnd} → KeptCome a b x y → KeptCome b a y x
mirror_kept {a} {b} = mirror turns
  where
    turns : (x y : WatchedEnd) → KeptStart a b x y → KeptStart b a y x
    turns x y (both_idle k j) = both_idle j k
    turns x y (first_restarted p q v w) = second_restarted q p w v
    turns x y (second_restarted p q v w) = first_restarted q p w v

-- What the second end sent just before the first one restarted might as well have been sent just after: the restart does not look at its queue. So
-- from any two legal records with nothing on its way, the pair is reached, though it was not when the second end acted.
module _ (a b : Bool) (r : Record) (v : T (valid r)) where
  abbrev Comes : Both Watched Signal → Type 0
  Comes p = KeptCome a b p.0 p.1

  resets : does a r (Some (Ordered Restart)) ≡ answered forgotten (One Rsc) 0
  unfolding does step_found
  resets = restart_forgets a r v

  at_last : (q : List Signal) (t : Record) (j : Bool) → Comes (watched forgotten false q, watched t j (Rsc ∷ []))
      → Comes (after (kept_acts a) (kept_acts b) (watched r true q, watched t j []) (by_other []))
  at_last q t j c = rw resets c

  amid : (events : List (Option Event)) (q : List Signal) (t : Record) (j : Bool) → Comes (watched forgotten false q, watched t j (Rsc ∷ []))
      → Comes (after (kept_acts a) (kept_acts b) (watched r true q, watched t j []) (by_other events))
  amid [] q t j c = at_last q t j c
  amid (e ∷ events) q t j c = by (ready j (leave t e)) (at_second c (host (event e))) (λ q t j k. amid events q t j k)
    where
      step : Bool → WatchedEnd → WatchedEnd → Both Watched Signal
      step d x y = let p = given (kept_acts b) (cond d any_time never) (event e) y x in (p.1, p.0)

      by : (d : Bool) → Comes (step d (watched forgotten false q) (watched t j (Rsc ∷ [])))
          → ((q : List Signal) (t : Record) (j : Bool) → Comes (watched forgotten false q, watched t j (Rsc ∷ [])) → Comes (after (kept_acts a) (kept_acts b) (watched r true q, watched t j []) (by_other events)))
          → Comes (after (kept_acts a) (kept_acts b) (step d (watched r true q) (watched t j [])) (by_other events))
      by true k ih = ih (q ++ in_order (does b t e).sends) (does b t e).after (still (in_order (does b t e).sends) j) k
      by false k ih = ih q t j k

  pub restarted_amid : (t : Record) → T (valid t) → (events : List (Option Event)) → Comes (after (kept_acts a) (kept_acts b) (watched r true [], watched t true []) (by_other events))
  restarted_amid t w events = amid events [] t true (rw resets at first)
    where
      first : Comes (turn (kept_acts a) (host cut) (watched r true []) (watched t true []))
      first = start (first_restarted (watched r true []) (watched t true []) v w)
