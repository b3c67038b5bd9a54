-- Two ends that are reached stand in a room of the list, whatever happened, and their marks are in step. First what each happening does to two ends
-- that know whether they are calm; then the ends of `Ends`, which do not. Those of `Calm` have a file of their own.
-- Assumes nothing.
use Rattle.std.specs.Prelude.{Option, Some, None}
use Rattle.circuit.specs.declared.Event.{Event}
use mathlib.Core.Bool.{Bool, true, false, cond, not, ◌&&◌}
use mathlib.Core.List.{List, [], ◌∷◌, ◌++◌}
use mathlib.Core.Path.{◌≡◌, refl, sym, subst}
use Prim.Native.Nat.{ℕ, ◌<◌, suc-le-suc}
use lib.Dec.{T, leb, leb→le}
use Rattle.circuit.specs.declared.Record.{Record}
use Rattle.circuit.specs.declared.Signal.{Signal}
use Rattle.circuit.specs.declared.Command.TheVariants.{Seize, Release, AddressComplete, Answer, ClearBack, ReAnswer, FailCall, Block, Unblock, Restart}
use Rattle.circuit.specs.declared.Timer.TheVariants.{AddressWait, AnswerWait, IncomingHangUp, Repeat, OneMinute, BlockRepeat}
use Rattle.circuit.specs.declared.Event.TheVariants.{Arrives, Ordered, RunsOut}
use Rattle.circuit.specs.declared.Outcome.{Outcome}
use Rattle.circuit.specs.Records.{valid}
use Rattle.circuit.specs.Every.{implies}
use Rattle.circuit.specs.Groups.{controls}
use Rattle.circuit.proofs.Groups.{one_controls}
use Rattle.circuit.proofs.Every.{left, right}
use Rattle.ends.specs.Machine.{acted, arrival, when_given, none, silence, given, Happening, Happening.arrives, Happening.host, turn}
use Rattle.ends.specs.Ends.{End, end, idle, Pair, in_order, does, seen, end_acts, restart, Start, Start.both_idle, Start.first_restarted, Start.second_restarted, EndsCome}
use Rattle.ends.specs.Calm.{still, Leave, Leave.at_once, Leave.once_calm, Leave.withheld, waits, leave, ready}
use Rattle.ends.proofs.Machine.{always, mirror, all_lost}
use Rattle.ends.proofs.Words.{word, heard, heard_more}
use Rattle.ends.proofs.Events.{is_word}
use Rattle.ends.proofs.Moves.{Move, move_of, restart_moves, Table, by_cause, columns, look, completed, word_listed_lem, host_listed_lem}
use Rattle.ends.proofs.Rooms.{closed}
use Rattle.ends.proofs.Sound.{Inside, Lands, by_host_lem, by_calm_lem, by_lull_lem, by_word}
use Rattle.ends.proofs.Explored.{rooms, have_starts, tested, idle_listed, cut_listed_lem}
use Rattle.ends.proofs.Marks.{Marks, arrived, hosted, restarted, swapped}

pub table : Table
table = look (columns true) (columns false)

pub shut : T (closed table rooms)
unfolding table
shut = right (have_starts rooms) _ tested

listed_starts : T (have_starts rooms)
listed_starts = left (have_starts rooms) _ tested

abbrev pub state_of : End → ℕ
state_of e = e.holds.state

-- the words on their way to an end
abbrev pub due : End → List ℕ
due e = heard e.coming

abbrev empty : List ℕ → Bool
empty [] = true
empty (x ∷ w) = false

-- The two ends stand in a room of the list; c: the first is controlling; k, j: the first and the second are calm. Of an end that is calm nothing is on
-- its way.
pub record Stand (c k : Bool) (x : End) (j : Bool) (y : End) : Type 0 where
  pub calls : Inside rooms c k (state_of x) (due x) j (state_of y) (due y)
  pub of_first : T (implies k (empty (due y)))
  pub of_second : T (implies j (empty (due x)))

abbrev pub StandPair : (c k j : Bool) → Pair → Type 0
StandPair c k j p = Stand c k p.0 j p.1

-- the other way round
pub mirrored : (c k : Bool) (x : End) (j : Bool) (y : End) → Stand c k x j y → Stand (not c) j y k x
mirrored true k x j y i = record { calls = i.calls; of_first = i.of_second; of_second = i.of_first }
mirrored false k x j y i = record { calls = i.calls; of_first = i.of_second; of_second = i.of_first }

-- what sending leaves of the calm, and of what is then on its way

still_heard : (o : List Signal) (k : Bool) → still o k ≡ still (heard o) k
still_heard [] k = refl
still_heard (x ∷ o) k = refl

nothing_there : (k : Bool) → T (implies k true)
nothing_there true = tt
nothing_there false = tt

nothing_sent : (o v : List ℕ) (k : Bool) → T (implies k (empty v)) → T (implies (still o k) (empty (v ++ o)))
nothing_sent [] [] k h = h
nothing_sent [] (x ∷ v) k h = h
nothing_sent (x ∷ o) v k h = tt

-- what the host may give now, it may give to an end that is calm
pub calm_ready : (k : Bool) (p : Leave) → T (ready k p) → T (ready true p)
calm_ready k at_once h = tt
calm_ready k once_calm h = tt
calm_ready k withheld h = h

-- an end has acted, and k tells whether it is calm after that
landed : (c k j : Bool) (o : Outcome) (rest : List Signal) (other : End) → Lands rooms c k (heard rest) j (state_of other) (due other) (move_of o)
    → T (implies k (empty (due other ++ heard (in_order o.sends)))) → T (implies j (empty (heard rest))) → StandPair c k j (acted (seen o) rest other)
landed c k j o rest other h f g = record { calls = rw more h; of_first = rw more f; of_second = g }
  where
    more : heard (other.coming ++ in_order o.sends) ≡ due other ++ heard (in_order o.sends)
    more = heard_more other.coming (in_order o.sends)

module _ (c : Bool) where
  -- a signal arrives: the other end has sent it, so that one is not calm
  pub takes : (k j : Bool) (r : Record) (x : Signal) (rest : List Signal) (other : End) → T (valid r) → Stand c k (end r (x ∷ rest)) j other
      → StandPair c false j (acted (seen (does c r (Some (Arrives x)))) rest other)
  unfolding table
  takes k true r x rest other v i = absurd i.of_second
  takes k false r x rest other v i = landed c false false o rest other
      (by_word table rooms shut c k r.state (word x) (heard rest) (state_of other) (due other) i.calls (is_word x) o.after.state (heard (in_order o.sends))
      (word_listed_lem table completed c r v x)) tt tt
    where
      o : Outcome
      o = does c r (Some (Arrives x))

  -- the host gives an event
  module _ (k j : Bool) (me other : End) (v : T (valid me.holds)) (i : Stand c k me j other) (e : Option Event) where
    abbrev o : Outcome
    o = does c me.holds e

    abbrev sent : List ℕ
    sent = heard (in_order o.sends)

    moves : (k : Bool) → Stand c k me j other → (p : Leave) → T (ready k p) → T (by_cause p (move_of o) (table c (state_of me)))
        → Lands rooms c (still sent k) (due me) j (state_of other) (due other) (move_of o)
    moves k i at_once h m = by_host_lem table rooms shut c k (state_of me) (due me) j (state_of other) (due other) i.calls o.after.state sent m
    moves true i once_calm h m = by_calm_lem table rooms shut c (state_of me) (due me) j (state_of other) (due other) i.calls o.after.state sent m
    moves false i once_calm h m = absurd h
    moves k i withheld h m = absurd h

    pub gets : T (ready k (leave me.holds e)) → StandPair c (still (in_order o.sends) k) j (acted (seen o) me.coming other)
    unfolding table
    gets h = rw (still_heard (in_order o.sends) k)
        (landed c (still sent k) j o me.coming other (moves k i (leave me.holds e) h (host_listed_lem table completed c me.holds v e))
        (nothing_sent sent (due other) k i.of_first) i.of_second)

  below : (r : Record) → T (valid r) → r.state < 13
  below r v = suc-le-suc (leb→le r.state 12 (left (leb r.state 12) _ v))

  -- a restart by which everything is lost, so that it asks nothing of what was before: a run may start with it
  pub loses : (j : Bool) (r : Record) (other : End) → T (valid r) → T (valid other.holds)
      → StandPair c false j (acted (seen (does c r (Some (Ordered Restart)))) [] (end other.holds []))
  loses j r other v w = landed c false j (does c r (Some (Ordered Restart))) [] (end other.holds [])
      (subst (λ (m : Move). Lands rooms c false [] j (state_of other) [] m) (sym (restart_moves c r v))
      (cut_listed_lem rooms listed_starts c j (state_of other) (below other.holds w))) tt (nothing_there j)

  -- an end notes that nothing is on its way
  pub notes : (k j : Bool) (r : Record) (q : List Signal) (t : Record) (v : List Signal) → T (none (λ (s : Signal). true) q && none (λ (s : Signal). true) v)
      → Stand c k (end r q) j (end t v) → Stand c true (end r q) j (end t v)
  notes k j r [] t [] e i = record { calls = by_lull_lem table rooms shut c k r.state j t.state i.calls; of_first = tt; of_second = i.of_second }
  notes k j r [] t (y ∷ v) e i = absurd e
  notes k j r (x ∷ q) t v e i = absurd e

-- two idle ends with nothing on its way
pub idly : (c k j : Bool) → Stand c k idle j idle
idly true k j = record { calls = idle_listed rooms listed_starts k j; of_first = nothing_there k; of_second = nothing_there j }
idly false k j = record { calls = idle_listed rooms listed_starts j k; of_first = nothing_there k; of_second = nothing_there j }

-- what holds of every pair that is reached; c: the first end is controlling. The ends of this machine do not know whether they are calm, but they stand
-- as two would that do.
pub record Holds (c : Bool) (x y : End) : Type 0 where
  pub blocks : Marks x y
  pub first_calm : Bool
  pub second_calm : Bool
  pub stands : Stand c first_calm x second_calm y

abbrev HoldsPair : Bool → Pair → Type 0
HoldsPair c p = Holds c p.0 p.1

pub changed : (c : Bool) (x y : End) → Holds c x y → Holds (not c) y x
changed c x y i = record {
  blocks = swapped i.blocks;
  first_calm = i.second_calm;
  second_calm = i.first_calm;
  stands = mirrored c i.first_calm x i.second_calm y i.stands;
}

again : (c : Bool) (x y : End) → Holds (not c) x y → Holds c y x
again true x y i = changed false x y i
again false x y i = changed true x y i

-- it speaks of words alone, so signals that have the same ones may stand for one another
pub same_words : (c : Bool) (r : Record) (w : List Signal) (t : Record) (v u : List Signal) → heard v ≡ heard u → Holds c (end r w) (end t v) → Holds c (end r w) (end t u)
same_words c r w t v u e i = record {
  blocks = record { there = rw (← e) i.blocks.there; back = rw (← e) i.blocks.back; mine = i.blocks.mine; yours = i.blocks.yours };
  first_calm = i.first_calm;
  second_calm = i.second_calm;
  stands = record { calls = rw (← e) i.stands.calls; of_first = rw (← e) i.stands.of_first; of_second = i.stands.of_second };
}

-- it holds at the start

pub restarts : (c : Bool) (x y : End) → T (valid x.holds) → T (valid y.holds) → Holds c (turn (end_acts c) restart x y).0 (turn (end_acts c) restart x y).1
restarts c x y vx vy = rw (all_lost x.coming, all_lost y.coming) (record {
  blocks = restarted c y x.holds vx vy;
  first_calm = false;
  second_calm = false;
  stands = loses c false x.holds y vx vy;
})

pub idles : (c : Bool) → Holds c idle idle
idles c = record { blocks = record { there = tt; back = tt; mine = tt; yours = tt }; first_calm = true; second_calm = true; stands = idly c true true }

-- And whatever happens keeps it. What may happen only in silence happens to an end that notes it, and so is calm.

module _ (c : Bool) where
  keeps_arrival : (r : Record) (q : List Signal) (other : End) → Holds c (end r q) other → HoldsPair c (arrival (end_acts c) r q other)
  keeps_arrival r [] other i = i
  keeps_arrival r (x ∷ rest) other i = record {
    blocks = arrived c other r x rest i.blocks;
    first_calm = false;
    second_calm = i.second_calm;
    stands = takes c i.first_calm i.second_calm r x rest other i.blocks.mine i.stands;
  }

  module _ (me other : End) (i : Holds c me other) where
    abbrev r : Record
    r = me.holds

    abbrev v : T (valid me.holds)
    v = i.blocks.mine

    -- the host gives an event to an end that is calm or not, as k tells
    gives : (k : Bool) → Stand c k me i.second_calm other → (e : Option Event) → T (ready k (leave r e)) → HoldsPair c (acted (seen (does c r e)) me.coming other)
    gives k s e h = record {
      blocks = hosted c other me i.blocks e (calm_ready k (leave r e) h);
      first_calm = still (in_order (does c r e).sends) k;
      second_calm = i.second_calm;
      stands = gets c k i.second_calm me other v s e h;
    }

    freely : (e : Option Event) → T (ready i.first_calm (leave r e)) → HoldsPair c (acted (seen (does c r e)) me.coming other)
    freely = gives i.first_calm i.stands

    silently : (e : Option Event) → T (ready true (leave r e)) → HoldsPair c (cond (silence (λ (s : Signal). true) me other) (acted (seen (does c r e)) me.coming other) (me, other))
    silently e h = by (silence (λ (s : Signal). true) me other) (λ s. notes c i.first_calm i.second_calm r me.coming other.holds other.coming s i.stands)
      where
        by : (s : Bool) → (T s → Stand c true me i.second_calm other) → HoldsPair c (cond s (acted (seen (does c r e)) me.coming other) (me, other))
        by true s = gives true (s tt) e h
        by false s = i

    when_waiting : (b : Bool) → T (ready true (cond b once_calm at_once))
    when_waiting true = tt
    when_waiting false = tt

    keeps_host : (e : Option Event) → HoldsPair c (given (end_acts c) (when_given e) e me other)
    keeps_host (Some (Arrives s)) = i
    keeps_host (Some (Ordered Seize)) = freely (Some (Ordered Seize)) tt
    keeps_host (Some (Ordered Release)) = freely (Some (Ordered Release)) tt
    keeps_host (Some (Ordered (AddressComplete t free))) = freely (Some (Ordered (AddressComplete t free))) tt
    keeps_host (Some (Ordered (Answer charging))) = freely (Some (Ordered (Answer charging))) tt
    keeps_host (Some (Ordered ClearBack)) = freely (Some (Ordered ClearBack)) tt
    keeps_host (Some (Ordered ReAnswer)) = freely (Some (Ordered ReAnswer)) tt
    keeps_host (Some (Ordered (FailCall f))) = freely (Some (Ordered (FailCall f))) tt
    keeps_host (Some (Ordered Block)) = freely (Some (Ordered Block)) tt
    keeps_host (Some (Ordered Unblock)) = freely (Some (Ordered Unblock)) tt
    keeps_host (Some (Ordered Restart)) = restarts c me other v i.blocks.yours
    keeps_host (Some (RunsOut AddressWait)) = freely (Some (RunsOut AddressWait)) tt
    keeps_host (Some (RunsOut AnswerWait)) = freely (Some (RunsOut AnswerWait)) tt
    keeps_host (Some (RunsOut IncomingHangUp)) = freely (Some (RunsOut IncomingHangUp)) tt
    keeps_host (Some (RunsOut Repeat)) = silently (Some (RunsOut Repeat)) (when_waiting (waits r))
    keeps_host (Some (RunsOut OneMinute)) = silently (Some (RunsOut OneMinute)) (when_waiting (waits r))
    keeps_host (Some (RunsOut BlockRepeat)) = silently (Some (RunsOut BlockRepeat)) tt
    keeps_host None = freely None tt

pub keeps : (c : Bool) (x y : End) (h : Happening (Option Event)) → Holds c x y → Holds c (turn (end_acts c) h x y).0 (turn (end_acts c) h x y).1
keeps c x y arrives i = keeps_arrival c x.holds x.coming y i
keeps c x y (host e) i = keeps_host c x y i e

-- two ends, of which one controls the circuit
module _ (c : Bool) where
  keeps_second : (x y : End) (h : Happening (Option Event)) → Holds c x y → Holds c (turn (end_acts (not c)) h y x).1 (turn (end_acts (not c)) h y x).0
  keeps_second x y h i = again c (turn (end_acts (not c)) h y x).0 (turn (end_acts (not c)) h y x).1 (keeps (not c) y x h (changed c x y i))

  started : (x y : End) → Start c (not c) x y → Holds c x y
  started x y both_idle = idles c
  started x y (first_restarted p q v w) = restarts c p q v w
  started x y (second_restarted p q v w) = again c (turn (end_acts (not c)) restart q p).0 (turn (end_acts (not c)) restart q p).1 (restarts (not c) q p w v)

  pub holds : {x y : End} → EndsCome c (not c) x y → Holds c x y
  holds = always (Holds c) started (keeps c) keeps_second

-- in any group whose codes differ
pub in_any_group : (own far cic : ℕ) → (own ≡ far → ⊥) → {x y : End} → EndsCome (controls own far cic) (controls far own cic) x y → Holds (controls own far cic) x y
in_any_group own far cic different {x} {y} r =
    holds (controls own far cic) (subst (λ (b : Bool). EndsCome (controls own far cic) b x y) (one_controls own far cic different) r)

-- the two ends change places
pub mirror_ends : {a b : Bool} {x y : End} → EndsCome a b x y → EndsCome b a y x
mirror_ends {a} {b} = mirror turns
  where
    turns : (x y : End) → Start a b x y → Start b a y x
    turns x y both_idle = both_idle
    turns x y (first_restarted p q v w) = second_restarted q p w v
    turns x y (second_restarted p q v w) = first_restarted q p w v
