-- What an exchange's host gives, and what befalls the link: each is something that happens to the circuit's two ends, or leaves them as they are.
-- Assumes nothing.
use Rattle.std.specs.Prelude.{Option}
use Rattle.circuit.specs.declared.Event.{Event}
use mathlib.Core.Path.{◌≡◌, refl, sym, ap, ◌∙◌, subst, subst₂}
use mathlib.Core.Bool.{Bool, true, false, cond, not, ◌&&◌, false≢true}
use mathlib.Core.List.{List, [], append-nil}
use Prim.Native.Nat.{ℕ}
use borrow.Author.Tests.{eqb-true, eqb-false}
use lib.Dec.{T, eqb}
use lib.ListN.{length}
use Rattle.circuit.specs.declared.Signal.{Signal}
use Rattle.circuit.specs.Groups.{controls}
use Rattle.circuit.proofs.Every.{left, right}
use Rattle.codes.specs.Numbers.{event_of}
use Rattle.layout.specs.Layout.{records_in, record_at}
use Rattle.group.specs.Table.{step_in}
use Rattle.ends.specs.Machine.{acted, When, When.any_time, When.in_silence, When.losing_all, When.never, when_given, none, without, silence, given, Happening, Happening.arrives, Happening.host, turn}
use Rattle.ends.specs.Ends.{end, end_acts}
use Rattle.ends.proofs.Machine.{all_lost}
use Rattle.ends.proofs.Standing.{Holds, keeps}
use Rattle.exchanges.specs.Link.{Message, Exchange, is_about, Particulars, good, Gift, Gift.event, Gift.heedless, Gift.foreign, Gift.losses, steps, refused13, exchange_acts}
use Rattle.exchanges.proofs.Seen.{signals, silent, lost_all, lost_beside, lost_others, foreign_last}
use Rattle.exchanges.proofs.Carried.{Good, end_at, LinkHolds, HoldsPair, EndsActed, on_it, beside_it, not_barred}
use Rattle.exchanges.proofs.Arrives.{keeps_arrival}

module _ (own far cic : ℕ) where
  -- on the circuit
  module _ (x y : Exchange) (g : Good own far cic x.holds) (k : Good far own cic y.holds) (e : Option Event) (p : Particulars) (gp : T (good p))
      (not13 : (step_in own far x.holds cic e).answer.refusal ≡ 13 → ⊥) where
    abbrev pub seen_by : List Message → List Signal
    seen_by = signals own far (records_in (length x.holds)) cic

    abbrev pub seen_there : List Message → List Signal
    seen_there = signals far own (records_in (length y.holds)) cic

    -- what the two ends come to, and what the exchanges do
    abbrev pub EndsAct : (w v : List Signal) → Type 0
    EndsAct = EndsActed own far cic x.holds y.holds g k e

    abbrev pub Acts : (w v : List Message) → Type 0
    Acts w v = HoldsPair own far cic (acted (steps own far cic x.holds cic e p) w (record { holds = y.holds; coming = v }))

    act : (w v : List Message) → EndsAct (seen_by w) (seen_there v) → Acts w v
    act w v = on_it own far cic x.holds y.holds g k e p w v gp not13

    -- nothing of the circuit is on its way
    act_fresh : (w v : List Message) → seen_by w ≡ [] → seen_there v ≡ [] → EndsAct [] [] → Acts w v
    act_fresh w v ew ev i = act w v (subst₂ EndsAct (sym ew) (sym ev) i)

    -- all of it is lost
    pub lose : EndsAct [] [] → Acts (without (is_about cic) x.coming) (without (is_about cic) y.coming)
    lose = act_fresh (without (is_about cic) x.coming) (without (is_about cic) y.coming)
        (lost_all own far (records_in (length x.holds)) cic x.coming) (lost_all far own (records_in (length y.holds)) cic y.coming)

    -- the host of the circuit's end gives it
    abbrev EndsGiven : When → List Signal → List Signal → Type 0
    EndsGiven w q v = let r = given (end_acts (controls own far cic)) w e (end (record_at x.holds cic) q) (end (record_at y.holds cic) v) in Holds (controls own far cic) r.0 r.1

    module _ (i : Holds (controls own far cic) (end_at own far cic x) (end_at far own cic y)) where
      hosted : (w : When) → when_given e ≡ w → EndsGiven w (seen_by x.coming) (seen_there y.coming)
      hosted w q = subst (λ (w : When). EndsGiven w (seen_by x.coming) (seen_there y.coming)) q (keeps (controls own far cic) (end_at own far cic x) (end_at far own cic y) (host e) i)

      in_quiet : when_given e ≡ in_silence → T (silence (is_about cic) x y) → Acts x.coming y.coming
      in_quiet q t =
          let ew = silent own far (records_in (length x.holds)) cic x.coming (left (none (is_about cic) x.coming) _ t) in
          let ev = silent far own (records_in (length y.holds)) cic y.coming (right (none (is_about cic) x.coming) _ t) in
          act_fresh x.coming y.coming ew ev
          (subst (λ (w : When). EndsGiven w [] []) q (keeps (controls own far cic) (end (record_at x.holds cic) []) (end (record_at y.holds cic) []) (host e)
          (subst₂ (λ (w v : List Signal). Holds (controls own far cic) (end (record_at x.holds cic) w) (end (record_at y.holds cic) v)) ew ev i)))

      act_losing : when_given e ≡ losing_all → Acts (without (is_about cic) x.coming) (without (is_about cic) y.coming)
      act_losing q = lose (subst₂ EndsAct (all_lost (seen_by x.coming)) (all_lost (seen_there y.coming)) (hosted losing_all q))

  -- on whatever circuit
  module _ (x y : Exchange) (h : LinkHolds own far cic x y) (i kind code detail : ℕ) (p : Particulars) where
    abbrev ev : Option Event
    ev = event_of kind code detail

    abbrev Given : (i : ℕ) → When → Type 0
    Given i w = HoldsPair own far cic (given (exchange_acts own far cic) w (event i kind code detail p) x y)

    module _ (gp : T (good p)) (not13 : (step_in own far x.holds cic ev).answer.refusal ≡ 13 → ⊥) where
      given_here : (w : When) → when_given ev ≡ w → Given cic w
      given_here any_time q = act x y h.first h.second ev p gp not13 x.coming y.coming (hosted x y h.first h.second ev p gp not13 h.ends any_time q)
      given_here in_silence q = by (silence (is_about cic) x y) refl
        where
          by : (b : Bool) → silence (is_about cic) x y ≡ b → HoldsPair own far cic (cond b (acted (steps own far cic x.holds cic ev p) x.coming y) (x, y))
          by true s = in_quiet x y h.first h.second ev p gp not13 h.ends q (subst T (sym s) tt)
          by false s = h
      given_here losing_all q = act_losing x y h.first h.second ev p gp not13 h.ends q
      given_here never q = h

    given_beside : (i ≡ cic → ⊥) → (w : When) → Given i w
    given_beside other any_time = beside_it own far cic x.holds y.holds h.first h.second i other ev p x.coming y.coming h.ends
    given_beside other in_silence = by (silence (is_about i) x y)
      where
        by : (b : Bool) → HoldsPair own far cic (cond b (acted (steps own far cic x.holds i ev p) x.coming y) (x, y))
        by true = beside_it own far cic x.holds y.holds h.first h.second i other ev p x.coming y.coming h.ends
        by false = h
    given_beside other losing_all = beside_it own far cic x.holds y.holds h.first h.second i other ev p (without (is_about i) x.coming) (without (is_about i) y.coming)
        (subst₂ (λ (w v : List Signal). Holds (controls own far cic) (end (record_at x.holds cic) w) (end (record_at y.holds cic) v))
        (sym (lost_others own far (records_in (length x.holds)) cic i other x.coming)) (sym (lost_others far own (records_in (length y.holds)) cic i other y.coming)) h.ends)
    given_beside other never = h

    -- the event is given only with good particulars and where it is not refused 13
    given_if : (g r : Bool) → good p ≡ g → refused13 own far cic x.holds i ev ≡ r → Given i (cond (g && not r) (when_given ev) never)
    given_if false r a b = h
    given_if true true a b = h
    given_if true false a b = go (eqb i cic) refl
      where
        go : (d : Bool) → eqb i cic ≡ d → Given i (when_given ev)
        go true d = let is : i ≡ cic = eqb-true i cic d in subst (λ (j : ℕ). Given j (when_given ev)) (sym is)
            (given_here (subst T (sym a) tt) (not_barred own far cic x.holds ev (subst (λ (j : ℕ). refused13 own far cic x.holds j ev ≡ false) is b)) (when_given ev) refl)
        go false d = given_beside (eqb-false i cic d) (when_given ev)

  -- octets that neither exchange wrote
  strange : (x y : Exchange) → LinkHolds own far cic x y → (m : Message) (b : Bool) → is_about cic m ≡ b
      → HoldsPair own far cic (given (exchange_acts own far cic) (cond b never any_time) (foreign m) x y)
  strange x y h m true e = h
  strange x y h m false e = record {
    first = h.first;
    second = h.second;
    ends = subst (λ (l : List Signal). Holds (controls own far cic) (end_at own far cic x) (end (record_at y.holds cic) l)) (sym (foreign_last far own (records_in (length y.holds)) cic y.coming m e)) h.ends;
  }

  -- messages of other circuits are lost
  lost_on_the_link : (x y : Exchange) → LinkHolds own far cic x y → (such : Message → Bool)
      → HoldsPair own far cic (given (exchange_acts own far cic) losing_all (losses such) x y)
  lost_on_the_link x y h such = record {
    first = h.first;
    second = h.second;
    ends = subst₂ (λ (w v : List Signal). Holds (controls own far cic) (end (record_at x.holds cic) w) (end (record_at y.holds cic) v))
        (sym (lost_beside own far (records_in (length x.holds)) cic gone other x.coming))
        (sym (ap (signals far own (records_in (length y.holds)) cic) (append-nil (without gone y.coming)) ∙ lost_beside far own (records_in (length y.holds)) cic gone other y.coming))
        h.ends;
  }
    where
      gone : Message → Bool
      gone m = such m && not (is_about cic m)

      other : (m : Message) → gone m ≡ true → is_about cic m ≡ false
      other m = by (such m) (is_about cic m)
        where
          by : (a b : Bool) → (a && not b) ≡ true → b ≡ false
          by true true e = absurd (false≢true e)
          by true false e = refl
          by false b e = absurd (false≢true e)

  -- an event on another circuit, whenever it comes
  heedlessly : (x y : Exchange) → LinkHolds own far cic x y → (i kind code detail : ℕ) (p : Particulars) (b : Bool) → eqb i cic ≡ b
      → HoldsPair own far cic (given (exchange_acts own far cic) (cond b never any_time) (heedless i kind code detail p) x y)
  heedlessly x y h i kind code detail p true e = h
  heedlessly x y h i kind code detail p false e =
      beside_it own far cic x.holds y.holds h.first h.second i (eqb-false i cic e) (event_of kind code detail) p x.coming y.coming h.ends

  pub keeps_link : (x y : Exchange) (g : Happening Gift) → LinkHolds own far cic x y → HoldsPair own far cic (turn (exchange_acts own far cic) g x y)
  keeps_link x y arrives h = keeps_arrival own far cic x.holds x.coming y h
  keeps_link x y (host (event i kind code detail p)) h = given_if x y h i kind code detail p (good p) (refused13 own far cic x.holds i (event_of kind code detail)) refl refl
  keeps_link x y (host (heedless i kind code detail p)) h = heedlessly x y h i kind code detail p (eqb i cic) refl
  keeps_link x y (host (losses such)) h = lost_on_the_link x y h such
  keeps_link x y (host (foreign m)) h = strange x y h m (is_about cic m) refl
