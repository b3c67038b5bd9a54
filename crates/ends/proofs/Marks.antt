-- The blocks: what an end holds of the other's block, brought up to date by what is on its way to it, is what the other has. Or an RSC is on its
-- way to the other, which will then say its block again. And records stay valid.
-- What an event does to the marks is one test over all records and events, and what a restart does by which everything is lost, another.
-- Assumes nothing.
use Rattle.std.specs.Prelude.{Option, Some}
use Rattle.circuit.specs.declared.Event.{Event}
use mathlib.Core.Bool.{Bool, true, false, cond, not, ◌&&◌, ◌||◌}
use mathlib.Core.List.{List, [], ◌∷◌, ◌++◌}
use mathlib.Core.Path.{◌≡◌, refl}
use Prim.Native.Nat.{ℕ}
use lib.Dec.{T, eqb}
use Rattle.circuit.specs.declared.Record.{Record}
use Rattle.circuit.specs.declared.Signal.{Signal}
use Rattle.circuit.specs.declared.Command.TheVariants.{Restart}
use Rattle.circuit.specs.declared.Event.TheVariants.{Arrives, Ordered}
use Rattle.circuit.specs.declared.Outcome.{Outcome}
use Rattle.circuit.specs.Records.{valid}
use Rattle.circuit.specs.Rows.{first}
use Rattle.circuit.specs.Every.{implies}
use Rattle.circuit.proofs.Every.{left, right, then, each_bool, at_bool}
use Rattle.step.specs.Step.{step, step_found}
use Rattle.ends.specs.Machine.{acted}
use Rattle.ends.specs.Ends.{End, end, Pair, in_order, does, seen, marks}
use Rattle.ends.specs.Calm.{leave, ready}
use Rattle.ends.proofs.Words.{blo, ubl, rsc, word, heard, heard_more, same_bool}
use Rattle.ends.proofs.Events.{said, alike, each_record, at_record, everywhere, at_word, at_host}

-- the far mark after a word, and after a queue: BLO sets it, UBL and RSC clear it
abbrev marked : Bool → ℕ → Bool
marked m x = cond (eqb x blo) true (cond (eqb x ubl || eqb x rsc) false m)

abbrev pub told : Bool → List ℕ → Bool
told m [] = m
told m (x ∷ w) = told (marked m x) w

abbrev pub reset_in : List ℕ → Bool
reset_in [] = false
reset_in (x ∷ w) = eqb x rsc || reset_in w

-- an end's own block, the other's mark of it when all has arrived, an RSC on its way to the end
abbrev pub in_step : Bool → Bool → Bool → Bool
in_step true m z = m || z
in_step false m z = not m

pub record Marks (x y : End) : Type 0 where
  pub there : T (in_step x.holds.own (told y.holds.far (heard y.coming)) (reset_in (heard x.coming)))
  pub back : T (in_step y.holds.own (told x.holds.far (heard x.coming)) (reset_in (heard y.coming)))
  pub mine : T (valid x.holds)
  pub yours : T (valid y.holds)

-- queues

told_more : (m : Bool) (w o : List ℕ) → told m (w ++ o) ≡ told (told m w) o
told_more m [] o = refl
told_more m (x ∷ w) o = told_more (marked m x) w o

told_fewer : (w : List ℕ) → T (not (told true w)) → T (not (told false w))
told_fewer [] t = absurd t
told_fewer (x ∷ w) t = by (eqb x blo) (eqb x ubl || eqb x rsc) t (told_fewer w)
  where
    by : (a b : Bool) → T (not (told (cond a true (cond b false true)) w)) → (T (not (told true w)) → T (not (told false w)))
        → T (not (told (cond a true (cond b false false)) w))
    by true b t ih = t
    by false true t ih = t
    by false false t ih = ih t

reset_more : (w o : List ℕ) → T (reset_in w || reset_in o) → T (reset_in (w ++ o))
reset_more [] o t = t
reset_more (x ∷ w) o t = by (eqb x rsc) t (reset_more w o)
  where
    by : (a : Bool) → T ((a || reset_in w) || reset_in o) → (T (reset_in w || reset_in o) → T (reset_in (w ++ o))) → T (a || reset_in (w ++ o))
    by true t ih = tt
    by false t ih = ih t

-- An event keeps the marks in step: the far mark becomes `far`, or is cleared while an RSC goes out.
abbrev far_kept : (far new sent : Bool) → Bool
far_kept far new sent = same_bool new far || not new && sent

abbrev words_of : Outcome → List ℕ
words_of o = heard (in_order o.sends)

-- m: the other's mark of this end when all has arrived; z, u: an RSC is on its way to this end, before and after
abbrev keeps : Record → (m z u far : Bool) → Outcome → Bool
keeps r m z u far o = implies (in_step r.own m z) (in_step o.after.own (told m (words_of o)) u)
    && (valid o.after && far_kept far o.after.far (reset_in (words_of o)))

-- with everything lost, there is nothing to keep: both marks are clear and an RSC goes out
abbrev clears : Bool → Outcome → Bool
clears m o = in_step o.after.own (told m (words_of o)) false && (valid o.after && (not o.after.far && reset_in (words_of o)))

abbrev word_keeps : Bool → Record → ℕ → Bool
word_keeps c r k = each_bool (λ m. each_bool (λ z. keeps r m (eqb k rsc || z) z (marked r.far k) (does c r (Some (Arrives (said k))))))

-- whatever the host gives, a restart by which nothing is lost among it
abbrev host_keeps : Bool → Record → Option Event → Bool
host_keeps c r e = implies (ready true (leave r e)) (each_bool (λ m. each_bool (λ z. keeps r m z z r.far (does c r e))))

kept_in_step : T (everywhere word_keeps host_keeps)
unfolding does step_found step first
kept_in_step = tt

abbrev restart_clears : Bool → Record → Bool
restart_clears c r = each_bool (λ m. clears m (does c r (Some (Ordered Restart))))

cleared : T (each_bool (λ c. each_record (restart_clears c)))
unfolding does step_found step first
cleared = tt

-- from the test to the ends

abbrev MarksPair : Pair → Type 0
MarksPair p = Marks p.0 p.1

in_step_more : (own m z sent u : Bool) → (T (z || sent) → T u) → T (in_step own m z) → T (in_step own m u)
in_step_more true true z sent u k h = tt
in_step_more true false true sent u k h = k tt
in_step_more true false false sent u k h = absurd h
in_step_more false m z sent u k h = h

-- the other's block, when this end's far mark is kept or an RSC goes out
back_kept : (own far new : Bool) (w : List ℕ) (z sent u : Bool) → (T (z || sent) → T u) → T (far_kept far new sent)
    → T (in_step own (told far w) z) → T (in_step own (told new w) u)
back_kept own true true w z sent u k f h = in_step_more own (told true w) z sent u k h
back_kept own false false w z sent u k f h = in_step_more own (told false w) z sent u k h
back_kept own false true w z sent u k f h = absurd f
back_kept own true false w z sent u k f h = by own z k h
  where
    or_u : (m : Bool) → T u → T (m || u)
    or_u true t = tt
    or_u false t = t

    by : (own z : Bool) → (T (z || sent) → T u) → T (in_step own (told true w) z) → T (in_step own (told false w) u)
    by true true k h = or_u (told false w) (k tt)
    by true false k h = or_u (told false w) (k f)
    by false z k h = told_fewer w h

-- an end acts, and what it does has passed the test
keeps_marks : (r : Record) (z : Bool) (rest : List Signal) (far : Bool) (other : End) (o : Outcome)
    → T (in_step r.own (told other.holds.far (heard other.coming)) z)
    → T (in_step other.holds.own (told far (heard rest)) (reset_in (heard other.coming)))
    → T (valid other.holds) → T (keeps r (told other.holds.far (heard other.coming)) z (reset_in (heard rest)) far o)
    → MarksPair (acted (seen o) rest other)
keeps_marks r z rest far other o there back yours test = record {
  there = rw (more, told_more other.holds.far due (words_of o)) (then (in_step r.own M z) _ (left kept _ test) there);
  back = rw more (back_kept other.holds.own far o.after.far (heard rest) (reset_in due) (reset_in (words_of o)) _ (reset_more due (words_of o)) (right (valid o.after) _ two) back);
  mine = left (valid o.after) _ two;
  yours = yours;
}
  where
    due : List ℕ
    due = heard other.coming

    M : Bool
    M = told other.holds.far due

    more : heard (other.coming ++ in_order o.sends) ≡ due ++ words_of o
    more = heard_more other.coming (in_order o.sends)

    kept : Bool
    kept = implies (in_step r.own M z) (in_step o.after.own (told M (words_of o)) (reset_in (heard rest)))

    two : T (valid o.after && far_kept far o.after.far (reset_in (words_of o)))
    two = right kept _ test

module _ (c : Bool) (other : End) where
  abbrev N : Bool
  N = told other.holds.far (heard other.coming)

  -- a signal arrives
  pub arrived : (r : Record) (x : Signal) (rest : List Signal) → Marks (end r (x ∷ rest)) other → MarksPair (acted (seen (does c r (Some (Arrives x)))) rest other)
  arrived r x rest i = keeps_marks r (eqb (word x) rsc || Z) rest (marked r.far (word x)) other (does c r (Some (Arrives x))) i.there i.back i.yours
      (rw (alike c r x) (at_bool (keeping N) (at_bool (λ m. each_bool (keeping m)) (at_word word_keeps host_keeps kept_in_step c r i.mine x) N) Z))
    where
      Z : Bool
      Z = reset_in (heard rest)

      keeping : Bool → Bool → Bool
      keeping m z = keeps r m (eqb (word x) rsc || z) z (marked r.far (word x)) (does c r (Some (Arrives (said (word x)))))

  -- the host gives an event, and nothing is lost
  pub hosted : (me : End) → Marks me other → (e : Option Event) → T (ready true (leave me.holds e)) → MarksPair (acted (seen (does c me.holds e)) me.coming other)
  hosted me i e given = keeps_marks r (reset_in (heard me.coming)) me.coming r.far other (does c r e) i.there i.back i.yours
      (at_bool (keeping N) (at_bool (λ m. each_bool (keeping m)) test N) (reset_in (heard me.coming)))
    where
      r : Record
      r = me.holds

      keeping : Bool → Bool → Bool
      keeping m z = keeps r m z z r.far (does c r e)

      test : T (each_bool (λ m. each_bool (keeping m)))
      test = then (ready true (leave r e)) _ (at_host word_keeps host_keeps kept_in_step c r i.mine (λ x. tt) e) given

  -- a restart by which everything is lost, so that it asks nothing of what was before
  pub restarted : (r : Record) → T (valid r) → T (valid other.holds) → MarksPair (acted (seen (does c r (Some (Ordered Restart)))) [] (end other.holds []))
  restarted r mine yours = record {
    there = left (in_step o.after.own (told other.holds.far (words_of o)) false) _ one;
    back = by other.holds.own o.after.far (reset_in (words_of o)) (right (valid o.after) _ two);
    mine = left (valid o.after) _ two;
    yours = yours;
  }
    where
      o : Outcome
      o = does c r (Some (Ordered Restart))

      one : T (clears other.holds.far o)
      one = at_bool (λ m. clears m o) (at_record (restart_clears c) (at_bool (λ c. each_record (restart_clears c)) cleared c) r mine) other.holds.far

      two : T (valid o.after && (not o.after.far && reset_in (words_of o)))
      two = right (in_step o.after.own (told other.holds.far (words_of o)) false) _ one

      by : (own far z : Bool) → T (not far && z) → T (in_step own far z)
      by true false true t = tt
      by true true z t = absurd t
      by true false false t = absurd t
      by false false z t = tt
      by false true z t = absurd t

pub swapped : {x y : End} → Marks x y → Marks y x
swapped i = record { there = i.back; back = i.there; mine = i.yours; yours = i.mine }

-- with nothing on its way, the far mark is the other's block
abbrev settled : Bool → Bool → Bool
settled own far = implies (in_step own far false) (marks far own)

at_rest : T (each_bool (λ own. each_bool (settled own)))
at_rest = tt

pub known : (own far : Bool) → T (in_step own far false) → T (marks far own)
known own far = then (in_step own far false) (marks far own) (at_bool (settled own) (at_bool (λ own. each_bool (settled own)) at_rest own) far)
