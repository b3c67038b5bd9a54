-- Signals that never arrive between two ends of one circuit: they are neither quiet nor at the head of a room's rest.
-- Assumes nothing.
use mathlib.Core.Bool.{Bool, true, false, cond, not, ◌&&◌, ◌||◌}
use mathlib.Core.List.{List, [], ◌∷◌}
use mathlib.Core.Path.{◌≡◌, refl}
use Prim.Native.Nat.{ℕ, suc-le-suc}
use lib.Dec.{T, eqb, leb, leb→le, eqb→eq, eqb_refl}
use Rattle.circuit.specs.declared.Signal.{Signal}
use Rattle.circuit.specs.declared.Signal.TheVariants.{Iam, Acm, Anc, Ann, Cbk, Clf, Ran, Rlg, Blo, Bla, Ubl, Uba, Rsc, Fail}
use Rattle.circuit.specs.Records.{valid}
use Rattle.circuit.specs.Every.{each_below}
use Rattle.circuit.proofs.Every.{left, right, is_true, each_bool, at_bool, at_below}
use Rattle.circuit.specs.Groups.{controls}
use Rattle.ends.specs.Ends.{End, unheard, NextIsHeard, ClaimUnheard}
use Rattle.ends.proofs.Words.{word, words, fail, heard, mute, quiet, push, kept, run, run_push, run_of, next, Run, Run.ran, Half.half, calm_of, view, blo_for, all_in, at_has}
use Rattle.ends.proofs.Events.{is_word, said}
use Rattle.ends.proofs.Rooms.{agrees, hears}
use Rattle.ends.proofs.Sound.{sound_here}
use Rattle.ends.proofs.Explored.{rooms}
use Rattle.ends.proofs.Standing.{table, shut, state_of, due, Stand, mirrored, Holds, changed, in_any_group}

same_unheard : (st : ℕ) (s : Signal) → unheard st s ≡ unheard st (said (word s))
same_unheard st Iam = refl
same_unheard st (Acm octet) = refl
same_unheard st Anc = refl
same_unheard st Ann = refl
same_unheard st Cbk = refl
same_unheard st Ran = refl
same_unheard st (Fail f) = refl
same_unheard st Clf = refl
same_unheard st Rlg = refl
same_unheard st Rsc = refl
same_unheard st Blo = refl
same_unheard st Ubl = refl
same_unheard st Bla = refl
same_unheard st Uba = refl

-- neither a quiet word nor a mute one is among them
abbrev passes : Bool → ℕ → ℕ → Bool
passes c s x = not (unheard s (said x)) || not (quiet c s x) && not (mute x)

passed : T (each_bool (λ c. each_below 13 (λ s. all_in (passes c s) words)))
passed = tt

or_cut : (a b : Bool) → T (a || b && false) → T a
or_cut true b t = tt
or_cut false true t = t
or_cut false false t = t

module _ (c k : Bool) (s x : ℕ) (w : List ℕ) where
  abbrev U : Bool
  U = unheard s (said x)

  abbrev Hears : Run → Type 0
  Hears r = T (hears (half s r (blo_for s (x ∷ w)) (calm_of c k (x ∷ w))))

  -- at the head of the rest; a failure, of which another may have been kept, is heard everywhere
  by_rest : (u : List ℕ) → Hears (ran s (push x u)) → T (not U)
  by_rest [] h = rw (is_true (eqb s s) (eqb_refl s)) at h
  by_rest (y ∷ u) h = by (eqb x fail && eqb y fail) (λ e. eqb→eq x fail (left (eqb x fail) _ e)) h
    where
      by : (q : Bool) → (T q → x ≡ fail) → Hears (ran s (cond q (y ∷ u) (x ∷ y ∷ u))) → T (not U)
      by true e h = rw (e tt) tt
      by false e h = rw (is_true (eqb s s) (eqb_refl s)) at h

  by_quiet : (q : Bool) → T (not U || not q && true) → Hears (cond q (run_of c (next s x) w) (ran s (push x (kept w)))) → T (not U)
  by_quiet true p h = or_cut (not U) true p
  by_quiet false p h = by_rest (kept w) h

  by_mute : (m : Bool) → T (not U || not (quiet c s x) && not m) → Hears (run c s (cond m (kept w) (push x (kept w)))) → T (not U)
  by_mute true p h = or_cut (not U) (not (quiet c s x)) p
  by_mute false p h = by_quiet (quiet c s x) p (rw (run_push c s x (kept w)) at h)

  hears_next : T (passes c s x) → T (hears (view c k s (x ∷ w))) → T (not U)
  hears_next = by_mute (mute x)

passes_at : (c : Bool) (s : ℕ) → T (leb s 12) → (x : Signal) → T (passes c s (word x))
passes_at c s h x = at_has (passes c s) words (word x) (is_word x)
    (at_below 13 (λ n. all_in (passes c n) words) (at_bool (λ c. each_below 13 (λ n. all_in (passes c n) words)) passed c) s (suc-le-suc (leb→le s 12 h)))

next_heard_lem : (c k : Bool) (e : End) → T (valid e.holds) → T (hears (view c k (state_of e) (due e))) → NextIsHeard e
next_heard_lem c k e v h s rest d = rw (same_unheard (state_of e) s)
    (hears_next c k (state_of e) (word s) (heard rest) (passes_at c (state_of e) (left (leb (state_of e) 12) _ v) s) (rw d at h))

-- the hearing of the two ends' room, the controlling end's first
hearing : (k : Bool) (x : End) (j : Bool) (y : End) → Stand true k x j y → T (hears (view true k (state_of x) (due x)) && hears (view false j (state_of y) (due y)))
hearing k x j y s = right (agrees (view true k (state_of x) (due x)) (view false j (state_of y) (due y))) _
    (sound_here table rooms shut (view true k (state_of x) (due x), view false j (state_of y) (due y)) s.calls)

first_heard : (c k : Bool) (x : End) (j : Bool) (y : End) → T (valid x.holds) → Stand c k x j y → NextIsHeard x
first_heard true k x j y v s = next_heard_lem true k x v (left (hears (view true k (state_of x) (due x))) _ (hearing k x j y s))
first_heard false k x j y v s = next_heard_lem false k x v (right (hears (view true j (state_of y) (due y))) _ (hearing j y k x (mirrored false k x j y s)))

pub next_heard : (c : Bool) (x y : End) → Holds c x y → NextIsHeard x
next_heard c x y i = first_heard c i.first_calm x i.second_calm y i.blocks.mine i.stands

pub some_never_arrive : ClaimUnheard
unfolding ClaimUnheard
some_never_arrive own far cic different x y r =
    let i : Holds (controls own far cic) x y = in_any_group own far cic different r in
    (next_heard (controls own far cic) x y i, next_heard (not (controls own far cic)) y x (changed (controls own far cic) x y i))
