-- The theorem: two ends of one circuit agree whenever nothing is on its way and neither awaits reset.
-- Assumes nothing.
use mathlib.Core.Bool.{Bool, true, false, not, ◌||◌}
use mathlib.Core.List.{List, []}
use mathlib.Core.Path.{◌≡◌, subst₂}
use Prim.Native.Nat.{ℕ}
use lib.Dec.{T, eqb, eqb_refl}
use Rattle.circuit.specs.declared.Signal.{Signal}
use Rattle.circuit.proofs.Every.{left, is_true}
use Rattle.circuit.specs.Groups.{controls}
use Rattle.ends.specs.Ends.{End, same_stage, awaits_reset, awaiting, marks, Agree, Claim}
use Rattle.ends.proofs.Words.{heard, view}
use Rattle.ends.proofs.Rooms.{agrees}
use Rattle.ends.proofs.Sound.{sound_here}
use Rattle.ends.proofs.Explored.{rooms}
use Rattle.ends.proofs.Standing.{table, shut, state_of, due, Stand, mirrored, Holds, in_any_group}
use Rattle.ends.proofs.Marks.{told, reset_in, in_step, known}

at_rest : (a b d : Bool) → T (a || b || d) → T (not a) → T (not b) → T d
at_rest true b d t m n = absurd m
at_rest false true d t m n = absurd n
at_rest false false d t m n = t

stage : (k j : Bool) (s t : ℕ) → T (agrees (view true k s []) (view false j t [])) → T (not (awaits_reset s)) → T (not (awaits_reset t)) → T (same_stage s t || same_stage t s)
stage k j s t h m n = at_rest (awaits_reset s) (awaits_reset t) (same_stage s t || same_stage t s) (rw (is_true (eqb s s) (eqb_refl s), is_true (eqb t t) (eqb_refl t)) at h) m n

-- the far mark of one end, with nothing on its way
block : (own far : Bool) (w v : List Signal) → w ≡ [] → v ≡ [] → T (in_step own (told far (heard w)) (reset_in (heard v))) → T (marks far own)
block own far w v ew ev h = known own far (subst₂ (λ (w v : List Signal). T (in_step own (told far (heard w)) (reset_in (heard v)))) ew ev h)

or_other : (p q : Bool) → T (p || q) → T (q || p)
or_other true true t = tt
or_other true false t = tt
or_other false true t = tt
or_other false false t = t

-- two states and the words on their way, the controlling end's first: what their room says of them
abbrev Agrees : (k j : Bool) → ℕ → List ℕ → ℕ → List ℕ → Type 0
Agrees k j s w t v = T (agrees (view true k s w) (view false j t v))

fine : (k : Bool) (x : End) (j : Bool) (y : End) → Stand true k x j y → Agrees k j (state_of x) (due x) (state_of y) (due y)
fine k x j y s = left (agrees (view true k (state_of x) (due x)) (view false j (state_of y) (due y))) _
    (sound_here table rooms shut (view true k (state_of x) (due x), view false j (state_of y) (due y)) s.calls)

module _ (c : Bool) (x y : End) (i : Holds c x y) where
  at_stage : (c k j : Bool) → Stand c k x j y → x.coming ≡ [] → y.coming ≡ [] → T (not (awaiting x)) → T (not (awaiting y))
      → T (same_stage (state_of x) (state_of y) || same_stage (state_of y) (state_of x))
  at_stage true k j s ex ey wx wy = stage k j (state_of x) (state_of y)
      (subst₂ (λ (w v : List Signal). Agrees k j (state_of x) (heard w) (state_of y) (heard v)) ex ey (fine k x j y s)) wx wy
  at_stage false k j s ex ey wx wy = or_other (same_stage (state_of y) (state_of x)) (same_stage (state_of x) (state_of y))
      (stage j k (state_of y) (state_of x) (subst₂ (λ (w v : List Signal). Agrees j k (state_of y) (heard w) (state_of x) (heard v)) ey ex
      (fine j y k x (mirrored false k x j y s))) wy wx)

  pub agreed : x.coming ≡ [] → y.coming ≡ [] → T (not (awaiting x)) → T (not (awaiting y)) → Agree x y
  agreed ex ey wx wy = record {
    call = at_stage c i.first_calm i.second_calm i.stands ex ey wx wy;
    block_of_first = block x.holds.own y.holds.far y.coming x.coming ey ex i.blocks.there;
    block_of_second = block y.holds.own x.holds.far x.coming y.coming ex ey i.blocks.back;
  }

pub two_ends_agree : Claim
unfolding Claim
two_ends_agree own far cic different x y r = agreed (controls own far cic) x y (in_any_group own far cic different r)
