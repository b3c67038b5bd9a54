-- The order of a batch does not matter (docs/RULES.md, "Two circuits, either order"): two events on different circuits, and any batch in any order
-- that keeps each circuit's events in theirs. If none is refused 13 in one such order, none is in another.
-- Assumes nothing.
use mathlib.Core.Path.{◌≡◌, refl, sym, ap, ◌∙◌, subst}
use mathlib.Core.Bool.{Bool, true, false, cond}
use mathlib.Core.List.Permᴰ
use mathlib.Core.List.{List, [], ◌∷◌, map}
use Prim.Native.Nat.{ℕ, ◌+◌, ◌≤◌}
use native.Mathlib.Omega.{arith}
use lib.Dec.{eqb}
use lib.ListN.{length}
use borrow.Author.Tests.{eqb-true, eqb-false}
use Rattle.words.specs.Words.{largest}
use Rattle.layout.specs.Layout.{group_in, held_at, counter_in}
use Rattle.group.specs.Batches.{Handed, Answered, given, after, answered, answers_of, OnceEach, No13, Rearranged}
use Rattle.group.proofs.Laws.{keeps_group}
use Rattle.group.proofs.Ranks.{counted, idled, rises_below, once, spent_at}
use Rattle.group.proofs.Local.{rises13}
use Rattle.group.proofs.Meets.{Meets, itself, untouched, elsewhere, nor13, answers_as, leaves_as, frees_as, there}
use Rattle.group.proofs.Batches.{Never13, never13, no13, alone, by_themselves, as_if_alone}
use Rattle.group.proofs.Mixed.{Mixed, Mixed.none, Mixed.behind, Mixed.exchanged, Mixed.twice, same_each, once_still, rearranged}

-- tables that are the same but for their ranks
record Even (t u : List ℕ) : Type 0 where
  group : group_in t ≡ group_in u
  held : (i : ℕ) → held_at t i ≡ held_at u i
  counter : counter_in t ≡ counter_in u

turned : {t u : List ℕ} → Even t u → Even u t
turned e = record { group = sym e.group; held = λ i. sym (e.held i); counter = sym e.counter }

meeting : {t u : List ℕ} → Even t u → (i : ℕ) → Meets t u i
meeting e i = record { group = e.group; held = e.held i; counter = omega (arith, e.counter) }

-- two counters that rise for the same two releases
counts : (a b : Bool) (c cx cy cxy cyx : ℕ) → cx ≡ cond a (c + 1) c → cy ≡ cond b (c + 1) c → cxy ≡ cond b (cx + 1) cx → cyx ≡ cond a (cy + 1) cy → cxy ≡ cyx
counts true true c cx cy cxy cyx p q r s = omega arith
counts true false c cx cy cxy cyx p q r s = omega arith
counts false true c cx cy cxy cyx p q r s = omega arith
counts false false c cx cy cxy cyx p q r s = omega arith

module _ (own far : ℕ) where
  -- such tables stay so by the same events, and if none of these is refused 13 on the one, none is on the other
  module _ {t u : List ℕ} (e : Even t u) (x : Handed) (not13 : (given own far u x).answer.refusal ≡ 13 → ⊥) where
    evenly : Even (given own far t x).table (given own far u x).table
    evenly = record { group = m.group; held = λ i. held i (eqb i x.cic) refl; counter = counter }
      where
        m : Meets (given own far t x).table (given own far u x).table x.cic
        m = there own far x (meeting e x.cic) not13

        counter : counter_in (given own far t x).table ≡ counter_in (given own far u x).table
        counter =
            (counted own far t x.cic x.event).counter
            ∙ (λ j. cond (frees_as own far x (meeting e x.cic) not13 j) (e.counter j + 1) (e.counter j))
            ∙ sym (counted own far u x.cic x.event).counter

        held : (i : ℕ) (b : Bool) → eqb i x.cic ≡ b → held_at (given own far t x).table i ≡ held_at (given own far u x).table i
        held i true q = subst (λ (k : ℕ). held_at (given own far t x).table k ≡ held_at (given own far u x).table k) (sym (eqb-true i x.cic q)) m.held
        held i false q = untouched own far t x i (eqb-false i x.cic q) ∙ e.held i ∙ sym (untouched own far u x i (eqb-false i x.cic q))

  even_run : (t u : List ℕ) (xs : List Handed) → Even t u → Never13 (answered own far u xs) → Never13 (answered own far t xs)
  unfolding answered
  even_run t u [] e n = tt
  even_run t u (x ∷ xs) e n = (nor13 own far x (meeting e x.cic) n.0, even_run (given own far t x).table (given own far u x).table xs (evenly e x n.0) n.1)

  -- two events on different circuits, of which neither is refused 13 in one order
  module _ (t : List ℕ) (x y : Handed) (other : x.cic ≡ y.cic → ⊥) (first : (given own far t x).answer.refusal ≡ 13 → ⊥)
      (second : (given own far (given own far t x).table y).answer.refusal ≡ 13 → ⊥) where
    abbrev tx : List ℕ
    tx = (given own far t x).table

    abbrev ty : List ℕ
    ty = (given own far t y).table

    abbrev txy : List ℕ
    txy = (given own far tx y).table

    abbrev tyx : List ℕ
    tyx = (given own far ty x).table

    x_meets : Meets t ty x.cic
    x_meets = elsewhere own far (itself t x.cic) y other

    y_meets : Meets t tx y.cic
    y_meets = elsewhere own far (itself t y.cic) x (λ z. other (sym z))

    -- neither is in the other: were x refused 13 behind y, both would free their circuits, and y would have been refused behind x
    pub first_too : (given own far t y).answer.refusal ≡ 13 → ⊥
    first_too = nor13 own far y y_meets second

    pub second_too : (given own far ty x).answer.refusal ≡ 13 → ⊥
    second_too e = go (idled tx txy y.cic) (rw (frees_as own far y y_meets second) at (counted own far t y.cic y.event).counter) (counted own far tx y.cic y.event).counter
      where
        x_rises : counter_in tx ≡ counter_in t + 1
        x_rises = rises13 own far t ty x.cic x.event x_meets.group x_meets.held e first

        go : (b : Bool) → counter_in ty ≡ cond b (counter_in t + 1) (counter_in t) → counter_in txy ≡ cond b (counter_in tx + 1) (counter_in tx) → ⊥
        go true p q = omega (arith, p, x_rises, spent_at own far ty x.cic x.event e, rises_below own far tx y.cic y.event (omega arith))
        go false p q = omega (arith, p, spent_at own far ty x.cic x.event e, rises_below own far t x.cic x.event (omega (arith, x_rises)))

    -- they answer the same
    pub x_answers : (given own far ty x).answer ≡ (given own far t x).answer
    x_answers = answers_as own far x x_meets second_too

    pub y_answers : (given own far tx y).answer ≡ (given own far t y).answer
    y_answers = answers_as own far y y_meets second

    -- and leave the same
    pub left_held : (i : ℕ) → held_at txy i ≡ held_at tyx i
    left_held i = go (eqb i x.cic) (eqb i y.cic) refl refl
      where
        go : (a b : Bool) → eqb i x.cic ≡ a → eqb i y.cic ≡ b → held_at txy i ≡ held_at tyx i
        go true b p q =
            let here : i ≡ x.cic = eqb-true i x.cic p in
            untouched own far tx y i (λ z. other (sym here ∙ z))
            ∙ subst (λ (k : ℕ). held_at tx k ≡ held_at tyx k) (sym here) (leaves_as own far x x_meets second_too)
        go false true p q =
            let here : i ≡ y.cic = eqb-true i y.cic q in
            subst (λ (k : ℕ). held_at txy k ≡ held_at ty k) (sym here) (sym (leaves_as own far y y_meets second))
            ∙ sym (untouched own far ty x i (eqb-false i x.cic p))
        go false false p q =
            untouched own far tx y i (eqb-false i y.cic q) ∙ untouched own far t x i (eqb-false i x.cic p)
            ∙ sym (untouched own far ty x i (eqb-false i x.cic p) ∙ untouched own far t y i (eqb-false i y.cic q))

    both : Even txy tyx
    both = record {
      group = keeps_group own far tx y.cic y.event ∙ keeps_group own far t x.cic x.event ∙ sym (keeps_group own far ty x.cic x.event ∙ keeps_group own far t y.cic y.event);
      held = left_held;
      counter =
          counts (idled t tx x.cic) (idled t ty y.cic) (counter_in t) (counter_in tx) (counter_in ty) (counter_in txy) (counter_in tyx)
          (counted own far t x.cic x.event).counter (counted own far t y.cic y.event).counter
          (rw (← (frees_as own far y y_meets second)) at (counted own far tx y.cic y.event).counter)
          (rw (← (frees_as own far x x_meets second_too)) at (counted own far ty x.cic x.event).counter);
    }

  -- a batch of which none is refused 13 in one order, and another order that keeps each circuit's events in theirs
  never13_then : {xs ys : List Handed} → Mixed xs ys → (table : List ℕ) → Never13 (answered own far table xs) → Never13 (answered own far table ys)
  unfolding answered
  never13_then none table n = n
  never13_then (behind x m) table n = (n.0, never13_then m (given own far table x).table n.1)
  never13_then (exchanged x y xs other) table n =
      (first_too table x y other n.0 n.1.0, (second_too table x y other n.0 n.1.0, even_run _ _ xs (turned (both table x y other n.0 n.1.0)) n.1.1))
  never13_then (twice m k) table n = never13_then k table (never13_then m table n)

  module _ (table : List ℕ) {xs ys : List Handed} (m : Mixed xs ys) (n : No13 (answered own far table xs)) where
    pub no13_then : No13 (answered own far table ys)
    no13_then = no13 (answered own far table ys) (never13_then m table (never13 (answered own far table xs) n))

    pub answers_then : (i : ℕ) → answers_of i (answered own far table xs) ≡ answers_of i (answered own far table ys)
    answers_then i = (by_themselves own far table i xs n).0 ∙ ap (answered own far table) (same_each i m) ∙ sym (by_themselves own far table i ys no13_then).0

    pub held_then : (i : ℕ) → held_at (after own far table xs) i ≡ held_at (after own far table ys) i
    held_then i =
        (by_themselves own far table i xs n).1
        ∙ ap (λ (zs : List Handed). held_at (after own far table zs) i) (same_each i m)
        ∙ sym (by_themselves own far table i ys no13_then).1

  -- at most one event a circuit, in any order
  pub answered_then : (table : List ℕ) {xs ys : List Handed} → Rearranged xs ys → OnceEach xs → No13 (answered own far table xs)
      → Rearranged (answered own far table xs) (answered own far table ys)
  answered_then table {xs} {ys} r o n =
      let m = rearranged r o in
      subst (λ (told : List Answered). Rearranged told (answered own far table ys)) (sym (as_if_alone own far table xs o n))
      (subst (λ (told : List Answered). Rearranged (map (alone own far table) xs) told) (sym (as_if_alone own far table ys (once_still m o) (no13_then table m n)))
      (Permᴰ.map (alone own far table) r))

  -- where the counter has room for as many releases as there are events, none is refused 13
  room : (table : List ℕ) (xs : List Handed) → counter_in table + length xs ≤ largest → Never13 (answered own far table xs)
  unfolding answered
  room table [] h = tt
  room table (x ∷ xs) h =
      let after = (given own far table x).table in
      let rose : counter_in after ≤ counter_in table + 1 = once (idled table after x.cic) (counter_in table) (counter_in after) (counter_in table) (counted own far table x.cic x.event).counter (omega arith) in
      (λ e. omega (arith, h, spent_at own far table x.cic x.event e), room after xs (omega (arith, rose, h)))

  pub room_for : (table : List ℕ) (xs : List Handed) → counter_in table + length xs ≤ largest → No13 (answered own far table xs)
  room_for table xs h = no13 (answered own far table xs) (room table xs h)
