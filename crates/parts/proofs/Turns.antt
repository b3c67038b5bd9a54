-- One record's turn: what it takes, and that the next ordinal follows where it takes something.
-- Assumes nothing.
use mathlib.Core.Path.{◌≡◌, refl, sym, ◌∙◌}
use mathlib.Core.Bool.{true, false, cond}
use mathlib.Core.List.{List}
use Prim.Native.Nat.{ℕ, ◌≤◌, ◌<◌}
use native.Mathlib.Omega.{arith}
use lib.Dec.{eqb, leb}
use lib.ListN.{length}
use Rattle.std.specs.Prelude.{Option, Some, None}
use borrow.Author.Tests.{leb-true, ltb-true, le-leb, lt-leb, ne_eqb, eqb-true, eqb-false}
use Rattle.circuit.proofs.Every.{both_hold}
use Rattle.words.specs.Words.{largest}
use Rattle.text.proofs.Numbers.{by_test}
use Rattle.text.specs.Writing.{line_room}
use Rattle.parts.specs.declared.Running.{Running}
use Rattle.parts.specs.Whole.{Ahead, Takes, NoRecord, Partial, AtEnd, onward}
use Rattle.parts.specs.Feed.{Share, no_share, may_go, share_of, share_in_room, share_at}
use Rattle.parts.specs.declared.Turn.{Turn}
use Rattle.parts.specs.Way.{turn_of, Lands}

-- what stands ahead, as cases for a proof
pub by_ahead : {T P : Type 0} (a : Ahead T) → ((n : ℕ) (x : List ℕ) (t : T) → a ≡ Takes n x t → P) → (a ≡ NoRecord → P) → (a ≡ Partial → P) → (a ≡ AtEnd → P) → P
by_ahead (Takes n x t) taken none short ended = taken n x t refl
by_ahead NoRecord taken none short ended = none refl
by_ahead Partial taken none short ended = short refl
by_ahead AtEnd taken none short ended = ended refl

module _ (r : Running) (n : ℕ) (e : may_go r n ≡ true) where
  pub room_there : line_room ≤ n
  room_there = leb-true _ _ (both_hold (leb line_room n) e).0

  ordinal_there : r.next < largest
  ordinal_there = ltb-true _ _ (both_hold (leb line_room n) e).1

pub nothing_lands : {T : Type 0} (t : T) (room : List ℕ) → Lands (no_share t) room None t room
nothing_lands t room = record { answers = refl; leaves = refl; writes = refl }

-- what a turn tells of the share that it is of
module _ {T : Type 0} (h : Share T) where
  pub some_turn : (h.taken ≡ 0 → ⊥) → turn_of h ≡ Some (record { taken = h.taken; written = length h.text })
  some_turn p = rw (ne_eqb h.taken 0 p)

  pub none_taken : {o : Option Turn} → o ≡ turn_of h → o ≡ None → h.taken ≡ 0
  none_taken e n =
      by_test (eqb h.taken 0) (eqb-true _ _)
      (λ z. absurd (let q : Some (record { taken = h.taken; written = length h.text }) ≡ None = sym (some_turn (eqb-false _ _ z)) ∙ sym e ∙ n in cc))

  -- a record was taken, and the turn is what was
  pub record Took (t : Turn) : Type 0 where
    pub some : h.taken ≡ 0 → ⊥
    pub taken : t.taken ≡ h.taken
    pub written : t.written ≡ length h.text

  pub took : {o : Option Turn} {t : Turn} → o ≡ turn_of h → o ≡ Some t → Took t
  took {o} {t} e s =
      by_test (eqb h.taken 0)
      (λ z. absurd (let q : None ≡ Some t = sym (rw z) ∙ sym e ∙ s in cc))
      (λ z.
      let q : Some (record { taken = h.taken; written = length h.text }) ≡ Some t = sym (some_turn (eqb-false _ _ z)) ∙ sym e ∙ s in
      let k : t ≡ record { taken = h.taken; written = length h.text } = cc in
      rw k (record { some = eqb-false _ _ z; taken = refl; written = refl }))

-- whether a room has the octets of any line
module _ {T : Type 0} (a : Ahead T) (t : T) (n : ℕ) where
  pub room_for : line_room ≤ n → share_in_room a t n ≡ share_of a t
  room_for h = rw (le-leb line_room n h)

  pub no_room_for : n < line_room → share_in_room a t n ≡ no_share t
  no_room_for h = rw (lt-leb line_room n h)

module _ {T : Type 0} (a : Ahead T) (r : Running) (t : T) (n : ℕ) where
  -- what may go has room enough
  pub room_enough : may_go r n ≡ true → share_in_room a t n ≡ share_of a t
  room_enough e = room_for a t n (room_there r n e)

  pub may_take : may_go r n ≡ true → share_at a r t n ≡ share_of a t
  unfolding share_at
  may_take e = rw e

  pub may_not : may_go r n ≡ false → share_at a r t n ≡ no_share t
  unfolding share_at
  may_not e = rw e

  module _ (p : (share_at a r t n).taken ≡ 0 → ⊥) where
    -- a record was taken, so there is a further ordinal
    pub goes_onward : cond (eqb r.next largest) r (onward r) ≡ onward r
    unfolding share_at
    goes_onward =
        by_test (may_go r n) (λ e. rw (ne_eqb r.next largest (λ z. omega (arith, ordinal_there r n e)))) (λ e. absurd (p (rw e)))

    -- a record was taken, so it stands there
    pub takes : {P : Type 0} → ((k : ℕ) (x : List ℕ) (t' : T) → a ≡ Takes k x t' → share_at a r t n ≡ record { taken = k; text = x; state = t' } → P) → P
    unfolding share_at
    takes go =
        by_test (may_go r n)
        (λ m. by_ahead a (λ k x t' q. go k x t' q (rw (m, q))) (λ q. absurd (p (rw (m, q)))) (λ q. absurd (p (rw (m, q)))) (λ q. absurd (p (rw (m, q)))))
        (λ m. absurd (p (rw m)))
