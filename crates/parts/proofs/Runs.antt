-- Laws of a run of records: its bound does not matter, and it is one record after another.
-- Assumes nothing.
use mathlib.Core.Path.{◌≡◌, refl}
use mathlib.Core.List.{List, ◌++◌, append_assoc}
use Prim.Native.Nat.{ℕ, zero, suc, ◌+◌, ◌-◌, ◌≤◌, ◌<◌}
use native.Mathlib.Nat.{add_assoc}
use native.Mathlib.Omega.{arith}
use lib.Dec.{eqb}
use lib.ListN.{length, drop, length-drop}
use borrow.Author.Tests.{eq-eqb, ne_eqb, eqb-false}
use Rattle.text.proofs.Numbers.{by_test}
use Rattle.parts.specs.declared.Running.{Running}
use Rattle.parts.specs.Whole.{Making, Lawful, onward}
use Rattle.parts.specs.Feed.{Part, Share, no_share, may_go, share_of, share, share_at, stops, behind, run_within, run}
use Rattle.parts.proofs.Turns.{by_ahead}

pub twice : {T : Type 0} (a b : ℕ) (x y : List ℕ) (p : Part T) → behind a x (behind b y p) ≡ behind (a + b) (x ++ y) p
twice a b x y p = simp (add_assoc, append_assoc)

-- a share takes what there is, and one that takes nothing is none
pub record Shared {T : Type 0} (t : T) (s : List ℕ) (h : Share T) : Type 0 where
  pub fits : h.taken ≤ length s
  pub none : h.taken ≡ 0 → h ≡ no_share t

none_shared : {T : Type 0} (t : T) (s : List ℕ) → Shared t s (no_share t)
none_shared t s = record { fits = omega arith; none = λ e. refl }

module _ {T : Type 0} {w : Making T} (law : Lawful w) where
  shared_of : (r : Running) (t : T) (s : List ℕ) → Shared t s (share_of (w.ahead r t s) t)
  shared_of r t s =
      by_ahead (w.ahead r t s)
      (λ n x t' q. rw q (let f = law.fits r t s n x t' q in record { fits = f.1; none = λ z. absurd (omega arith) }))
      (λ q. rw q (none_shared t s)) (λ q. rw q (none_shared t s)) (λ q. rw q (none_shared t s))

  pub shared : (r : Running) (t : T) (s : List ℕ) (n : ℕ) → Shared t s (share w r t s n)
  unfolding share_at
  shared r t s n = by_test (may_go r n) (λ e. rw e (shared_of r t s)) (λ e. rw e (none_shared t s))

  -- any bound above the octets gives the same run
  enough : (j k : ℕ) (r : Running) (t : T) (s : List ℕ) (n : ℕ) → length s < j → length s < k → run_within w j r t s n ≡ run_within w k r t s n
  unfolding run_within
  enough zero k r t s n h i = absurd (omega arith)
  enough (suc j) zero r t s n h i = absurd (omega arith)
  enough (suc j) (suc k) r t s n h i =
      let m = share w r t s n in
      by_test (eqb m.taken 0)
      (λ e. rw e)
      (λ e.
      let p = eqb-false m.taken 0 e in
      let f = (shared r t s n).fits in
      rw (e, enough j k (onward r) m.state (drop m.taken s) (n - length m.text) (rw length-drop (omega arith)) (rw length-drop (omega arith))))

  module _ (r : Running) (t : T) (s : List ℕ) (n : ℕ) where
    -- nothing is taken
    pub run_stops : (share w r t s n).taken ≡ 0 → run w r t s n ≡ stops w r t s
    unfolding run run_within
    run_stops e = rw (eq-eqb (share w r t s n).taken 0 e)

    -- one record, and the rest
    pub run_goes : ((share w r t s n).taken ≡ 0 → ⊥)
        → run w r t s n ≡ behind (share w r t s n).taken (share w r t s n).text (run w (onward r) (share w r t s n).state (drop (share w r t s n).taken s) (n - length (share w r t s n).text))
    unfolding run run_within
    run_goes p =
        let m = share w r t s n in
        let f = (shared r t s n).fits in
        rw (ne_eqb m.taken 0 p, enough (length s) (suc (length (drop m.taken s))) (onward r) m.state (drop m.taken s) (n - length m.text) (rw length-drop (omega arith)) (omega arith))
