-- What is left of a buffer, where it is moved to the start.
-- Assumes nothing.
use mathlib.Core.Path.{◌≡◌, sym}
use mathlib.Core.List.{List, []}
use mathlib.Core.Logic.{◌⊎◌, inl, inr}
use Prim.Native.Nat.{ℕ, ◌-◌, ◌≤◌, ◌<◌}
use native.Mathlib.Nat.{zero-add}
use native.Mathlib.Omega.{arith}
use lib.ListN.{length, take, drop, length-drop}
use lib.Seq.{length-take-le}
use borrow.Author.Tests.{lt-ltb, le-ltb}
use Rattle.std.specs.List.{copy_within}
use Rattle.words.specs.Octets.{over}
use Rattle.parts.specs.Feed.{kept}

module _ (p : List ℕ) (at have : ℕ) where
  pub none_kept : (length p < have) ⊎ ((have ≤ length p) × (have < at)) → kept p at have ≡ []
  unfolding kept
  none_kept = elim [ inl h ↦ rw (lt-ltb (length p) have h) | inr h ↦ let z : have - at ≡ 0 = omega (arith, h.1) in rw (le-ltb (length p) have h.0, z) ]

  module _ (h : at ≤ have) (l : have ≤ length p) where
    all_kept : kept p at have ≡ take (have - at) (drop at p)
    unfolding kept
    all_kept = rw (le-ltb (length p) have l)

    pub kept_length : have - at ≡ length (kept p at have)
    kept_length = rw all_kept (sym (length-take-le (have - at) (drop at p) (rw length-drop (omega arith))))

    pub moved : copy_within p at have 0 ≡ over (kept p at have) p
    moved = rw (← kept_length, all_kept, zero-add)
