-- A signal's detail: which event a heading with a detail is.
-- Assumes nothing.
use Rattle.std.specs.Prelude.{Option, Some, None}
use Rattle.circuit.specs.declared.Event.{Event}
use mathlib.Core.Path.{◌≡◌, refl}
use mathlib.Core.Bool.{Bool, true, false, cond, ◌||◌}
use Prim.Native.Nat.{ℕ, ◌<◌, ◌≤◌}
use native.Mathlib.Omega.{arith}
use lib.Dec.{eqb}
use borrow.Author.Tests.{le-leb, lt-leb, ne_eqb}
use Rattle.circuit.specs.declared.Signal.TheVariants.{Acm}
use Rattle.circuit.specs.declared.Event.TheVariants.{Arrives}
use Rattle.codes.specs.Headings.{signal_of}
use Rattle.codes.specs.Numbers.{arrives, signal_event}

pub too_large : (code detail : ℕ) → 255 < detail → signal_event code detail ≡ None
too_large code detail h = rw (lt-leb detail 255 h)

pub of_acm : (code detail : ℕ) → detail ≤ 255 → code ≡ 0x14 → signal_event code detail ≡ Some (Arrives (Acm detail))
of_acm code detail h e = rw (le-leb detail 255 h, e)

pub of_none : (code detail : ℕ) → 0 < detail → detail ≤ 255 → (code ≡ 0x14 → ⊥) → signal_event code detail ≡ None
of_none code detail h l n = rw (le-leb detail 255 l, ne_eqb code 0x14 n, ne_eqb detail 0 (λ z. omega arith))

pub with_none : (code detail : ℕ) → detail ≤ 0 → signal_event code detail ≡ arrives (signal_of code 0)
with_none code detail h = let z : detail ≡ 0 = omega arith in rw z (go (eqb code 0x14) (arrives (signal_of code 0)))
  where
    go : (b : Bool) (f : Option Event) → cond (b || true) f None ≡ f
    go true f = refl
    go false f = refl
