-- The tests of the fields and of the address, and what holds where none of them does.
-- Assumes nothing.
use mathlib.Core.Path.{◌≡◌, subst}
use mathlib.Core.Bool.{Bool, false, cond}
use Prim.Native.Nat.{ℕ, ◌≤◌}
use mathlib.Core.List.{List}
use borrow.Author.Tests.{ltb-false}
use lib.Dec.{ltb}
use lib.ListN.{length}
use Rattle.circuit.proofs.Groups.{none}
use Rattle.formats.specs.Octets.{bad_codes, above_fifteen}
use Rattle.formats.specs.Format.{ACM, CATEGORY, INDICATORS, most}
use Rattle.formats.specs.Messages.{format_of, has_signals}
use Rattle.formats.proofs.Addresses as addresses
use Rattle.formats.proofs.ByHeading.{signals_of_iam, acm_most, category_most, indicators_most}
use Rattle.writer.specs.Writing.{Said, too_large, bad_address}
use Rattle.writer.specs.Way.{over_limits}

-- the tests of the fields that a message says
module _ (m : Said) where
  abbrev a : Bool
  a = ltb (most (format_of m.heading).fields ACM) m.acm

  abbrev b : Bool
  b = ltb (most (format_of m.heading).fields CATEGORY) m.category

  abbrev c : Bool
  c = ltb (most (format_of m.heading).fields INDICATORS) m.indicators

  abbrev d : Bool
  d = cond (has_signals m.heading) (above_fifteen m.address) (ltb 0 (length m.address))

  -- each is one against the limit that the heading gives
  pub by_limits : over_limits m ≡ too_large m
  unfolding too_large
  by_limits = rw (acm_most m.heading, category_most m.heading, indicators_most m.heading, signals_of_iam m.heading)

-- where none of the tests of the fields holds, each field fits
module _ (m : Said) (e : too_large m ≡ false) where
  each : (a m ≡ false) × (b m ≡ false) × (c m ≡ false) × (d m ≡ false)
  unfolding too_large
  each = none (a m) (b m) (c m) (d m) e

  pub fitting : (m.acm ≤ most (format_of m.heading).fields ACM) × (m.category ≤ most (format_of m.heading).fields CATEGORY) × (m.indicators ≤ most (format_of m.heading).fields INDICATORS)
  fitting = (ltb-false _ _ each.0, ltb-false _ _ each.1, ltb-false _ _ each.2)

  pub fitting_address : d m ≡ false
  fitting_address = each.3

  pub fitting_iam : m.heading ≡ 0x11 → (m.category ≤ 63) × (m.indicators ≤ 2047) × (above_fifteen m.address ≡ false)
  fitting_iam i = (
    subst (λ (h : ℕ). m.category ≤ most (format_of h).fields CATEGORY) i fitting.1,
    subst (λ (h : ℕ). m.indicators ≤ most (format_of h).fields INDICATORS) i fitting.2,
    subst (λ (h : ℕ). cond (has_signals h) (above_fifteen m.address) (ltb 0 (length m.address)) ≡ false) i each.3,
  )

pub acm_fits : (h acm : ℕ) → h ≡ 0x14 → acm ≤ most (format_of h).fields ACM → acm ≤ 63
acm_fits h acm e l = subst (λ (h : ℕ). acm ≤ most (format_of h).fields ACM) e l

-- an address that is in order, as it is for formats
pub in_order : (address : List ℕ) → bad_address address ≡ false → (length address ≡ 0 → ⊥) × (length address ≤ 15) × (bad_codes address ≡ false)
in_order address e = addresses.in_order address e

pub few : (address : List ℕ) → bad_address address ≡ false → length address ≤ 15
few address e = addresses.few address e
