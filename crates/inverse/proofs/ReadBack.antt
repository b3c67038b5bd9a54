-- Reading what was written gives the message back: at the end addressed, in a group that has the circuit. What was put is got back, by the law of
-- formats; here stands that the reader takes it.
-- Assumes nothing.
use mathlib.Core.Path.{◌≡◌, refl, sym, ap, ◌∙◌, subst}
use mathlib.Core.Bool.{Bool, true, false, cond, not, ◌&&◌}
use mathlib.Core.List.{List}
use Prim.Native.Nat.{ℕ, ◌^◌, ◌<◌, ◌≤◌}
use native.Mathlib.Omega.{arith}
use borrow.Author.Tests.{ltb-false, le-ltb, lt-leb, eq-eqb, ne_eqb, not-false}
use lib.Dec.{eqb, ltb}
use lib.ListN.{length, get_or}
use Rattle.circuit.specs.Groups.{bad_group}
use Rattle.circuit.proofs.Groups.{in_range}
use Rattle.circuit.specs.Refusals.{first_rule, Clear}
use Rattle.circuit.proofs.Refusals.{clear, none_given}
use Rattle.formats.specs.Format.{Name, DPC, OPC, CIC, HEADING, ACM, CATEGORY, INDICATORS, COUNT, Behind, nothing, address_signals, Format, Content, each, many, octets_for, content_in, most, Fits}
use Rattle.formats.specs.Messages.{format_of, signals_behind, has_signals, listed}
use Rattle.formats.specs.Octets.{bad_codes, above_fifteen, short}
use Rattle.formats.proofs.Format as format
use Rattle.formats.proofs.ByHeading.{once_each, count_most}
use Rattle.formats.proofs.Lengths.{octet}
use Rattle.reader.specs.Places.{cic_in, heading_in}
use Rattle.reader.specs.Reading.{elsewhere, unfit_by, format_rules, body_rules, read_rules, fields_from, fields_in, fields_of}
use Rattle.reader.proofs.Faults.{read_fields}
use Rattle.writer.specs.Writing.{Said, too_large, bad_address, content_said, octets_of, write_rules}
use Rattle.writer.proofs.Pairs.{at_most}
use Rattle.writer.proofs.Tests.{fitting, fitting_address, in_order, few}
use Rattle.inverse.specs.Said.{fields_said}

-- a test that is made only of some
while : (b : Bool) {t : Bool} → (b ≡ true → t ≡ false) → (b && t) ≡ false
while true h = h refl
while false h = refl

-- a length that is not too short, and is exact where nothing is counted
fitting_length : (b : Bool) (len least : ℕ) → least ≤ len → (b ≡ false → len ≡ least) → cond b (ltb len least) (not (eqb len least)) ≡ false
fitting_length true len least l e = le-ltb len least l
fitting_length false len least l e = ap not (eq-eqb len least (e refl))

-- WHAT THE WRITER TAKES

module _ (own far records : ℕ) (m : Said) (room : ℕ) (ok : first_rule (write_rules own far records m room) ≡ 0) where
  tests : Clear (write_rules own far records m room)
  tests = clear (write_rules own far records m room) tt ok

  -- a group, a circuit number, fields
  pub taking : (bad_group own far records ≡ false) × (m.cic < 4096) × (too_large m ≡ false)
  taking = let h : m.cic ≤ 4095 = ltb-false _ _ tests.1.0 in (tests.0, omega arith, tests.1.1.1.0)

  known : listed m.heading ≡ true
  known = not-false (listed m.heading) tests.1.1.0

  -- an address exactly where the heading has one
  codes : cond (has_signals m.heading) (above_fifteen m.address) (ltb 0 (length m.address)) ≡ false
  codes = fitting_address m taking.2

  module _ (some : has_signals m.heading ≡ true) where
    ordered : bad_address m.address ≡ false
    ordered = subst (λ (b : Bool). (b && bad_address m.address) ≡ false) some tests.1.1.1.1.0

    fifteen : above_fifteen m.address ≡ false
    fifteen = subst (λ (b : Bool). cond b (above_fifteen m.address) (ltb 0 (length m.address)) ≡ false) some codes

  empty : has_signals m.heading ≡ false → length m.address ≤ 0
  empty e = ltb-false 0 (length m.address) (subst (λ (b : Bool). cond b (above_fifteen m.address) (ltb 0 (length m.address)) ≡ false) e codes)

  pub at_most_fifteen : length m.address ≤ 15
  at_most_fifteen = go (has_signals m.heading) refl
    where
      go : (b : Bool) → has_signals m.heading ≡ b → length m.address ≤ 15
      go true e = few m.address (ordered e)
      go false e = let z = empty e in omega arith

  -- so the message fits its format
  abbrev f : Format
  f = format_of m.heading

  abbrev c : Content
  c = content_said own far m

  says_fit : (n : Name) → c.says n ≤ most f.fields n
  says_fit DPC = let h = (in_range own far records taking.0).1 in omega arith
  says_fit OPC = let h = (in_range own far records taking.0).0 in omega arith
  says_fit CIC = let h = taking.1 in omega arith
  says_fit HEADING = let h = octet m.heading known in omega arith
  says_fit ACM = (fitting m taking.2).0
  says_fit CATEGORY = (fitting m taking.2).1
  says_fit INDICATORS = (fitting m taking.2).2
  says_fit COUNT = rw (count_most m.heading) (go (has_signals m.heading) refl)
    where
      go : (b : Bool) → has_signals m.heading ≡ b → length m.address ≤ cond b 15 0
      go true e = at_most_fifteen
      go false e = empty e

  behind_fits : (b : Behind) → f.behind ≡ b → ((i : ℕ) → i < length m.address → get_or m.address i 0 < 2 ^ each b) × (many b c.says ≡ length m.address)
  behind_fits nothing e = let z = empty (ap signals_behind e) in (λ i h. absurd (omega arith), omega arith)
  behind_fits address_signals e = (λ i h. let l = at_most m.address i (fifteen (ap signals_behind e)) h in omega arith, refl)

  pub fits : Fits f c
  fits = record { fields = says_fit; signals = (behind_fits f.behind refl).0; counted = (behind_fits f.behind refl).1 }

  -- THE OTHER END READS IT

  abbrev xs : List ℕ
  xs = octets_of own far m

  there : content_in f xs ≡ c
  unfolding octets_of
  there = format.put_is_got f (once_each m.heading) c fits

  long : length xs ≡ octets_for f (length m.address)
  unfolding octets_of
  long = format.length_fits f c

  says : (n : Name) → (content_in f xs).says n ≡ c.says n
  says n = ap (λ (c : Content). c.says n) there

  heading : heading_in xs ≡ m.heading
  heading = says HEADING

  pub circuit : cic_in xs ≡ m.cic
  circuit = says CIC

  module _ (theirs : ℕ) (group : bad_group far own theirs ≡ false) (has : m.cic < theirs) where
    fits_length : unfit_by f (length xs) ≡ false
    fits_length = fitting_length (has_signals m.heading) (length xs) (octets_for f 0) (let l = long in omega arith) (λ e. let z = empty e in long ∙ ap (octets_for f) (omega arith))

    format_clear : Clear (format_rules theirs f xs)
    format_clear = (
      fits_length,
      (
        while (has_signals m.heading) (λ e. ne_eqb _ 0 (λ z. (in_order m.address (ordered e)).0 (sym (says COUNT) ∙ z))),
        (
          while (has_signals m.heading) (λ e. ap not (eq-eqb _ _ (long ∙ ap (octets_for f) (sym (says COUNT))))),
          (
            while (has_signals m.heading) (λ e. ap (λ (c : Content). bad_codes c.signals) there ∙ (in_order m.address (ordered e)).2),
            (
              ap (λ (c : Content). has_signals m.heading && short (c.says INDICATORS) c.signals) there ∙ tests.1.1.1.1.1.0,
              (lt-leb theirs (cic_in xs) (subst (λ (k : ℕ). k < theirs) (sym circuit) has), tt),
            ),
          ),
        ),
      ),
    )

    elsewhere_false : elsewhere far own xs ≡ false
    elsewhere_false = rw (says DPC, says OPC, eq-eqb far far refl, eq-eqb own own refl)

    all_clear : Clear (read_rules far own theirs xs)
    all_clear = (
      group,
      (
        le-ltb (length xs) 6 (let l = long in omega arith),
        (elsewhere_false, subst (λ (h : ℕ). Clear (body_rules theirs h xs)) (sym heading) (ap not known, format_clear)),
      ),
    )

    -- reading the octets of a message gives the message
    pub octets_read : fields_of far own theirs xs ≡ fields_said m
    octets_read =
        read_fields far own theirs xs (none_given (read_rules far own theirs xs) all_clear)
        ∙ ap (λ (h : ℕ). fields_in h xs) heading
        ∙ ap (fields_from m.heading) there
