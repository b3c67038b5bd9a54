-- Writing what was read, in the sender's group, gives the octets with spare bits and filler cleared. What was got and is put again is cleared, by
-- the law of formats; here stands that the writer takes it.
-- Assumes nothing.
use mathlib.Core.Path.{◌≡◌, refl, sym, ap, ◌∙◌, subst, fun_ext}
use mathlib.Core.Bool.{Bool, true, false, cond, not, ◌&&◌, ◌||◌}
use mathlib.Core.List.{List, [], ◌∷◌}
use Prim.Native.Nat.{ℕ, suc, ◌^◌, ◌<◌, ◌≤◌}
use native.Mathlib.Omega.{arith}
use borrow.Author.Tests.{le-ltb, eqb-true, eqb-false, ne_eqb, not-false}
use lib.Dec.{T, eqb, ltb}
use lib.ListN.{length, get_or, drop}
use lib.Seq.{take_at}
use Rattle.circuit.specs.Refusals.{first_rule, Clear}
use Rattle.circuit.proofs.Groups.{all_false, turned, records_fit}
use Rattle.circuit.proofs.Refusals.{clear, none_given}
use Rattle.formats.specs.Format.{Name, DPC, OPC, CIC, HEADING, ACM, CATEGORY, INDICATORS, COUNT, Behind, nothing, address_signals, Format, Content, each, many, octets_for, octets_from, content_in, most, Fits}
use Rattle.formats.specs.Messages.{format_of, signals_behind, has_signals}
use Rattle.formats.specs.Octets.{bad_codes, above_fifteen}
use Rattle.formats.proofs.Format as format
use Rattle.formats.proofs.ByHeading.{once_each, count_most}
use Rattle.words.specs.Octets.{number_of}
use Rattle.words.proofs.Octets.{length-low_first}
use Rattle.reader.specs.Places.{dpc_in, opc_in, cic_in, heading_in, field_by}
use Rattle.reader.specs.Reading.{body_rules, read_rules, fields_in, fields_of}
use Rattle.reader.specs.Told.{no_codes}
use Rattle.reader.proofs.Faults.{read_refusal, read_fields}
use Rattle.writer.specs.Writing.{Said, said, too_large, bad_address, content_said, octets_of, write_rules, putting, writing}
use Rattle.inverse.specs.Octets.{cleared}
use Rattle.inverse.specs.Said.{said_of}

both : (a b : Bool) → (not a || not b) ≡ false → (a ≡ true) × (b ≡ true)
both true true e = (refl, refl)
both true false e = absurd (subst T e tt)
both false b e = absurd (subst T e tt)

three : (a b c : Bool) → a ≡ false → b ≡ false → c ≡ false → (a || b || c) ≡ false
three a b c p q r = rw (p, q, r)

-- codes of four bits
none_above : (s : List ℕ) → ((i : ℕ) → i < length s → get_or s i 0 < 16) → above_fifteen s ≡ false
none_above [] h = refl
none_above (code ∷ s) h =
    let l : code < 16 = h 0 (omega arith) in
    ap (λ (b : Bool). b || above_fifteen s) (le-ltb 15 code (omega arith)) ∙ none_above s (λ i m. h (suc i) (omega arith))

-- octets that the reader takes
module _ (own far records : ℕ) (xs : List ℕ) (ok : (fields_of own far records xs).refusal ≡ 0) where
  untouched : first_rule (read_rules own far records xs) ≡ 0
  untouched = sym (read_refusal own far records xs) ∙ ok

  pub accepted : fields_of own far records xs ≡ fields_in (heading_in xs) xs
  accepted = read_fields own far records xs untouched

  tests : Clear (read_rules own far records xs)
  tests = clear (read_rules own far records xs) tt untouched

  bodies : Clear (body_rules records (heading_in xs) xs)
  bodies = tests.1.1.1

  codes : (dpc_in xs ≡ own) × (opc_in xs ≡ far)
  codes = let e = both (eqb (dpc_in xs) own) (eqb (opc_in xs) far) tests.1.1.0 in (eqb-true _ _ e.0, eqb-true _ _ e.1)

  abbrev f : Format
  f = format_of (heading_in xs)

  abbrev c : Content
  c = content_in f xs

  fits : Fits f c
  fits = format.got_fits f (number_of xs)

  -- as many signals as the fields say
  many_by : (b : Behind) → f.behind ≡ b → many b c.says ≡ length c.signals
  many_by b e = subst (λ (b : Behind). many b c.says ≡ length c.signals) e fits.counted

  -- that is, as the count says, and none where there is none
  counted : field_by f COUNT xs ≡ length c.signals
  counted = go f.behind refl
    where
      go : (b : Behind) → f.behind ≡ b → field_by f COUNT xs ≡ length c.signals
      go nothing e =
          let z : field_by f COUNT xs ≤ 0 = subst (λ (k : ℕ). field_by f COUNT xs ≤ k) (count_most (heading_in xs) ∙ ap (λ (b : Behind). cond (signals_behind b) 15 0) e) (fits.fields COUNT) in
          let n = many_by nothing e in
          omega arith
      go address_signals e = many_by address_signals e

  pub at_most_fifteen : length c.signals ≤ 15
  at_most_fifteen = go (has_signals (heading_in xs)) (subst (λ (k : ℕ). field_by f COUNT xs ≤ k) (count_most (heading_in xs)) (fits.fields COUNT))
    where
      go : (b : Bool) → field_by f COUNT xs ≤ cond b 15 0 → length c.signals ≤ 15
      go true l = let n = counted in omega arith
      go false l = let n = counted in omega arith

  pub circuit_fits : cic_in xs ≤ 4095
  circuit_fits = fits.fields CIC

  pub indicators_fit : field_by f INDICATORS xs ≤ most f.fields INDICATORS
  indicators_fit = fits.fields INDICATORS

  -- the length is that of the format
  long : length xs ≡ octets_for f (length c.signals)
  long = go f.behind refl
    where
      go : (b : Behind) → f.behind ≡ b → length xs ≡ octets_for f (length c.signals)
      go nothing e =
          let n = many_by nothing e in
          eqb-true _ _ (not-false (eqb (length xs) (octets_for f 0)) (subst (λ (b : Behind). cond (signals_behind b) (ltb (length xs) (octets_for f 0)) (not (eqb (length xs) (octets_for f 0))) ≡ false) e bodies.1.0))
          ∙ ap (octets_for f) n
      go address_signals e =
          eqb-true _ _ (not-false (eqb (length xs) (octets_for f (field_by f COUNT xs))) (subst (λ (b : Behind). (signals_behind b && not (eqb (length xs) (octets_for f (field_by f COUNT xs)))) ≡ false) e bodies.1.1.1.0))
          ∙ ap (octets_for f) counted

  -- WHAT A WRITER IS TO SAY OF IT

  abbrev again : Said
  again = said (cic_in xs) (heading_in xs) (field_by f ACM xs) (field_by f CATEGORY xs) (field_by f INDICATORS xs) c.signals

  said_again : said_of (fields_of own far records xs) ≡ again
  said_again =
      ap said_of accepted
      ∙ ap (said (cic_in xs) (heading_in xs) (field_by f ACM xs) (field_by f CATEGORY xs) (field_by f INDICATORS xs))
      (take_at c.signals (drop (length c.signals) no_codes) (field_by f COUNT xs) (sym counted))

  says_again : (n : Name) → (content_said far own again).says n ≡ c.says n
  says_again DPC = sym codes.0
  says_again OPC = sym codes.1
  says_again CIC = refl
  says_again HEADING = refl
  says_again ACM = refl
  says_again CATEGORY = refl
  says_again INDICATORS = refl
  says_again COUNT = sym counted

  content_again : content_said far own again ≡ c
  content_again = λ i. record { says = fun_ext says_again i; signals = c.signals }

  octets_again : octets_of far own again ≡ cleared xs
  unfolding octets_of
  octets_again = ap (octets_from f) content_again ∙ format.got_is_put f (once_each (heading_in xs)) xs long

  -- THE WRITER TAKES IT

  taken : too_large again ≡ false
  unfolding too_large
  taken =
      all_false (ltb (most f.fields ACM) (field_by f ACM xs)) (ltb (most f.fields CATEGORY) (field_by f CATEGORY xs)) (ltb (most f.fields INDICATORS) (field_by f INDICATORS xs))
      (cond (signals_behind f.behind) (above_fifteen c.signals) (ltb 0 (length c.signals)))
      (le-ltb _ _ (fits.fields ACM)) (le-ltb _ _ (fits.fields CATEGORY)) (le-ltb _ _ (fits.fields INDICATORS)) (go f.behind refl)
    where
      go : (b : Behind) → f.behind ≡ b → cond (signals_behind f.behind) (above_fifteen c.signals) (ltb 0 (length c.signals)) ≡ false
      go nothing e =
          let n = many_by nothing e in
          ap (λ (b : Behind). cond (signals_behind b) (above_fifteen c.signals) (ltb 0 (length c.signals))) e ∙ le-ltb 0 (length c.signals) (omega arith)
      go address_signals e =
          ap (λ (b : Behind). cond (signals_behind b) (above_fifteen c.signals) (ltb 0 (length c.signals))) e
          ∙ none_above c.signals (subst (λ (b : Behind). (i : ℕ) → i < length c.signals → get_or c.signals i 0 < 2 ^ each b) e fits.signals)

  ordered : (has_signals (heading_in xs) && bad_address c.signals) ≡ false
  unfolding bad_address
  ordered = go (has_signals (heading_in xs)) refl
    where
      go : (b : Bool) → has_signals (heading_in xs) ≡ b → (has_signals (heading_in xs) && bad_address c.signals) ≡ false
      go true e =
          ap (λ (b : Bool). b && bad_address c.signals) e
          ∙ three (eqb (length c.signals) 0) (ltb 15 (length c.signals)) (bad_codes c.signals)
          (ne_eqb _ 0 (λ z. eqb-false (field_by f COUNT xs) 0 (subst (λ (b : Bool). (b && eqb (field_by f COUNT xs) 0) ≡ false) e bodies.1.1.0) (counted ∙ z)))
          (le-ltb 15 (length c.signals) at_most_fifteen)
          (subst (λ (b : Bool). (b && bad_codes c.signals) ≡ false) e bodies.1.1.1.1.0)
      go false e = ap (λ (b : Bool). b && bad_address c.signals) e

  -- so a buffer that has room for the octets gets them, cleared
  module _ (buffer : List ℕ) (room : length xs ≤ length buffer) where
    length_cleared : length (octets_of far own again) ≡ length xs
    length_cleared = ap length octets_again ∙ length-low_first (length xs) _

    untested : first_rule (write_rules far own records again (length buffer)) ≡ 0
    untested = none_given (write_rules far own records again (length buffer)) (
      turned own far records records tests.0 (records_fit own far records tests.0),
      (
        le-ltb 4095 (cic_in xs) circuit_fits,
        (bodies.0, (taken, (ordered, (bodies.1.1.1.1.1.0, (le-ltb (length buffer) (length (octets_of far own again)) (let n = length_cleared in omega arith), tt))))),
      ),
    )

    pub written_again : writing far own records (said_of (fields_of own far records xs)) buffer ≡ putting 0 (cleared xs) buffer
    unfolding writing
    written_again =
        ap (λ (m : Said). writing far own records m buffer) said_again
        ∙ ap (λ (n : ℕ). putting n (octets_of far own again) buffer) untested
        ∙ ap (λ (l : List ℕ). putting 0 l buffer) octets_again
