-- Where a refusal names the octet of the heading, the count or a signal, no message is read that begins with the octets up to that one and with it;
-- nor is one that begins as a number which is short whatever follows.
-- Assumes nothing.
use mathlib.Core.Path.{◌≡◌, refl, sym, ap, ap₂, ◌∙◌, subst}
use mathlib.Core.Bool.{Bool, true, false, cond, not, ◌&&◌, ◌||◌}
use mathlib.Core.List.{List, [], ◌∷◌}
use mathlib.Core.Logic.{◌⊎◌, ⊎_elim}
use Prim.Native.Nat.{ℕ, suc, ◌+◌, ◌/◌, ◌%◌, ◌<◌, ◌≤◌}
use native.Mathlib.Omega.{arith}
use borrow.Author.Tests.{ltb-true, eqb-true}
use lib.Dec.{T, eqb, ltb}
use lib.ListN.{length, get_or, take}
use lib.Seq.{get_or-take}
use Rattle.circuit.proofs.Every.{both_hold}
use Rattle.circuit.specs.Refusals.{Clear}
use Rattle.circuit.proofs.Refusals.{clear}
use Rattle.reader.specs.Told.{Told}
use Rattle.words.specs.Octets.{number_of}
use Rattle.formats.specs.Format.{INDICATORS, COUNT, signal_octet}
use Rattle.formats.specs.Messages.{format_of, has_signals, listed}
use Rattle.formats.specs.Octets.{bad_code, bad_codes, first_bad, short}
use Rattle.formats.proofs.ByHeading.{signal_octets, count_octet}
use Rattle.formats.proofs.Few.{same_first}
use Rattle.formats.proofs.Places.{heading_there}
use Rattle.formats.proofs.Signals.{some_before, each_passes, first_fits}
use Rattle.reader.specs.Places.{heading_in, field_by, signals_by}
use Rattle.reader.specs.Reading.{read_faults, read_rules, fields_in, fields_of}
use Rattle.reader.specs.Stands.{short_anyway}
use Rattle.reader.proofs.Faults.{cases, read_refusal}
use Rattle.reader.proofs.ByLetter.{word_in, address, counted, indicated, long, its, iam_in}

-- octets that the reader takes in some group with these codes, and that begin with the same
module _ (own far theirs : ℕ) (xs ys : List ℕ) (octets : (i : ℕ) → get_or xs i 0 < 256) (octets' : (i : ℕ) → get_or ys i 0 < 256) (p : ℕ) (same : take (suc p) ys ≡ take (suc p) xs)
    (ok : (fields_of own far theirs ys).refusal ≡ 0) where
  tests : Clear (read_rules own far theirs ys)
  tests = clear (read_rules own far theirs ys) tt (sym (read_refusal own far theirs ys) ∙ ok)

  alike : (i : ℕ) → i ≤ p → get_or ys i 0 ≡ get_or xs i 0
  alike i l = sym (get_or-take (suc p) ys i 0 (omega arith)) ∙ ap (λ (zs : List ℕ). get_or zs i 0) same ∙ get_or-take (suc p) xs i 0 (omega arith)

  -- the heading is known
  same_heading : 5 ≤ p → heading_in ys ≡ heading_in xs
  same_heading l = heading_there ys octets' ∙ alike 5 l ∙ sym (heading_there xs octets)

  not_unlisted : 5 ≤ p → not (listed (heading_in xs)) ≡ true → ⊥
  not_unlisted l e = subst T (sym e ∙ ap (λ (h : ℕ). not (listed h)) (sym (same_heading l)) ∙ tests.1.1.1.0) tt

  -- an IAM has signals, all in order
  module _ (eight : 8 ≤ p) (iam : heading_in xs ≡ 0x11) where
    its_iam : heading_in ys ≡ 0x11
    its_iam = same_heading (omega arith) ∙ iam

    same_words : word_in ys ≡ word_in xs
    same_words = ap₂ (λ (a b : ℕ). number_of (a ∷ b ∷ [])) (alike 7 (omega arith)) (alike 8 (omega arith))

    same_word : word_in ys / 4096 ≡ word_in xs / 4096
    same_word = ap (λ (w : ℕ). w / 4096) same_words

    not_empty : eqb (field_by (format_of 0x11) COUNT xs) 0 ≡ true → ⊥
    not_empty e =
        subst T (sym e ∙ ap (λ (k : ℕ). eqb k 0) (counted xs octets ∙ sym same_word ∙ sym (counted ys octets'))
        ∙ subst (λ (h : ℕ). (has_signals h && eqb (field_by (format_of h) COUNT ys) 0) ≡ false) its_iam tests.1.1.1.1.1.0) tt

    ordered : bad_codes (address ys octets') ≡ false
    ordered = subst (λ (h : ℕ). (has_signals h && bad_codes (signals_by (format_of h) ys)) ≡ false) its_iam tests.1.1.1.1.1.1.1.0

    not_spoilt : p ≡ 9 + first_bad (address xs octets) / 2 → bad_codes (address xs octets) ≡ true → ⊥
    not_spoilt e bad =
        let i : ℕ = first_bad (address xs octets) in
        let l : first_bad (address xs octets) < length (address xs octets) = ltb-true _ _ (sym (some_before bad_code (address xs octets)) ∙ bad) in
        let k : first_bad (address xs octets) < word_in xs / 4096 = subst (λ (n : ℕ). first_bad (address xs octets) < n) (long xs octets) l in
        let m : first_bad (address xs octets) < word_in ys / 4096 = subst (λ (n : ℕ). first_bad (address xs octets) < n) (sym same_word) k in
        subst T (sym (first_fits bad_code (address xs octets) l)
        ∙ ap₂ (λ (c n : ℕ). bad_code c (ltb (suc (first_bad (address xs octets))) n))
        (its xs octets i k ∙ ap (λ (o : ℕ). cond (eqb (i % 2) 0) (o % 16) (o / 16)) (sym (alike (9 + i / 2) (omega arith))) ∙ sym (its ys octets' i m))
        (long xs octets ∙ sym same_word ∙ sym (long ys octets'))
        ∙ each_passes bad_code (address ys octets') ordered i (subst (λ (n : ℕ). i < n) (sym (long ys octets')) m)) tt

    -- and is not short: where there are three signals, the first tells that
    not_short : 9 ≤ p → word_in xs / 4096 ≡ 3 → short (word_in xs % 2048) (address xs octets) ≡ true → ⊥
    not_short nine three few =
        subst T (sym few ∙ sym (same_first (word_in xs % 2048) (address xs octets) (address ys octets') (omega (arith, long xs octets)) (long ys octets' ∙ same_word ∙ sym (long xs octets)) first)
        ∙ ap (λ (w : ℕ). short w (address ys octets')) (ap (λ (w : ℕ). w % 2048) (sym same_words) ∙ sym (indicated ys octets'))
        ∙ subst (λ (h : ℕ). (has_signals h && short (field_by (format_of h) INDICATORS ys) (signals_by (format_of h) ys)) ≡ false) its_iam tests.1.1.1.1.1.1.1.1.0) tt
      where
        first : get_or (address ys octets') 0 0 ≡ get_or (address xs octets) 0 0
        first = its ys octets' 0 (omega (arith, same_word)) ∙ ap (λ (o : ℕ). o % 16) (alike 9 nine) ∙ sym (its xs octets 0 (omega arith))

-- an IAM with three signals that is short: no message is read that begins with its first ten octets, which hold the first two
pub short_for_good : (own far theirs : ℕ) (xs ys : List ℕ) → ((i : ℕ) → get_or xs i 0 < 256) → ((i : ℕ) → get_or ys i 0 < 256)
    → get_or xs 5 0 ≡ 0x11 → short_anyway 10 xs ≡ true → take 10 ys ≡ take 10 xs → (fields_of own far theirs ys).refusal ≡ 0 → ⊥
short_for_good own far theirs xs ys octets octets' iam e same ok =
    let both = both_hold (eqb (field_by (format_of 0x11) COUNT xs) 3) e in
    not_short own far theirs xs ys octets octets' 9 same ok (omega arith) (heading_there xs octets ∙ iam) (omega arith)
    (sym (counted xs octets) ∙ eqb-true _ _ both.0) (ap (λ (w : ℕ). short w (address xs octets)) (sym (indicated xs octets)) ∙ both.1)

module _ (own far records : ℕ) (xs : List ℕ) (octets : (i : ℕ) → get_or xs i 0 < 256) where
  abbrev Unread : ℕ → Type 0
  Unread p = (theirs : ℕ) (ys : List ℕ) → ((i : ℕ) → get_or ys i 0 < 256) → take (suc p) ys ≡ take (suc p) xs → (fields_of own far theirs ys).refusal ≡ 0 → ⊥

  -- of the refusals that the heading or the address meets
  abbrev Spoils : Told → Type 0
  Spoils f = (eqb f.refusal 9 || eqb f.refusal 10) ≡ true → Unread f.place

  other : {P : Type 0} → false ≡ true → P
  other e = absurd (subst T (sym e) tt)

  each : Spoils (fields_of own far records xs)
  unfolding fields_of
  each = cases Spoils (read_faults own far records xs) (fields_in (heading_in xs) xs) (
    (λ e. other),
    (λ e. (
      (λ e. other),
      (λ e. (
        (λ e. other),
        (λ e. (
          (λ e n theirs ys o same ok. not_unlisted own far theirs xs ys octets o 5 same ok (omega arith) e),
          (λ e. (
            (λ e. other),
            (λ e. (
              (λ e n theirs ys o same ok. not_empty own far theirs xs ys octets o 8 (subst (Begins ys) (count_octet (heading_in xs) (both_hold (has_signals (heading_in xs)) e).0) same) ok (omega arith) (iam_in xs (both_hold (has_signals (heading_in xs)) e).0) (both_hold (has_signals 0x11) (subst (λ (h : ℕ). (has_signals h && eqb (field_by (format_of h) COUNT xs) 0) ≡ true) (iam_in xs (both_hold (has_signals (heading_in xs)) e).0) e)).1),
              (λ e. (
                (λ e. other),
                (λ e. (
                  (λ e n theirs ys o same ok. not_spoilt own far theirs xs ys octets o (9 + first_bad (address xs octets) / 2) (subst (Begins ys) (its_octet e) same) ok (omega arith) (iam_in xs (both_hold (has_signals (heading_in xs)) e).0) refl (both_hold (has_signals 0x11) (subst (λ (h : ℕ). (has_signals h && bad_codes (signals_by (format_of h) xs)) ≡ true) (iam_in xs (both_hold (has_signals (heading_in xs)) e).0) e)).1),
                  (λ e. ((λ e. other), (λ e. ((λ e. other), (λ e. other))))),
                )),
              )),
            )),
          )),
        )),
      )),
    )),
  )
    where
      Begins : List ℕ → ℕ → Type 0
      Begins ys p = take (suc p) ys ≡ take (suc p) xs

      its_octet : (has_signals (heading_in xs) && bad_codes (signals_by (format_of (heading_in xs)) xs)) ≡ true
          → signal_octet (format_of (heading_in xs)) (first_bad (signals_by (format_of (heading_in xs)) xs)) ≡ 9 + first_bad (address xs octets) / 2
      its_octet e = ap (λ (h : ℕ). signal_octet (format_of h) (first_bad (signals_by (format_of h) xs))) (iam_in xs (both_hold (has_signals (heading_in xs)) e).0) ∙ signal_octets (first_bad (address xs octets))

  pub spoils : ((fields_of own far records xs).refusal ≡ 9) ⊎ ((fields_of own far records xs).refusal ≡ 10) → Unread (fields_of own far records xs).place
  spoils n = each (⊎_elim (ap nine_or_ten) (ap nine_or_ten) n)
    where
      nine_or_ten : ℕ → Bool
      nine_or_ten k = eqb k 9 || eqb k 10
