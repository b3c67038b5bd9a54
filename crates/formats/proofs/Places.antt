-- Where the fields of the messages lie in their octets, as the programs look for them and put them: the formats, octet by octet.
-- Assumes nothing.
use mathlib.Core.Path.{◌≡◌, refl, ap, ap₂, ◌∙◌}
use mathlib.Core.Bool.{cond}
use mathlib.Core.List.{List, [], ◌∷◌, ◌++◌}
use Prim.Native.Nat.{ℕ, zero, suc, ◌+◌, ◌*◌, ◌/◌, ◌%◌, ◌^◌, ◌<◌, ◌≤◌}
use native.Mathlib.Omega.{arith}
use lib.Dec.{eqb}
use lib.ListN.{length, get_or, take, drop}
use lib.Seq.{get_or-drop}
use Rattle.words.specs.Octets.{Octets, low_first, number_of}
use Rattle.words.proofs.Octets.{in_parts}
use Rattle.formats.specs.Format.{DPC, OPC, CIC, HEADING, ACM, CATEGORY, INDICATORS, COUNT, Format, Content, octets_for, put_each, number_from, octets_from, get, above, get_each, content_in}
use Rattle.formats.specs.Messages.{head, acm_format, iam_format, no_fields, headed, half}
use Rattle.formats.specs.Way.{pairs, halves}

-- GOT FROM OCTETS

-- an octet and those behind it
pub next_octet : (i : ℕ) (xs : List ℕ) → number_of (drop i xs) ≡ get_or xs i 0 + 256 * number_of (drop (suc i) xs)
next_octet zero [] = refl
next_octet zero (o ∷ os) = refl
next_octet (suc i) [] = refl
next_octet (suc i) (o ∷ os) = next_octet i os

module _ (xs : List ℕ) (octets : (i : ℕ) → get_or xs i 0 < 256) where
  abbrev number : ℕ
  number = number_of xs

  -- the label's five octets, as one number
  abbrev label_octets : ℕ
  label_octets = number_of (get_or xs 0 0 ∷ get_or xs 1 0 ∷ get_or xs 2 0 ∷ get_or xs 3 0 ∷ get_or xs 4 0 ∷ [])

  five_and_more : number ≡ label_octets + 256 ^ 5 * number_of (drop 5 xs)
  five_and_more = let a = next_octet 0 xs in let b = next_octet 1 xs in let c = next_octet 2 xs in let d = next_octet 3 xs in let e = next_octet 4 xs in omega arith

  five_fit : label_octets < 256 ^ 5
  five_fit = omega (arith, octets 0, octets 1, octets 2, octets 3, octets 4)

  pub dpc_there : get head number DPC ≡ label_octets % 0x4000
  dpc_there = omega (arith, five_and_more)

  pub opc_there : get head number OPC ≡ label_octets / 0x4000 % 0x4000
  opc_there = omega (arith, five_and_more, five_fit)

  pub cic_there : get head number CIC ≡ label_octets / 0x10000000
  cic_there = omega (arith, five_and_more, five_fit)

  behind_label : number / 0x4000 / 0x4000 / 0x1000 ≡ number_of (drop 5 xs)
  behind_label = omega (arith, five_and_more, five_fit)

  pub heading_there : get head number HEADING ≡ get_or xs 5 0
  heading_there = let a = next_octet 5 xs in omega (arith, behind_label, octets 5)

  -- what is above label and heading is what lies behind them
  pub behind_head : above head number ≡ number_of (drop 6 xs)
  behind_head = let a = next_octet 5 xs in omega (arith, behind_label, octets 5)

  pub acm_there : get (headed acm_format).fields number ACM ≡ get_or xs 6 0 % 64
  acm_there = let a = next_octet 6 xs in omega (arith, behind_head)

  -- the two octets of indicators and count, as one number
  abbrev word_octets : ℕ
  word_octets = number_of (get_or xs 7 0 ∷ get_or xs 8 0 ∷ [])

  pub category_there : get (headed iam_format).fields number CATEGORY ≡ get_or xs 6 0 % 64
  category_there = let a = next_octet 6 xs in omega (arith, behind_head)

  behind_category : above head number / 64 / 4 ≡ number_of (drop 7 xs)
  behind_category = let a = next_octet 6 xs in omega (arith, behind_head, octets 6)

  pub indicators_there : get (headed iam_format).fields number INDICATORS ≡ word_octets % 2048
  indicators_there = let a = next_octet 7 xs in let b = next_octet 8 xs in omega (arith, behind_category)

  pub count_there : get (headed iam_format).fields number COUNT ≡ word_octets / 4096
  count_there = let a = next_octet 7 xs in let b = next_octet 8 xs in omega (arith, behind_category, octets 7, octets 8)

  pub behind_iam : above (headed iam_format).fields number ≡ number_of (drop 9 xs)
  behind_iam = let a = next_octet 7 xs in let b = next_octet 8 xs in omega (arith, behind_category, octets 7, octets 8)

-- address signals, two to an octet
pub signals_there : (n : ℕ) (os : List ℕ) → Octets os → n ≤ 2 * length os → get_each 4 n (number_of os) ≡ take n (halves os)
signals_there zero os h l = refl
signals_there (suc zero) [] h l = absurd (omega arith)
signals_there (suc zero) (o ∷ os) h l = let e : (o + 256 * number_of os) % 16 ≡ o % 16 = omega arith in rw e
signals_there (suc (suc n)) [] h l = absurd (omega arith)
signals_there (suc (suc n)) (o ∷ os) h l =
    let b : o < 256 = h 0 (omega arith) in
    let e : (o + 256 * number_of os) % 16 ≡ o % 16 = omega arith in
    let q : (o + 256 * number_of os) / 16 ≡ o / 16 + 16 * number_of os = omega arith in
    let f : (o / 16 + 16 * number_of os) % 16 ≡ o / 16 = omega arith in
    let g : (o / 16 + 16 * number_of os) / 16 ≡ number_of os = omega arith in
    rw (e, q, f, g) (ap (λ (r : List ℕ). o % 16 ∷ o / 16 ∷ r) (signals_there n os (λ i m. h (suc i) (omega arith)) (omega arith)))

-- one of them: the lower half of its octet is the earlier signal's
pub signal_at : (n i : ℕ) (os : List ℕ) → Octets os → i < n → get_or (get_each 4 n (number_of os)) i 0 ≡ cond (eqb (i % 2) 0) (get_or os (i / 2) 0 % 16) (get_or os (i / 2) 0 / 16)
signal_at zero i os h l = absurd (omega arith)
signal_at (suc n) zero [] h l = refl
signal_at (suc n) zero (o ∷ os) h l = omega arith
signal_at (suc zero) (suc i) os h l = absurd (omega arith)
signal_at (suc (suc n)) (suc zero) [] h l = refl
signal_at (suc (suc n)) (suc zero) (o ∷ os) h l =
    let b : o < 256 = h 0 (omega arith) in
    let q : (o + 256 * number_of os) / 16 ≡ o / 16 + 16 * number_of os = omega arith in
    rw q (omega arith)
signal_at (suc (suc n)) (suc (suc i)) [] h l =
    let m : suc (suc i) % 2 ≡ i % 2 = omega arith in
    rw m (signal_at n i [] h (omega arith))
signal_at (suc (suc n)) (suc (suc i)) (o ∷ os) h l =
    let b : o < 256 = h 0 (omega arith) in
    let q : (o + 256 * number_of os) / 16 ≡ o / 16 + 16 * number_of os = omega arith in
    let g : (o / 16 + 16 * number_of os) / 16 ≡ number_of os = omega arith in
    let d : suc (suc i) / 2 ≡ suc (i / 2) = omega arith in
    let m : suc (suc i) % 2 ≡ i % 2 = omega arith in
    rw (q, g, d, m) (signal_at n i os (λ j k. h (suc j) (omega arith)) (omega arith))

pub iam_signal : (xs : List ℕ) (octets : (i : ℕ) → get_or xs i 0 < 256) (i : ℕ) → i < (content_in (headed iam_format) xs).says COUNT
    → get_or (content_in (headed iam_format) xs).signals i 0 ≡ cond (eqb (i % 2) 0) (get_or xs (9 + i / 2) 0 % 16) (get_or xs (9 + i / 2) 0 / 16)
iam_signal xs octets i l =
    ap (λ (k : ℕ). get_or (get_each 4 ((content_in (headed iam_format) xs).says COUNT) k) i 0) (behind_iam xs octets)
    ∙ signal_at ((content_in (headed iam_format) xs).says COUNT) i (drop 9 xs) (λ j m. rw (get_or-drop 9 xs j 0) (octets (9 + j))) l
    ∙ ap (λ (o : ℕ). cond (eqb (i % 2) 0) (o % 16) (o / 16)) (get_or-drop 9 xs (i / 2) 0)

-- PUT INTO OCTETS

-- an octet before others
one_more : (a b k : ℕ) → a < 256 → low_first (suc k) (a + 256 * b) ≡ a ∷ low_first k b
one_more a b k h =
    let low : (a + 256 * b) % 256 ≡ a = omega arith in
    let high : (a + 256 * b) / 256 ≡ b = omega arith in
    rw (low, high)

-- label and heading, and what lies behind them
pub head_put : (f : Format) (c : Content) → c.says DPC < 0x4000 → c.says OPC < 0x4000 → c.says CIC < 0x1000 → c.says HEADING < 256
    → octets_from (headed f) c ≡ low_first 5 (c.says DPC + 2 ^ 14 * c.says OPC + 2 ^ 28 * c.says CIC) ++ (c.says HEADING ∷ octets_from f c)
head_put f c d o k h =
    let rest : ℕ = number_from f c in
    let label : ℕ = c.says DPC + 2 ^ 14 * c.says OPC + 2 ^ 28 * c.says CIC in
    let n : ℕ = octets_for f (length c.signals) in
    let long : octets_for (headed f) (length c.signals) ≡ 5 + suc n = omega arith in
    let number : number_from (headed f) c ≡ label + 256 ^ 5 * (c.says HEADING + 256 * rest) = omega arith in
    ap₂ low_first long number ∙ in_parts 5 (suc n) label (c.says HEADING + 256 * rest) (omega arith)
    ∙ ap (λ (l : List ℕ). low_first 5 label ++ l) (one_more (c.says HEADING) rest n h)

-- an ACM's octet
pub acm_put : (c : Content) → c.says ACM < 64 → octets_from acm_format c ≡ c.says ACM ∷ []
acm_put c h =
    let long : octets_for acm_format (length c.signals) ≡ 1 = omega arith in
    let number : number_from acm_format c ≡ c.says ACM + 256 * put_each 0 c.signals = omega arith in
    ap₂ low_first long number ∙ one_more (c.says ACM) (put_each 0 c.signals) 0 (omega arith)

-- nothing
pub nothing_put : (c : Content) → octets_from no_fields c ≡ []
nothing_put c = let e : octets_for no_fields (length c.signals) ≡ 0 = omega arith in ap (λ (n : ℕ). low_first n (number_from no_fields c)) e

-- address signals, two to an octet
pub signals_put : (ss : List ℕ) → ((i : ℕ) → i < length ss → get_or ss i 0 ≤ 15) → low_first (half (length ss)) (put_each 4 ss) ≡ pairs ss
signals_put [] h = refl
signals_put (a ∷ []) h =
    let l : a ≤ 15 = h 0 (omega arith) in
    let e : (a + 16 * 0) % 256 ≡ a = omega arith in
    rw e
signals_put (a ∷ b ∷ ss) h =
    let l : a ≤ 15 = h 0 (omega arith) in
    let m : b ≤ 15 = h 1 (omega arith) in
    let n : half (suc (suc (length ss))) ≡ suc (half (length ss)) = omega arith in
    let e : a + 16 * (b + 16 * put_each 4 ss) ≡ a + 16 * b + 256 * put_each 4 ss = omega arith in
    ap₂ low_first n e ∙ one_more (a + 16 * b) (put_each 4 ss) (half (length ss)) (omega arith)
    ∙ ap (λ (r : List ℕ). (a + 16 * b) ∷ r) (signals_put ss (λ i m. h (suc (suc i)) (omega arith)))

-- an IAM's fields, and its address signals
pub iam_put : (c : Content) → c.says CATEGORY < 64 → c.says INDICATORS < 2048 → c.says COUNT < 16 → ((i : ℕ) → i < length c.signals → get_or c.signals i 0 ≤ 15)
    → octets_from iam_format c ≡ c.says CATEGORY ∷ low_first 2 (c.says INDICATORS + 4096 * c.says COUNT) ++ pairs c.signals
iam_put c g i k h =
    let rest : ℕ = put_each 4 c.signals in
    let word : ℕ = c.says INDICATORS + 4096 * c.says COUNT in
    let n : ℕ = half (length c.signals) in
    let long : octets_for iam_format (length c.signals) ≡ suc (2 + n) = omega arith in
    let number : number_from iam_format c ≡ c.says CATEGORY + 256 * (word + 256 ^ 2 * rest) = omega arith in
    ap₂ low_first long number ∙ one_more (c.says CATEGORY) (word + 256 ^ 2 * rest) (2 + n) (omega arith)
    ∙ ap (λ (l : List ℕ). c.says CATEGORY ∷ l) (in_parts 2 n word rest (omega arith) ∙ ap (λ (l : List ℕ). low_first 2 word ++ l) (signals_put c.signals h))
