-- A message's format, said once (docs/RULES.md, "Messages on the link"): fields in their order, each with its width in bits or spare, and what lies
-- behind them. Reader and writer go by the same formats (`formats/specs/Messages`): what they answer is said by these, in `reader/specs/Reading` and
-- `writer/specs/Writing`. Here stands what holds of every format, whatever its fields; `Demand2` has what follows of the messages.
-- Assumes nothing.
use Rattle.std.specs.Prelude.{◌≡◌, refl, Bool, true, false, cond, List, [], ◌∷◌, ◌++◌, ℕ, ◌+◌, ◌*◌, ◌/◌, ◌%◌, ◌^◌, ◌<◌, T, eqb, length, get_or, replicate}
use Rattle.std.proofs.Common.{arith}
use Rattle.words.specs.Octets.{number_of}
use Rattle.words.proofs.Octets.{everywhere}
use Rattle.formats.specs.Format.{Name, DPC, OPC, CIC, HEADING, ACM, CATEGORY, INDICATORS, COUNT, field, spare, address_signals, Format, Content, octets_for, octets_from, content_in, Fits, once, saying, only, cleared_by}
use Rattle.formats.specs.Messages.{format_of}
use Rattle.formats.proofs.Format as laws
use Rattle.formats.proofs.ByHeading.{once_each}
use Rattle.formats.proofs.Places as places
use Rattle.reader.specs.Places.{dpc_in, opc_in, cic_in, heading_in}
use Rattle.inverse.specs.Octets.{cleared}

-- EVERY FORMAT

-- what is put is got back: each field, and each of the signals behind them. (`Fits`: the content is one that the format can say. `once`: no field
-- stands twice.)
pub put_is_got : (f : Format) → T (once f.fields) → (c : Content) → Fits f c → content_in f (octets_from f c) ≡ c
put_is_got = laws.put_is_got

-- what is got can be put, whatever the octets
pub got_can_be_put : (f : Format) (xs : List ℕ) → Fits f (content_in f xs)
got_can_be_put f xs = laws.got_fits f (number_of xs)

-- what was got and is put again gives the octets with spare bits and filler cleared
pub got_is_put : (f : Format) → T (once f.fields) → (xs : List ℕ) → length xs ≡ octets_for f (length (content_in f xs).signals)
    → octets_from f (content_in f xs) ≡ cleared_by f xs
got_is_put = laws.got_is_put

-- and nothing else: `cleared_by` is `only` some bits of the number, and of these each is as it was
pub each_bit_kept : (bs : List Bool) (k i : ℕ) → only bs k / 2 ^ i % 2 ≡ cond (get_or bs i false) (k / 2 ^ i % 2) 0
each_bit_kept = laws.each_bit

-- different contents give different octets
pub different_contents : (f : Format) → T (once f.fields) → (c d : Content) → Fits f c → Fits f d → (c ≡ d → ⊥) → octets_from f c ≡ octets_from f d → ⊥
different_contents f t c d g h different same = different (laws.same_content f t c d g h same)

-- lengths fit
pub octets_long : (f : Format) (c : Content) → length (octets_from f c) ≡ octets_for f (length c.signals)
octets_long = laws.length_fits

-- ONE FORMAT SHOWN

-- a circuit in twelve bits and four spare ones, a heading, a count of four bits, and as many signals
abbrev shown : Format
shown = record {
  fields =
      field CIC 12
      ∷ spare 4
      ∷ field HEADING 8
      ∷ field COUNT 4
      ∷ [];
  behind = address_signals;
}

abbrev shown_says : Name → ℕ
shown_says DPC = 0
shown_says OPC = 0
shown_says CIC = 0x123
shown_says HEADING = 0x0c
shown_says ACM = 0
shown_says CATEGORY = 0
shown_says INDICATORS = 0
shown_says COUNT = 2

-- circuit 123, heading 0c and the signals 1 and 2, in hexadecimal
pub shown_put : octets_from shown (record { says = shown_says; signals = 1 ∷ 2 ∷ [] }) ≡ 0x23 ∷ 0x01 ∷ 0x0c ∷ 0x12 ∷ 0x02 ∷ []
shown_put = refl

-- the same with spare bits and filler set
abbrev disturbed : List ℕ
disturbed = 0x23 ∷ 0xf1 ∷ 0x0c ∷ 0x12 ∷ 0xf2 ∷ []

pub shown_got : let c = content_in shown disturbed in
    (c.says CIC ≡ 0x123) × (c.says HEADING ≡ 0x0c) × (c.says COUNT ≡ 2) × (c.says ACM ≡ 0) × (c.signals ≡ 1 ∷ 2 ∷ [])
shown_got = (refl, refl, refl, refl, refl)

-- 28 bits of fields and 8 of signals say something, but for the spare ones
pub shown_bits : saying shown.fields ≡ replicate 12 true ++ replicate 4 false ++ replicate 12 true
shown_bits = refl

pub shown_cleared : cleared_by shown disturbed ≡ 0x23 ∷ 0x01 ∷ 0x0c ∷ 0x12 ∷ 0x02 ∷ []
shown_cleared = refl

-- THE MESSAGES' OWN

-- whatever the heading, no field stands twice in its format
pub fields_stand_once : (heading : ℕ) → T (once (format_of heading).fields)
fields_stand_once = once_each

-- Where the fields lie, octet by octet: the label is DPC + 2^14 · OPC + 2^28 · CIC in five octets, lowest first, and then comes the heading;
module _ (xs : List ℕ) (octets : (i : ℕ) → i < length xs → get_or xs i 0 < 256) where
  pub label_there : (dpc_in xs + 2 ^ 14 * opc_in xs + 2 ^ 28 * cic_in xs ≡ number_of (get_or xs 0 0 ∷ get_or xs 1 0 ∷ get_or xs 2 0 ∷ get_or xs 3 0 ∷ get_or xs 4 0 ∷ []))
      × (dpc_in xs < 2 ^ 14) × (opc_in xs < 2 ^ 14) × (cic_in xs < 2 ^ 12) × (heading_in xs ≡ get_or xs 5 0)
  label_there =
      let all = everywhere xs octets in
      let d = places.dpc_there xs all in
      let o = places.opc_there xs all in
      let c = places.cic_there xs all in
      (omega arith, omega arith, omega arith, omega arith, places.heading_there xs all)

  -- an ACM's octet is below its two spare bits;
  pub acm_there : (content_in (format_of 0x14) xs).says ACM ≡ get_or xs 6 0 % 64
  acm_there = places.acm_there xs (everywhere xs octets)

  -- an IAM's category too; of its next two octets, lowest first, eleven bits are indicators, one is spare, and the top four are the count;
  pub iam_there : let c = content_in (format_of 0x11) xs in
      let two = number_of (get_or xs 7 0 ∷ get_or xs 8 0 ∷ []) in
      (c.says CATEGORY ≡ get_or xs 6 0 % 64) × (c.says INDICATORS ≡ two % 2048) × (c.says COUNT ≡ two / 4096)
  iam_there = let all = everywhere xs octets in (places.category_there xs all, places.indicators_there xs all, places.count_there xs all)

  -- and then its signals, two to an octet, the earlier one low.
  pub signal_there : let c = content_in (format_of 0x11) xs in
      (i : ℕ) → i < c.says COUNT → get_or c.signals i 0 ≡ cond (eqb (i % 2) 0) (get_or xs (9 + i / 2) 0 % 16) (get_or xs (9 + i / 2) 0 / 16)
  signal_there = places.iam_signal xs (everywhere xs octets)

-- every bit set but the heading's, and what is left when spare bits and filler are cleared: of a CLF all, of an ACM and of an IAM with fifteen signals
-- not the two top bits of octet 6, and of the IAM not the bit worth 8 of octet 8, nor the filler
pub cleared_bits : let label : List ℕ = replicate 5 0xff in
    (cleared (label ++ (0x46 ∷ [])) ≡ label ++ (0x46 ∷ []))
    × (cleared (label ++ (0x14 ∷ 0xff ∷ [])) ≡ label ++ (0x14 ∷ 0x3f ∷ []))
    × (cleared (label ++ (0x11 ∷ replicate 11 0xff)) ≡ label ++ (0x11 ∷ 0x3f ∷ 0xff ∷ 0xf7 ∷ replicate 7 0xff ++ (0x0f ∷ [])))
cleared_bits = (refl, refl, refl)
