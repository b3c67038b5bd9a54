-- The cases of the reader: what is answered where each test stands.
-- Assumes nothing.
use mathlib.Core.Path.{◌≡◌, refl, sym, ap, ap₂, ◌∙◌}
use mathlib.Core.Bool.{Bool, true, false, cond, not, ◌&&◌, ◌||◌}
use mathlib.Core.List.{List, [], ◌∷◌}
use Prim.Native.Nat.{ℕ, ◌+◌, ◌*◌, ◌/◌, ◌%◌, ◌^◌, ◌<◌, ◌≤◌}
use native.Mathlib.Omega.{arith}
use borrow.Author.Tests.{lt-ltb, le-ltb, le-leb, lt-leb, eq-eqb, ne_eqb}
use lib.Dec.{eqb, ltb, leb}
use lib.ListN.{length, get_or, take, drop, length-drop}
use lib.Seq.{length-take-le, take_at, get_or-drop}
use Rattle.circuit.specs.Groups.{bad_group}
use Rattle.circuit.specs.declared.Cic.{Cic}
use Rattle.reader.specs.Told.{Told, no_codes, refused}
use Rattle.formats.specs.Format.{Format, octets_for, field_octet, signal_octet, CATEGORY, INDICATORS, COUNT, above, get_each, content_in}
use Rattle.formats.specs.Messages.{iam_format, among_own, own_formats, headed, format_of, has_signals, fixed_length, listed, is_iam, is_acm, half}
use Rattle.formats.specs.Octets.{bad_codes, first_bad, short}
use Rattle.formats.specs.Way.{halves}
use Rattle.formats.proofs.ByHeading.{an_acm, neither, signals_of_iam, iam_octets, signal_octets, fixed_lengths}
use Rattle.formats.proofs.Places.{dpc_there, opc_there, cic_there, heading_there, acm_there, category_there, indicators_there, count_there, behind_iam, signals_there}
use Rattle.formats.proofs.Lengths.{length_if, missing, no_length, a_length}
use Rattle.std.proofs.lemmas.Option.{cond_some}
use Rattle.std.specs.Prelude.{Option, Some, None}
use Rattle.words.specs.Octets.{number_of, over}
use Rattle.reader.specs.Faults.{fault}
use Rattle.reader.specs.Places.{cic_in, heading_in, field_by, signals_by}
use Rattle.reader.specs.Reading.{elsewhere, unfit, stray_octet, body_faults, fields_from, fields_in, judged, fields_of}
use Rattle.reader.specs.Way.{body_of}
use Rattle.reader.proofs.Signals.{length_halves}

-- a message by its fields: without fields of its own but ACM's octet, and an IAM
abbrev pub plain_fields : (circuit : Cic) → (heading acm : ℕ) → Told
plain_fields circuit heading acm = record { refusal = 0; place = 0; circuit = circuit; heading = heading; acm = acm; category = 0; indicators = 0; count = 0; address = no_codes }

abbrev pub iam_fields : (circuit : Cic) → (category indicators count : ℕ) → (address : List ℕ) → Told
iam_fields circuit category indicators count address = record { refusal = 0; place = 0; circuit = circuit; heading = 0x11; acm = 0; category = category; indicators = indicators; count = count; address = address }

-- the reader's last seven tests, and the places that are not the same for every message
module _ (f : Told) (len counts spoils : ℕ) (b₀ b₁ b₂ b₃ b₄ b₅ b₆ : Bool) where
  abbrev tested : Told
  tested = judged (fault 9 b₀ 5 ∷ fault 7 b₁ len ∷ fault 10 b₂ counts ∷ fault 7 b₃ len ∷ fault 10 b₄ spoils ∷ fault 17 b₅ counts ∷ fault 2 b₆ 3 ∷ []) f

  at0 : b₀ ≡ true → tested ≡ refused 9 5
  at0 e = rw e

  at1 : b₀ ≡ false → b₁ ≡ true → tested ≡ refused 7 len
  at1 e₀ e = rw (e₀, e)

  at2 : b₀ ≡ false → b₁ ≡ false → b₂ ≡ true → tested ≡ refused 10 counts
  at2 e₀ e₁ e = rw (e₀, e₁, e)

  at3 : b₀ ≡ false → b₁ ≡ false → b₂ ≡ false → b₃ ≡ true → tested ≡ refused 7 len
  at3 e₀ e₁ e₂ e = rw (e₀, e₁, e₂, e)

  at4 : b₀ ≡ false → b₁ ≡ false → b₂ ≡ false → b₃ ≡ false → b₄ ≡ true → tested ≡ refused 10 spoils
  at4 e₀ e₁ e₂ e₃ e = rw (e₀, e₁, e₂, e₃, e)

  at5 : b₀ ≡ false → b₁ ≡ false → b₂ ≡ false → b₃ ≡ false → b₄ ≡ false → b₅ ≡ true → tested ≡ refused 17 counts
  at5 e₀ e₁ e₂ e₃ e₄ e = rw (e₀, e₁, e₂, e₃, e₄, e)

  at6 : b₀ ≡ false → b₁ ≡ false → b₂ ≡ false → b₃ ≡ false → b₄ ≡ false → b₅ ≡ false → b₆ ≡ true → tested ≡ refused 2 3
  at6 e₀ e₁ e₂ e₃ e₄ e₅ e = rw (e₀, e₁, e₂, e₃, e₄, e₅, e)

  at7 : b₀ ≡ false → b₁ ≡ false → b₂ ≡ false → b₃ ≡ false → b₄ ≡ false → b₅ ≡ false → b₆ ≡ false → tested ≡ f
  at7 e₀ e₁ e₂ e₃ e₄ e₅ e = rw (e₀, e₁, e₂, e₃, e₄, e₅, e)

-- a length that does not fit the heading, by the letter
pub unfit_length : (h len : ℕ) → unfit h len ≡ cond (is_iam h) (ltb len 9) (not (eqb len (cond (is_acm h) 7 6)))
unfit_length h len = ap (λ (b : Bool). cond b (ltb len (fixed_length h)) (not (eqb len (fixed_length h)))) (signals_of_iam h) ∙ ap (λ (k : ℕ). cond (is_iam h) (ltb len k) (not (eqb len k))) (fixed_lengths h) ∙ go (is_iam h)
  where
    go : (a : Bool) → cond a (ltb len (cond a 9 (cond (is_acm h) 7 6))) (not (eqb len (cond a 9 (cond (is_acm h) 7 6)))) ≡ cond a (ltb len 9) (not (eqb len (cond (is_acm h) 7 6)))
    go true = refl
    go false = refl

-- a message other than an IAM, by its heading
module _ (records h : ℕ) (xs : List ℕ) (other : is_iam h ≡ false) where
  alone : has_signals h ≡ false
  alone = signals_of_iam h ∙ other

  -- the tests that only a message with address signals meets
  never : (b : Bool) → (has_signals h && b) ≡ false
  never b = ap (λ (t : Bool). t && b) alone

  fit : unfit h (length xs) ≡ not (eqb (length xs) (fixed_length h))
  fit = ap (λ (t : Bool). cond t (ltb (length xs) (fixed_length h)) (not (eqb (length xs) (fixed_length h)))) alone

  abbrev c₂ : ℕ
  c₂ = field_octet (format_of h).fields COUNT

  abbrev c₄ : ℕ
  c₄ = signal_octet (format_of h) (first_bad (signals_by (format_of h) xs))

  abbrev o₂ : Bool
  o₂ = has_signals h && eqb (field_by (format_of h) COUNT xs) 0

  abbrev o₃ : Bool
  o₃ = has_signals h && not (eqb (length xs) (octets_for (format_of h) (field_by (format_of h) COUNT xs)))

  abbrev o₄ : Bool
  o₄ = has_signals h && bad_codes (signals_by (format_of h) xs)

  abbrev o₅ : Bool
  o₅ = has_signals h && short (field_by (format_of h) INDICATORS xs) (signals_by (format_of h) xs)

  unlisted : listed h ≡ false → body_of records h xs ≡ refused 9 5
  unfolding body_of
  unlisted e = at0 (fields_in h xs) (length xs) c₂ c₄ (not (listed h)) (unfit h (length xs)) o₂ o₃ o₄ o₅ (leb records (cic_in xs)) (ap not e)

  long : listed h ≡ true → (length xs ≡ fixed_length h → ⊥) → body_of records h xs ≡ refused 7 (length xs)
  unfolding body_of
  long e n = at1 (fields_in h xs) (length xs) c₂ c₄ (not (listed h)) (unfit h (length xs)) o₂ o₃ o₄ o₅ (leb records (cic_in xs)) (ap not e) (fit ∙ ap not (ne_eqb _ _ n))

  beyond : listed h ≡ true → length xs ≡ fixed_length h → records ≤ cic_in xs → body_of records h xs ≡ refused 2 3
  unfolding body_of
  beyond e n r = at6 (fields_in h xs) (length xs) c₂ c₄ (not (listed h)) (unfit h (length xs)) o₂ o₃ o₄ o₅ (leb records (cic_in xs)) (ap not e) (fit ∙ ap not (eq-eqb _ _ n)) (never _) (never _) (never _) (never _) (le-leb _ _ r)

  pub taken : listed h ≡ true → length xs ≡ fixed_length h → cic_in xs < records → body_of records h xs ≡ fields_in h xs
  unfolding body_of
  taken e n r =
      at7 (fields_in h xs) (length xs) c₂ c₄ (not (listed h)) (unfit h (length xs)) o₂ o₃ o₄ o₅ (leb records (cic_in xs)) (ap not e) (fit ∙ ap not (eq-eqb _ _ n)) (never _) (never _) (never _) (never _) (lt-leb _ _ r)

-- the same where the length was looked up
module _ (records h : ℕ) (xs : List ℕ) (octets : (i : ℕ) → get_or xs i 0 < 256) (differs : h ≡ 0x11 → ⊥) where
  other : is_iam h ≡ false
  other = ne_eqb h 0x11 differs

  pub looked_none : length_if h (listed h) ≡ None → body_of records h xs ≡ refused 9 5
  looked_none e = unlisted records h xs other (no_length h e)

  module _ (fixed : ℕ) (is : length_if h (listed h) ≡ Some fixed) where
    known : listed h ≡ true
    known = (a_length h fixed is).0

    fits : fixed ≡ fixed_length h
    fits = (a_length h fixed is).1

    pub looked_long : (length xs ≡ fixed → ⊥) → body_of records h xs ≡ refused 7 (length xs)
    looked_long n = long records h xs other known (λ e. n (e ∙ sym fits))

    module _ (n : length xs ≡ fixed) (circuit : Cic) (k : circuit.0 ≡ cic_in xs) where
      pub looked_beyond : records ≤ circuit.0 → body_of records h xs ≡ refused 2 3
      looked_beyond r = beyond records h xs other known (n ∙ fits) (rw k at r)

      module _ (r : circuit.0 < records) where
        -- by the format that the heading has
        plainly : (f : Format) → among_own h own_formats ≡ f → body_of records h xs ≡ fields_from h (content_in (headed f) xs)
        plainly f e = taken records h xs other known (n ∙ fits) (rw k at r) ∙ ap (λ (f : Format). fields_from h (content_in (headed f) xs)) e

        pub looked_acm : h ≡ 0x14 → body_of records h xs ≡ plain_fields circuit h (get_or xs 6 0 % 64)
        looked_acm e = plainly _ (an_acm h (eq-eqb h 0x14 e)) ∙ ap (plain_fields (record { 0 = cic_in xs }) h) (acm_there xs octets) ∙ ap (λ (v : ℕ). plain_fields (record { 0 = v }) h (get_or xs 6 0 % 64)) (sym k)

        pub looked_plain : (h ≡ 0x14 → ⊥) → body_of records h xs ≡ plain_fields circuit h 0
        looked_plain e = plainly _ (neither h other (ne_eqb h 0x14 e)) ∙ ap (λ (v : ℕ). plain_fields (record { 0 = v }) h 0) (sym k)

-- an IAM
module _ (records : ℕ) (xs : List ℕ) where
  abbrev counted : ℕ
  counted = field_by (format_of 0x11) COUNT xs

  abbrev address : List ℕ
  address = signals_by (format_of 0x11) xs

  abbrev indicated : ℕ
  indicated = field_by (format_of 0x11) INDICATORS xs

  -- the octet of the first signal that is refused
  abbrev s₄ : ℕ
  s₄ = signal_octet (format_of 0x11) (first_bad address)

  abbrev t₁ : Bool
  t₁ = ltb (length xs) 9

  abbrev t₂ : Bool
  t₂ = eqb counted 0

  abbrev t₃ : Bool
  t₃ = not (eqb (length xs) (octets_for (format_of 0x11) counted))

  abbrev t₄ : Bool
  t₄ = bad_codes address

  abbrev t₅ : Bool
  t₅ = short indicated address

  abbrev t₆ : Bool
  t₆ = leb records (cic_in xs)

  pub iam_cut : length xs < 9 → body_of records 0x11 xs ≡ refused 7 (length xs)
  unfolding body_of
  iam_cut h = at1 (fields_in 0x11 xs) (length xs) 8 s₄ false t₁ t₂ t₃ t₄ t₅ t₆ refl (lt-ltb _ _ h)

  module _ (h : 9 ≤ length xs) where
    iam_empty : counted ≡ 0 → body_of records 0x11 xs ≡ refused 10 8
    unfolding body_of
    iam_empty z = at2 (fields_in 0x11 xs) (length xs) 8 s₄ false t₁ t₂ t₃ t₄ t₅ t₆ refl (le-ltb _ _ h) (eq-eqb _ _ z)

    module _ (z : counted ≡ 0 → ⊥) where
      iam_long : (length xs ≡ octets_for (format_of 0x11) counted → ⊥) → body_of records 0x11 xs ≡ refused 7 (length xs)
      unfolding body_of
      iam_long n = at3 (fields_in 0x11 xs) (length xs) 8 s₄ false t₁ t₂ t₃ t₄ t₅ t₆ refl (le-ltb _ _ h) (ne_eqb _ _ z) (ap not (ne_eqb _ _ n))

      module _ (n : length xs ≡ octets_for (format_of 0x11) counted) where
        iam_codes : bad_codes address ≡ true → body_of records 0x11 xs ≡ refused 10 s₄
        unfolding body_of
        iam_codes b = at4 (fields_in 0x11 xs) (length xs) 8 s₄ false t₁ t₂ t₃ t₄ t₅ t₆ refl (le-ltb _ _ h) (ne_eqb _ _ z) (ap not (eq-eqb _ _ n)) b

        module _ (b : bad_codes address ≡ false) where
          pub iam_few : short indicated address ≡ true → body_of records 0x11 xs ≡ refused 17 8
          unfolding body_of
          iam_few f = at5 (fields_in 0x11 xs) (length xs) 8 s₄ false t₁ t₂ t₃ t₄ t₅ t₆ refl (le-ltb _ _ h) (ne_eqb _ _ z) (ap not (eq-eqb _ _ n)) b f

          iam_beyond : short indicated address ≡ false → records ≤ cic_in xs → body_of records 0x11 xs ≡ refused 2 3
          unfolding body_of
          iam_beyond f r = at6 (fields_in 0x11 xs) (length xs) 8 s₄ false t₁ t₂ t₃ t₄ t₅ t₆ refl (le-ltb _ _ h) (ne_eqb _ _ z) (ap not (eq-eqb _ _ n)) b f (le-leb _ _ r)

          pub iam_taken : short indicated address ≡ false → cic_in xs < records → body_of records 0x11 xs ≡ fields_in 0x11 xs
          unfolding body_of
          iam_taken f r = at7 (fields_in 0x11 xs) (length xs) 8 s₄ false t₁ t₂ t₃ t₄ t₅ t₆ refl (le-ltb _ _ h) (ne_eqb _ _ z) (ap not (eq-eqb _ _ n)) b f (lt-leb _ _ r)

-- the number of two octets, lowest first
pub of_two : (a b : ℕ) → a + b * 256 ≡ number_of (a ∷ b ∷ [])
of_two a b = omega arith

-- the same of an IAM whose two octets were read as the number w
module _ (records : ℕ) (xs : List ℕ) (octets : (i : ℕ) → get_or xs i 0 < 256) (w : ℕ) (is : w ≡ number_of (get_or xs 7 0 ∷ get_or xs 8 0 ∷ [])) where
  count : counted records xs ≡ w / 4096
  count = count_there xs octets ∙ ap (λ (v : ℕ). v / 4096) (sym is)

  told : indicated records xs ≡ w % 2048
  told = indicators_there xs octets ∙ ap (λ (v : ℕ). v % 2048) (sym is)

  pub empty : 9 ≤ length xs → w / 4096 ≡ 0 → body_of records 0x11 xs ≡ refused 10 8
  empty h z = iam_empty records xs h (count ∙ z)

  module _ (h : 9 ≤ length xs) (z : w / 4096 ≡ 0 → ⊥) where
    some : counted records xs ≡ 0 → ⊥
    some e = z (sym count ∙ e)

    octets_counted : octets_for (format_of 0x11) (counted records xs) ≡ 9 + half (w / 4096)
    octets_counted = iam_octets (counted records xs) ∙ ap (λ (v : ℕ). 9 + half v) count

    pub too_long : (length xs ≡ 9 + half (w / 4096) → ⊥) → body_of records 0x11 xs ≡ refused 7 (length xs)
    too_long n = iam_long records xs h some (λ e. n (e ∙ octets_counted))

-- the same of one that has the octets which its count asks for, and whose codes were read
pub record Spelt (xs : List ℕ) (w : ℕ) (codes : List ℕ) : Type 0 where
  pub octets : (i : ℕ) → get_or xs i 0 < 256
  pub word : w ≡ number_of (get_or xs 7 0 ∷ get_or xs 8 0 ∷ [])
  pub nine : 9 ≤ length xs
  pub some : w / 4096 ≡ 0 → ⊥
  pub long : length xs ≡ 9 + half (w / 4096)
  pub signals : codes ≡ over (take (w / 4096) (halves (drop 9 xs))) no_codes

module _ (records : ℕ) (xs : List ℕ) (w : ℕ) (codes : List ℕ) (k : Spelt xs w codes) where
  abbrev c : ℕ
  c = w / 4096

  z : counted records xs ≡ 0 → ⊥
  z = some records xs k.octets w k.word k.nine k.some

  whole : length xs ≡ octets_for (format_of 0x11) (counted records xs)
  whole = k.long ∙ sym (octets_counted records xs k.octets w k.word k.nine k.some)

  enough : c ≤ 2 * length (drop 9 xs)
  enough = let l = k.long in omega (arith, length-drop 9 xs)

  -- so many signals are there
  how_many : length (take c (halves (drop 9 xs))) ≡ c
  how_many = length-take-le c (halves (drop 9 xs)) (let l = k.long in omega (arith, length_halves (drop 9 xs), length-drop 9 xs))

  there : address records xs ≡ take c (halves (drop 9 xs))
  there =
      ap (λ (v : ℕ). get_each 4 v (above (headed iam_format).fields (number_of xs))) (count records xs k.octets w k.word)
      ∙ ap (get_each 4 c) (behind_iam xs k.octets)
      ∙ signals_there c (drop 9 xs) (λ i m. rw (get_or-drop 9 xs i 0) (k.octets (9 + i))) enough

  the_address : take c codes ≡ address records xs
  the_address = ap (take c) k.signals ∙ take_at (take c (halves (drop 9 xs))) (drop (length (take c (halves (drop 9 xs)))) no_codes) c how_many ∙ sym there

  -- the first signal that is refused, as the program looks for it
  abbrev pub looked : Option ℕ
  looked = cond (bad_codes (take c codes)) (Some (first_bad (take c codes))) None

  pub spoilt : (bad : ℕ) → looked ≡ Some bad → body_of records 0x11 xs ≡ refused 10 (9 + bad / 2)
  spoilt bad e =
      iam_codes records xs k.nine z whole (sym (ap bad_codes the_address) ∙ (cond_some _ _ _ e).0)
      ∙ ap (refused 10) (ap (λ (l : List ℕ). signal_octet (format_of 0x11) (first_bad l)) (sym the_address) ∙ ap (signal_octet (format_of 0x11)) (cond_some _ _ _ e).1 ∙ signal_octets bad)

  module _ (none : looked ≡ None) where
    -- and whether the number is short, as it asks that
    module _ (few : Bool) (is : few ≡ short (w % 2048) (take c codes)) where
      unspoilt : bad_codes (address records xs) ≡ false
      unspoilt = sym (ap bad_codes the_address) ∙ missing _ _ none

      asked : short (indicated records xs) (address records xs) ≡ few
      asked = ap₂ short (told records xs k.octets w k.word) (sym the_address) ∙ sym is

      pub too_few : few ≡ true → body_of records 0x11 xs ≡ refused 17 8
      too_few e = iam_few records xs k.nine z whole unspoilt (asked ∙ e)

      pub no_circuit : few ≡ false → records ≤ cic_in xs → body_of records 0x11 xs ≡ refused 2 3
      no_circuit e r = iam_beyond records xs k.nine z whole unspoilt (asked ∙ e) r

      pub read_whole : few ≡ false → (circuit : Cic) → circuit.0 ≡ cic_in xs → circuit.0 < records → body_of records 0x11 xs ≡ iam_fields circuit (get_or xs 6 0 % 64) (w % 2048) c codes
      read_whole e circuit q r =
          iam_taken records xs k.nine z whole unspoilt (asked ∙ e) (rw q at r)
          ∙ ap (λ (v : ℕ). iam_fields (record { 0 = v }) category (indicated records xs) (counted records xs) (over (address records xs) no_codes)) (sym q)
          ∙ ap (λ (v : ℕ). iam_fields circuit v (indicated records xs) (counted records xs) (over (address records xs) no_codes)) (category_there xs k.octets)
          ∙ ap (λ (v : ℕ). iam_fields circuit (get_or xs 6 0 % 64) v (counted records xs) (over (address records xs) no_codes)) (told records xs k.octets w k.word)
          ∙ ap (λ (v : ℕ). iam_fields circuit (get_or xs 6 0 % 64) (w % 2048) v (over (address records xs) no_codes)) (count records xs k.octets w k.word)
          ∙ ap (iam_fields circuit (get_or xs 6 0 % 64) (w % 2048) c) (sym (k.signals ∙ ap (λ (l : List ℕ). over l no_codes) (sym there)))
        where
          category : ℕ
          category = field_by (format_of 0x11) CATEGORY xs

-- the first three tests
module _ (own far records : ℕ) (xs : List ℕ) where
  abbrev begun : Bool → Bool → Bool → Told
  begun b₀ b₁ b₂ = judged (fault 1 b₀ 0 ∷ fault 7 b₁ (length xs) ∷ fault 8 b₂ (stray_octet own xs) ∷ body_faults records (heading_in xs) xs) (fields_in (heading_in xs) xs)

  pub bad_group_lem : bad_group own far records ≡ true → fields_of own far records xs ≡ refused 1 0
  unfolding fields_of
  bad_group_lem e = ap (λ (b : Bool). begun b (ltb (length xs) 6) (elsewhere own far xs)) e

  pub cut : bad_group own far records ≡ false → length xs < 6 → fields_of own far records xs ≡ refused 7 (length xs)
  unfolding fields_of
  cut e h = ap (λ (b : Bool). begun b (ltb (length xs) 6) (elsewhere own far xs)) e ∙ ap (λ (b : Bool). begun false b (elsewhere own far xs)) (lt-ltb _ _ h)

  pub stray : bad_group own far records ≡ false → 6 ≤ length xs → elsewhere own far xs ≡ true → fields_of own far records xs ≡ refused 8 (stray_octet own xs)
  unfolding fields_of
  stray e h s = ap (λ (b : Bool). begun b (ltb (length xs) 6) (elsewhere own far xs)) e ∙ ap (λ (b : Bool). begun false b (elsewhere own far xs)) (le-ltb _ _ h) ∙ ap (begun false false) s

  ours : bad_group own far records ≡ false → 6 ≤ length xs → elsewhere own far xs ≡ false → fields_of own far records xs ≡ body_of records (heading_in xs) xs
  unfolding fields_of body_of
  ours e h s = ap (λ (b : Bool). begun b (ltb (length xs) 6) (elsewhere own far xs)) e ∙ ap (λ (b : Bool). begun false b (elsewhere own far xs)) (le-ltb _ _ h) ∙ ap (begun false false) s

  -- its heading is the sixth octet
  pub ours_read : bad_group own far records ≡ false → 6 ≤ length xs → elsewhere own far xs ≡ false → ((i : ℕ) → get_or xs i 0 < 256)
      → fields_of own far records xs ≡ body_of records (get_or xs 5 0) xs
  ours_read e h s octets = ours e h s ∙ ap (λ (k : ℕ). body_of records k xs) (heading_there xs octets)

-- a label that was read as a number
module _ (label : ℕ) (xs : List ℕ) (octets : (i : ℕ) → get_or xs i 0 < 256) (is : label ≡ number_of (get_or xs 0 0 ∷ get_or xs 1 0 ∷ get_or xs 2 0 ∷ get_or xs 3 0 ∷ get_or xs 4 0 ∷ [])) where
  pub stray_if : (own far : ℕ) → cond {A = Option ℕ} (eqb (label % 2 ^ 14) own) (cond {A = Option ℕ} (eqb (label / 2 ^ 14 % 2 ^ 14) far) None (Some 1)) (Some 0) ≡ cond {A = Option ℕ} (elsewhere own far xs) (Some (stray_octet own xs)) None
  stray_if own far = rw (dpc_there xs octets, opc_there xs octets, ← is) (go (eqb (label % 2 ^ 14) own) (eqb (label / 2 ^ 14 % 2 ^ 14) far))
    where
      go : (a b : Bool) → cond {A = Option ℕ} a (cond {A = Option ℕ} b None (Some 1)) (Some 0) ≡ cond {A = Option ℕ} (not a || not b) (Some (cond a 1 0)) None
      go true true = refl
      go true false = refl
      go false true = refl
      go false false = refl

  pub the_circuit : label / 2 ^ 28 ≡ cic_in xs
  the_circuit = ap (λ (l : ℕ). l / 2 ^ 28) is ∙ sym (cic_there xs octets)
