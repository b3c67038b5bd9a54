-- The cases of the writer: what is answered, and what the buffer holds, where each test stands.
-- Assumes nothing.
use mathlib.Core.Path.{◌≡◌, refl, sym, ap, ap₂, ◌∙◌}
use mathlib.Core.Bool.{Bool, true, false, cond, not, ◌&&◌}
use mathlib.Core.List.{List, [], ◌∷◌, ◌++◌}
use Prim.Native.Nat.{ℕ, ◌+◌, ◌*◌, ◌<◌, ◌≤◌}
use native.Mathlib.Omega.{arith}
use borrow.Author.Tests.{lt-ltb, le-ltb, eq-eqb, ne_eqb, eqb-true}
use lib.Dec.{ltb}
use lib.ListN.{length}
use lib.Seq.{paste}
use Rattle.circuit.specs.Groups.{bad_group}
use Rattle.circuit.specs.Refusals.{refuse, first_rule}
use Rattle.circuit.proofs.Groups.{in_range}
use Rattle.formats.specs.Format.{Format, octets_from}
use Rattle.formats.specs.Messages.{iam_format, among_own, own_formats, headed, has_signals, listed, is_iam, is_acm, fixed_length, half}
use Rattle.formats.specs.Octets.{above_fifteen, short}
use Rattle.formats.specs.Way.{pairs}
use Rattle.formats.proofs.ByHeading.{an_iam, an_acm, neither, signals_of_iam, fixed_lengths}
use Rattle.formats.proofs.Lengths.{octet}
use Rattle.formats.proofs.Places.{head_put, acm_put, nothing_put, iam_put}
use Rattle.words.specs.Octets.{low_first, over}
use Rattle.writer.specs.Writing.{Said, too_large, bad_address, content_said, octets_of, Outcome, unwritten, putting, writing}
use Rattle.writer.specs.Way.{label_of, plain_octets, acm_octets, iam_head, iam_octets, short_octets, outcome, iam_writing, short_writing}
use Rattle.writer.proofs.Pairs.{length_pairs, at_most}
use Rattle.writer.proofs.Tests.{fitting, fitting_iam, acm_fits, few}
use Rattle.formats.proofs.Stores.{paste_behind}

-- the outcome of a refusal
abbrev pub stopped : ℕ → List ℕ → Outcome
stopped n buffer = record { answer = unwritten n; buffer = buffer }

-- what an outcome that is known says of answer and buffer
pub answer_of : {o p : Outcome} → o ≡ p → p.answer ≡ o.answer
answer_of e = ap (λ (o : Outcome). o.answer) (sym e)

pub buffer_of : {o p : Outcome} → o ≡ p → p.buffer ≡ o.buffer
buffer_of e = ap (λ (o : Outcome). o.buffer) (sym e)

-- the answer by the writer's tests
abbrev judged : List ℕ → List ℕ → Bool → Bool → Bool → Bool → Bool → Bool → Bool → Outcome
judged xs buffer b₀ b₁ b₂ b₃ b₄ b₅ b₆ = putting (first_rule (refuse 1 b₀ ∷ refuse 2 b₁ ∷ refuse 9 b₂ ∷ refuse 3 b₃ ∷ refuse 10 b₄ ∷ refuse 17 b₅ ∷ refuse 11 b₆ ∷ [])) xs buffer

module _ (xs buffer : List ℕ) (b₀ b₁ b₂ b₃ b₄ b₅ b₆ : Bool) where
  at0 : b₀ ≡ true → judged xs buffer b₀ b₁ b₂ b₃ b₄ b₅ b₆ ≡ stopped 1 buffer
  at0 e = rw e

  at1 : b₀ ≡ false → b₁ ≡ true → judged xs buffer b₀ b₁ b₂ b₃ b₄ b₅ b₆ ≡ stopped 2 buffer
  at1 e₀ e = rw (e₀, e)

  at2 : b₀ ≡ false → b₁ ≡ false → b₂ ≡ true → judged xs buffer b₀ b₁ b₂ b₃ b₄ b₅ b₆ ≡ stopped 9 buffer
  at2 e₀ e₁ e = rw (e₀, e₁, e)

  at3 : b₀ ≡ false → b₁ ≡ false → b₂ ≡ false → b₃ ≡ true → judged xs buffer b₀ b₁ b₂ b₃ b₄ b₅ b₆ ≡ stopped 3 buffer
  at3 e₀ e₁ e₂ e = rw (e₀, e₁, e₂, e)

  past : b₀ ≡ false → b₁ ≡ false → b₂ ≡ false → b₃ ≡ false → judged xs buffer b₀ b₁ b₂ b₃ b₄ b₅ b₆ ≡ putting (first_rule (refuse 10 b₄ ∷ refuse 17 b₅ ∷ refuse 11 b₆ ∷ [])) xs buffer
  past e₀ e₁ e₂ e₃ = rw (e₀, e₁, e₂, e₃)

module _ (own far records : ℕ) (m : Said) (buffer : List ℕ) where
  abbrev xs : List ℕ
  xs = octets_of own far m

  abbrev t₀ : Bool
  t₀ = bad_group own far records

  abbrev t₁ : Bool
  t₁ = ltb 4095 m.cic

  abbrev t₂ : Bool
  t₂ = not (listed m.heading)

  abbrev t₄ : Bool
  t₄ = has_signals m.heading && bad_address m.address

  abbrev t₅ : Bool
  t₅ = has_signals m.heading && short m.indicators m.address

  abbrev t₆ : Bool
  t₆ = ltb (length buffer) (length (octets_of own far m))

  pub no_group : bad_group own far records ≡ true → writing own far records m buffer ≡ stopped 1 buffer
  unfolding writing
  no_group e = at0 xs buffer t₀ t₁ t₂ (too_large m) t₄ t₅ t₆ e

  module _ (e₀ : bad_group own far records ≡ false) where
    pub no_circuit : 4095 < m.cic → writing own far records m buffer ≡ stopped 2 buffer
    unfolding writing
    no_circuit h = at1 xs buffer t₀ t₁ t₂ (too_large m) t₄ t₅ t₆ e₀ (lt-ltb _ _ h)

    module _ (h : m.cic ≤ 4095) where
      pub no_heading : listed m.heading ≡ false → writing own far records m buffer ≡ stopped 9 buffer
      unfolding writing
      no_heading e = at2 xs buffer t₀ t₁ t₂ (too_large m) t₄ t₅ t₆ e₀ (le-ltb _ _ h) (ap not e)

      module _ (l : listed m.heading ≡ true) where
        pub no_field : too_large m ≡ true → writing own far records m buffer ≡ stopped 3 buffer
        unfolding writing
        no_field e = at3 xs buffer t₀ t₁ t₂ (too_large m) t₄ t₅ t₆ e₀ (le-ltb _ _ h) (ap not l) e

        module _ (f : too_large m ≡ false) where
          past_fields : writing own far records m buffer ≡ putting (first_rule (refuse 10 t₄ ∷ refuse 17 t₅ ∷ refuse 11 t₆ ∷ [])) xs buffer
          unfolding writing
          past_fields = past xs buffer t₀ t₁ t₂ (too_large m) t₄ t₅ t₆ e₀ (le-ltb _ _ h) (ap not l) f

          group : (own < 16384) × (far < 16384)
          group = in_range own far records e₀

          -- label and heading, and what lies behind them
          behind_head : (f : Format) → among_own m.heading own_formats ≡ f → octets_of own far m ≡ low_first 5 (label_of own far m.cic) ++ (m.heading ∷ octets_from f (content_said own far m))
          unfolding octets_of
          behind_head f e = ap (λ (f : Format). octets_from (headed f) (content_said own far m)) e ∙ head_put f (content_said own far m) group.1 group.0 (omega arith) (octet m.heading l)

          abbrev last_tests : List ℕ → Bool → Bool → Outcome
          last_tests xs b few = putting (first_rule (refuse 10 b ∷ refuse 17 few ∷ refuse 11 (ltb (length buffer) (length xs)) ∷ [])) xs buffer

          module _ (i : m.heading ≡ 0x11) where
            fits : (m.category ≤ 63) × (m.indicators ≤ 2047) × (above_fifteen m.address ≡ false)
            fits = fitting_iam m f i

            an_iams_octets : bad_address m.address ≡ false → octets_of own far m ≡ iam_octets (label_of own far m.cic) m.category m.indicators m.address
            an_iams_octets ordered =
                let c = fits.0 in
                let d = fits.1 in
                let n = few m.address ordered in
                behind_head _ (an_iam m.heading (eq-eqb m.heading 0x11 i))
                ∙ ap (λ (h : ℕ). low_first 5 (label_of own far m.cic) ++ (h ∷ octets_from iam_format (content_said own far m))) i
                ∙ ap (λ (r : List ℕ). low_first 5 (label_of own far m.cic) ++ (0x11 ∷ r)) (iam_put (content_said own far m) (omega arith) (omega arith) (omega arith) (λ i h. at_most m.address i fits.2 h))

            pub an_iam_lem : writing own far records m buffer ≡ iam_writing (label_of own far m.cic) m.category m.indicators m.address buffer
            unfolding iam_writing
            an_iam_lem =
                past_fields ∙ ap (λ (h : ℕ). last_tests xs (has_signals h && bad_address m.address) (has_signals h && short m.indicators m.address)) i
                ∙ go (bad_address m.address) refl
              where
                written : List ℕ
                written = iam_octets (label_of own far m.cic) m.category m.indicators m.address

                few : Bool
                few = short m.indicators m.address

                go : (b : Bool) → bad_address m.address ≡ b → last_tests (octets_of own far m) (bad_address m.address) few ≡ last_tests written (bad_address m.address) few
                go true e = ap (λ (b : Bool). last_tests (octets_of own far m) b few) e ∙ sym (ap (λ (b : Bool). last_tests written b few) e)
                go false e = ap (λ (l : List ℕ). last_tests l (bad_address m.address) few) (an_iams_octets e)

          module _ (i : m.heading ≡ 0x11 → ⊥) where
            other : is_iam m.heading ≡ false
            other = ne_eqb m.heading 0x11 i

            short_octets_lem : octets_of own far m ≡ short_octets (label_of own far m.cic) m.heading m.acm
            short_octets_lem = go (is_acm m.heading) refl
              where
                go : (b : Bool) → is_acm m.heading ≡ b → octets_of own far m ≡ short_octets (label_of own far m.cic) m.heading m.acm
                go true e =
                    let h : m.heading ≡ 0x14 = eqb-true m.heading 0x14 e in
                    let d = acm_fits m.heading m.acm h (fitting m f).0 in
                    behind_head _ (an_acm m.heading e)
                    ∙ ap (λ (r : List ℕ). low_first 5 (label_of own far m.cic) ++ (m.heading ∷ r)) (acm_put (content_said own far m) (omega arith))
                    ∙ ap (λ (h : ℕ). low_first 5 (label_of own far m.cic) ++ (h ∷ m.acm ∷ [])) h
                    ∙ sym (ap (λ (b : Bool). cond b (acm_octets (label_of own far m.cic) m.acm) (plain_octets (label_of own far m.cic) m.heading)) e)
                go false e =
                    behind_head _ (neither m.heading other e)
                    ∙ ap (λ (r : List ℕ). low_first 5 (label_of own far m.cic) ++ (m.heading ∷ r)) (nothing_put (content_said own far m))
                    ∙ sym (ap (λ (b : Bool). cond b (acm_octets (label_of own far m.cic) m.acm) (plain_octets (label_of own far m.cic) m.heading)) e)

            pub no_iam : writing own far records m buffer ≡ short_writing (label_of own far m.cic) m.heading m.acm buffer
            unfolding short_writing
            no_iam =
                past_fields
                ∙ ap (λ (b : Bool). last_tests xs (b && bad_address m.address) (b && short m.indicators m.address)) (signals_of_iam m.heading ∙ other)
                ∙ ap (λ (l : List ℕ). last_tests l false false) short_octets_lem

-- the rest of an IAM
module _ (label category indicators : ℕ) (address buffer : List ℕ) where
  abbrev written : List ℕ
  written = iam_octets label category indicators address

  length_iam : length written ≡ 9 + half (length address)
  length_iam = let e = length_pairs address in omega arith

  abbrev tried : Bool → Bool → Bool → Outcome
  tried b₀ b₁ b₂ = putting (first_rule (refuse 10 b₀ ∷ refuse 17 b₁ ∷ refuse 11 b₂ ∷ [])) written buffer

  pub iam_spoilt : bad_address address ≡ true → iam_writing label category indicators address buffer ≡ stopped 10 buffer
  unfolding iam_writing
  iam_spoilt e = ap (λ (b : Bool). tried b (short indicators address) (ltb (length buffer) (length written))) e

  module _ (e : bad_address address ≡ false) where
    pub iam_short : short indicators address ≡ true → iam_writing label category indicators address buffer ≡ stopped 17 buffer
    unfolding iam_writing
    iam_short f = ap₂ (λ (b c : Bool). tried b c (ltb (length buffer) (length written))) e f

    module _ (f : short indicators address ≡ false) where
      last : (b : Bool) → ltb (length buffer) (length written) ≡ b → iam_writing label category indicators address buffer ≡ tried false false b
      unfolding iam_writing
      last b g = ap₂ (λ (b c : Bool). tried b c (ltb (length buffer) (length written))) e f ∙ ap (tried false false) g

      pub iam_tight : length buffer < 9 + half (length address) → iam_writing label category indicators address buffer ≡ stopped 11 buffer
      iam_tight h = last true (lt-ltb (length buffer) (length written) (omega (arith, length_iam)))

      pub iam_put_lem : 9 + half (length address) ≤ length buffer → (now after : List ℕ) → now ≡ over (iam_head label category (indicators + 4096 * length address)) buffer
          → after ≡ paste now 9 (pairs address) (half (length address))
          → iam_writing label category indicators address buffer ≡ record { answer = record { refusal = 0; length = 9 + half (length address) }; buffer = after }
      iam_put_lem h now after p q =
          last false (le-ltb (length buffer) (length written) (omega (arith, length_iam)))
          ∙ ap (λ (n : ℕ). done n (over written buffer)) length_iam
          ∙ ap (done (9 + half (length address))) (sym (q ∙ ap (λ (l : List ℕ). paste l 9 (pairs address) (half (length address))) p ∙ ap (paste (over head buffer) 9 (pairs address)) (sym (length_pairs address)) ∙ paste_behind head (pairs address) buffer))
        where
          head : List ℕ
          head = iam_head label category (indicators + 4096 * length address)

          done : ℕ → List ℕ → Outcome
          done n l = record { answer = record { refusal = 0; length = n }; buffer = l }

-- the rest of any other message
module _ (label heading acm : ℕ) (buffer : List ℕ) where
  abbrev tested : List ℕ → Bool → Outcome
  tested xs b = putting (first_rule (refuse 11 b ∷ [])) xs buffer

  length_short : is_iam heading ≡ false → length (short_octets label heading acm) ≡ fixed_length heading
  length_short e = go (is_acm heading) ∙ sym (fixed_lengths heading ∙ ap (λ (b : Bool). cond b 9 (cond (is_acm heading) 7 6)) e)
    where
      go : (b : Bool) → length (cond b (acm_octets label acm) (plain_octets label heading)) ≡ cond b 7 6
      go true = refl
      go false = refl

  pub short_tight : is_iam heading ≡ false → length buffer < fixed_length heading → short_writing label heading acm buffer ≡ stopped 11 buffer
  unfolding short_writing
  short_tight e h = ap (tested (short_octets label heading acm)) (lt-ltb (length buffer) (length (short_octets label heading acm)) (rw (length_short e) h))

  pub short_put : is_iam heading ≡ false → fixed_length heading ≤ length buffer
      → short_writing label heading acm buffer ≡ outcome (record { refusal = 0; length = fixed_length heading }) (over (short_octets label heading acm) buffer)
  unfolding short_writing
  short_put e h =
      ap (tested (short_octets label heading acm)) (le-ltb (length buffer) (length (short_octets label heading acm)) (rw (length_short e) h))
      ∙ ap (λ (n : ℕ). outcome (record { refusal = 0; length = n }) (over (short_octets label heading acm) buffer)) (length_short e)

  -- what is put, by whether it is an ACM
  pub put_if : (acm_is : heading ≡ 0x14) → over (acm_octets label acm) buffer ≡ over (short_octets label heading acm) buffer
  put_if e = rw (eq-eqb heading 0x14 e)

  pub put_else : (heading ≡ 0x14 → ⊥) → over (plain_octets label heading) buffer ≡ over (short_octets label heading acm) buffer
  put_else e = rw (ne_eqb heading 0x14 e)
