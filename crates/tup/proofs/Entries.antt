-- The cases of the reader that fills a lent buffer.
-- Assumes nothing.
use mathlib.Core.Path.{◌≡◌, refl, sym, ap, ◌∙◌}
use mathlib.Core.Bool.{Bool, cond}
use mathlib.Core.List.{List}
use Prim.Native.Nat.{ℕ, zero, suc, ◌<◌, ◌≤◌}
use borrow.Author.Tests.{lt-ltb, le-ltb}
use lib.ListN.{length}
use Rattle.reader.specs.Told.{Told as Fields}
use Rattle.words.specs.Octets.{over}
use Rattle.reader.specs.Reading.{fields_of}
use Rattle.tup.specs.Entries.{fields_octets, packed_refusal, Told, telling, read_into}

-- an answer and a buffer that are told
pub tells : {o p : Told} {r : ℕ} {l : List ℕ} → o ≡ p → r ≡ p.answer → l ≡ p.buffer → (r ≡ o.answer) × (l ≡ o.buffer)
tells e a b = (a ∙ ap (λ (o : Told). o.answer) (sym e), b ∙ ap (λ (o : Told). o.buffer) (sym e))

module _ (own far count : ℕ) (xs buffer : List ℕ) (f : Fields) (is : f ≡ fields_of own far count xs) where
  told : read_into own far count xs buffer ≡ telling f.refusal f buffer
  unfolding read_into
  told = ap (λ (f : Fields). telling f.refusal f buffer) (sym is)

  pub refuses : (f.refusal ≡ 0 → ⊥) → read_into own far count xs buffer ≡ record { answer = packed_refusal f.refusal f.place; buffer = buffer }
  refuses n = told ∙ go f.refusal n
    where
      go : (k : ℕ) → (k ≡ 0 → ⊥) → telling k f buffer ≡ record { answer = packed_refusal k f.place; buffer = buffer }
      go zero n = absurd (n refl)
      go (suc k) n = refl

  module _ (e : f.refusal ≡ 0) where
    abbrev accepted : Bool → Told
    accepted b = cond b (record { answer = 11; buffer = buffer }) (record { answer = 0; buffer = over (fields_octets f) buffer })

    pub no_room : length buffer < 23 → read_into own far count xs buffer ≡ record { answer = 11; buffer = buffer }
    no_room h = told ∙ ap (λ (k : ℕ). telling k f buffer) e ∙ ap accepted (lt-ltb _ _ h)

    pub fills : 23 ≤ length buffer → read_into own far count xs buffer ≡ record { answer = 0; buffer = over (fields_octets f) buffer }
    fills h = told ∙ ap (λ (k : ℕ). telling k f buffer) e ∙ ap accepted (le-ltb _ _ h)
