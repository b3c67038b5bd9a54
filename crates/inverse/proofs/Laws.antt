-- The laws of messages on the link, over the definitions that the contracts of `reader`, `writer` and `tup` cite.
-- Assumes nothing.
use mathlib.Core.Path.{◌≡◌, sym, ap, ◌∙◌}
use mathlib.Core.Bool.{false}
use mathlib.Core.List.{List}
use Prim.Native.Nat.{ℕ, ◌<◌, ◌≤◌}
use lib.ListN.{length, take, drop}
use lib.Seq.{take-append_seam}
use Rattle.circuit.specs.Groups.{bad_group}
use Rattle.circuit.specs.Refusals.{first_rule}
use Rattle.words.specs.Octets.{Octets, over}
use Rattle.formats.specs.Messages.{format_of}
use Rattle.formats.proofs.Format as format
use Rattle.formats.proofs.ByHeading.{octets_by_heading}
use Rattle.reader.specs.Reading.{fields_of}
use Rattle.writer.specs.Writing.{Said, content_said, octets_of, write_rules, putting, Outcome, writing}
use Rattle.inverse.specs.Octets.{cleared}
use Rattle.inverse.specs.Said.{fields_said, said_of, length_of}
use Rattle.inverse.proofs.Refusals.{write_refusal}
use Rattle.inverse.proofs.ReadBack.{octets_read}
use Rattle.inverse.proofs.Different.{same_message}
use Rattle.inverse.proofs.WriteBack.{written_again}

module _ (own far records : ℕ) (m : Said) (buffer : List ℕ) (ok : (writing own far records m buffer).answer.refusal ≡ 0) where
  pub untested : first_rule (write_rules own far records m (length buffer)) ≡ 0
  untested = sym (write_refusal own far records m buffer) ∙ ok

  pub written : writing own far records m buffer ≡ putting 0 (octets_of own far m) buffer
  unfolding writing
  written = ap (λ (n : ℕ). putting n (octets_of own far m) buffer) untested

  sent : take (writing own far records m buffer).answer.length (writing own far records m buffer).buffer ≡ octets_of own far m
  sent = ap (λ (o : Outcome). take o.answer.length o.buffer) written ∙ take-append_seam (octets_of own far m) (drop (length (octets_of own far m)) buffer)

  -- Reading what was written, at the end addressed and in a group that has the circuit, gives the message back.
  pub reading_back : (theirs : ℕ) → bad_group far own theirs ≡ false → m.cic < theirs
      → fields_of far own theirs (take (writing own far records m buffer).answer.length (writing own far records m buffer).buffer) ≡ fields_said m
  reading_back theirs group has = ap (fields_of far own theirs) sent ∙ octets_read own far records m (length buffer) untested theirs group has

-- Writing what was read, in the sender's group, gives the octets with spare bits and filler cleared, wherever there is room for them.
pub writing_back : (own far records : ℕ) (xs : List ℕ) → Octets xs → (fields_of own far records xs).refusal ≡ 0
    → (buffer : List ℕ) → length xs ≤ length buffer
    → writing far own records (said_of (fields_of own far records xs)) buffer ≡ record { answer = record { refusal = 0; length = length (cleared xs) }; buffer = over (cleared xs) buffer }
writing_back own far records xs octets = written_again own far records xs

-- Two different messages are never written as the same octets.
pub different : (own far records records' : ℕ) (m m' : Said) (buffer buffer' : List ℕ)
    → (writing own far records m buffer).answer.refusal ≡ 0 → (writing own far records' m' buffer').answer.refusal ≡ 0
    → (m ≡ m' → ⊥) → octets_of own far m ≡ octets_of own far m' → ⊥
different own far records records' m m' buffer buffer' ok ok' d e =
    d (same_message own far records records' m m' (length buffer) (length buffer') (untested own far records m buffer ok) (untested own far records' m' buffer' ok') e)

pub octets_long : (own far : ℕ) (m : Said) → length (octets_of own far m) ≡ length_of m
unfolding octets_of
octets_long own far m = format.length_fits (format_of m.heading) (content_said own far m) ∙ octets_by_heading m.heading (length m.address)

-- Every length that the writer can answer fits the heading: 6, an ACM 7, an IAM 9 and half the count rounded up.
pub length_fits : (own far records : ℕ) (m : Said) (buffer : List ℕ) → (writing own far records m buffer).answer.refusal ≡ 0
    → (writing own far records m buffer).answer.length ≡ length_of m
length_fits own far records m buffer ok = ap (λ (o : Outcome). o.answer.length) (written own far records m buffer ok) ∙ octets_long own far m
