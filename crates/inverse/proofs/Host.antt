-- What a host in C gets from `tup_read` and `tup_write`: a refusal leaves the lent buffer as it was; else the message or its fields stand at the
-- buffer's start, the fields come back from their octets, and what lies beyond keeps its contents.
-- Assumes nothing.
use mathlib.Core.Path.{◌≡◌, refl, sym, ap, ◌∙◌}
use mathlib.Core.Bool.{Bool, true, false, cond}
use mathlib.Core.List.{List}
use Prim.Native.Nat.{ℕ, zero, suc, ◌/◌, ◌%◌, ◌^◌, ◌<◌, ◌≤◌}
use native.Mathlib.Nat.{le_trans}
use native.Mathlib.Omega.{arith}
use lib.Dec.{ltb, lit≤}
use lib.ListN.{length, take, drop, length-append, length-drop}
use lib.Seq.{take_at, drop_at, take-append_seam, drop-append_seam}
use Rattle.circuit.specs.Groups.{bad_group}
use Rattle.circuit.specs.Refusals.{first_rule}
use Rattle.words.specs.Octets.{Octets, over}
use Rattle.words.proofs.Octets.{number_back}
use Rattle.reader.specs.Told.{Told as Fields, no_codes}
use Rattle.formats.specs.Format.{INDICATORS, most}
use Rattle.formats.specs.Messages.{format_of, is_iam}
use Rattle.formats.proofs.ByHeading.{indicators_most}
use Rattle.reader.specs.Places.{heading_in, field_by, signals_by}
use Rattle.reader.specs.Reading.{fields_of}
use Rattle.writer.specs.Writing.{Said, octets_of, write_rules, putting, Outcome, writing}
use Rattle.writer.proofs.Tests.{fitting}
use Rattle.tup.specs.Entries.{fields_octets, Told, telling, read_into, write_from}
use Rattle.tup.proofs.Entries.{fills}
use Rattle.inverse.specs.Said.{fields_said}
use Rattle.inverse.specs.Host.{Holds, Begins}
use Rattle.inverse.proofs.Refusals.{packs, write_refusal, from_refusal}
use Rattle.inverse.proofs.ReadBack.{taking, at_most_fifteen as said_at_most}
use Rattle.inverse.proofs.WriteBack.{accepted, circuit_fits, indicators_fit, at_most_fifteen}
use Rattle.inverse.proofs.Laws.{written, reading_back}

-- A refusal leaves the buffer as it was.
pub into_kept : (own far count : ℕ) (xs buffer : List ℕ) → ((read_into own far count xs buffer).answer ≡ 0 → ⊥) → (read_into own far count xs buffer).buffer ≡ buffer
unfolding read_into
into_kept own far count xs buffer = go (fields_of own far count xs).refusal
  where
    by_room : (b : Bool) → ((cond {A = Told} b (record { answer = 11; buffer = buffer }) (record { answer = 0; buffer = over (fields_octets (fields_of own far count xs)) buffer })).answer ≡ 0 → ⊥)
        → (cond {A = Told} b (record { answer = 11; buffer = buffer }) (record { answer = 0; buffer = over (fields_octets (fields_of own far count xs)) buffer })).buffer ≡ buffer
    by_room true h = refl
    by_room false h = absurd (h refl)

    go : (n : ℕ) → ((telling n (fields_of own far count xs) buffer).answer ≡ 0 → ⊥) → (telling n (fields_of own far count xs) buffer).buffer ≡ buffer
    go zero h = by_room (ltb (length buffer) 23) h
    go (suc n) h = refl

pub from_kept : (own far count : ℕ) (m : Said) (buffer : List ℕ) → ((write_from own far count m buffer).answer % 256 ≡ 0 → ⊥)
    → ((write_from own far count m buffer).answer / 256 ≡ 0) × ((write_from own far count m buffer).buffer ≡ buffer)
unfolding writing
from_kept own far count m buffer h =
    let k = go (first_rule (write_rules own far count m (length buffer))) (λ e. h (from_refusal own far count m buffer ∙ e)) in
    ((packs own far count m buffer).length ∙ k.0, k.1)
  where
    go : (n : ℕ) → (n ≡ 0 → ⊥) → ((putting n (octets_of own far m) buffer).answer.length ≡ 0) × ((putting n (octets_of own far m) buffer).buffer ≡ buffer)
    go zero h = absurd (h refl)
    go (suc n) h = (refl, refl)

-- octets at the start of a buffer
begins : (octets buffer : List ℕ) → Begins octets buffer (over octets buffer)
begins octets buffer = record { start = take-append_seam octets (drop (length octets) buffer); beyond = drop-append_seam octets (drop (length octets) buffer) }

-- A message that is written stands at the start of the buffer, as many octets as the number says, and those beyond keep their contents.
pub from_filled : (own far count : ℕ) (m : Said) (buffer : List ℕ) → (write_from own far count m buffer).answer % 256 ≡ 0
    → ((write_from own far count m buffer).answer / 256 ≡ length (octets_of own far m)) × Begins (octets_of own far m) buffer (write_from own far count m buffer).buffer
from_filled own far count m buffer e =
    let ok = sym (packs own far count m buffer).refusal ∙ e in
    let w = written own far count m buffer ok in
    ((packs own far count m buffer).length ∙ ap (λ (o : Outcome). o.answer.length) w, rw (ap (λ (o : Outcome). o.buffer) w) (begins (octets_of own far m) buffer))

-- fields that fit their octets come back from them
held : (f : Fields) (buffer : List ℕ) → f.circuit.0 < 256 ^ 2 → f.indicators < 256 ^ 2 → length f.address ≡ 15
    → Holds (over (fields_octets f) buffer) f × (drop 23 (over (fields_octets f) buffer) ≡ drop 23 buffer)
held f buffer c i n = (
  record {
    circuit = number_back 2 f.circuit.0 c;
    heading = refl;
    acm = refl;
    category = refl;
    indicators = number_back 2 f.indicators i;
    count = refl;
    address = take_at f.address (drop (length (fields_octets f)) buffer) 15 n;
  },
  drop_at (fields_octets f) (drop (length (fields_octets f)) buffer) 23 whole ∙ ap (λ (k : ℕ). drop k buffer) whole,
)
  where
    whole : length (fields_octets f) ≡ 23
    whole = omega arith

-- fields that do
abbrev Fits : Fields → Type 0
Fits f = (f.circuit.0 < 256 ^ 2) × (f.indicators < 256 ^ 2) × (length f.address ≡ 15)

indicators_at_most : (h : ℕ) → most (format_of h).fields INDICATORS ≤ 2047
indicators_at_most h = rw (indicators_most h) (go (is_iam h))
  where
    go : (b : Bool) → cond b 2047 0 ≤ 2047
    go true = lit≤ tt
    go false = lit≤ tt

fifteen : (address : List ℕ) → length address ≤ 15 → length (over address no_codes) ≡ 15
fifteen address h = length-append address (drop (length address) no_codes) ∙ omega (arith, length-drop (length address) no_codes)

-- those of octets that are accepted
read_fits : (own far records : ℕ) (xs : List ℕ) → (fields_of own far records xs).refusal ≡ 0 → Fits (fields_of own far records xs)
read_fits own far records xs ok =
    let k = circuit_fits own far records xs ok in
    let i : field_by (format_of (heading_in xs)) INDICATORS xs ≤ 2047 = le_trans (indicators_fit own far records xs ok) (indicators_at_most (heading_in xs)) in
    rw (accepted own far records xs ok) (omega arith, omega arith, fifteen (signals_by (format_of (heading_in xs)) xs) (at_most_fifteen own far records xs ok))

-- those of a message that the writer takes
said_fits : (own far records : ℕ) (m : Said) (room : ℕ) → first_rule (write_rules own far records m room) ≡ 0 → Fits (fields_said m)
said_fits own far records m room ok =
    let t = taking own far records m room ok in
    let k = t.1 in
    let i : m.indicators ≤ 2047 = le_trans (fitting m t.2).2 (indicators_at_most m.heading) in
    (omega arith, omega arith, fifteen m.address (said_at_most own far records m room ok))

-- The fields of a message that is read come back from the buffer's first 23 octets, and the octets beyond keep their contents.
pub into_filled : (own far count : ℕ) (xs : List ℕ) → Octets xs → (buffer : List ℕ) → (read_into own far count xs buffer).answer ≡ 0
    → Holds (read_into own far count xs buffer).buffer (fields_of own far count xs) × (drop 23 (read_into own far count xs buffer).buffer ≡ drop 23 buffer)
unfolding read_into
into_filled own far count xs octets buffer e =
    let f = fields_of own far count xs in
    let t = taken f.refusal f buffer e in
    let k = read_fits own far count xs t.0 in
    rw t.1 (held f buffer k.0 k.1 k.2)
  where
    taken : (n : ℕ) (f : Fields) (buffer : List ℕ) → (telling n f buffer).answer ≡ 0 → (n ≡ 0) × ((telling n f buffer).buffer ≡ over (fields_octets f) buffer)
    taken zero f buffer e = (refl, by_room (ltb (length buffer) 23) e)
      where
        by_room : (b : Bool) → (cond {A = Told} b (record { answer = 11; buffer = buffer }) (record { answer = 0; buffer = over (fields_octets f) buffer })).answer ≡ 0
            → (cond {A = Told} b (record { answer = 11; buffer = buffer }) (record { answer = 0; buffer = over (fields_octets f) buffer })).buffer ≡ over (fields_octets f) buffer
        by_room true e = absurd (omega arith)
        by_room false e = refl
    taken (suc n) f buffer e = absurd (omega arith)

-- A message that one host wrote, the other host, in its own group that has the circuit and with room for 23 octets, reads as it was said.
pub carried : (own far count : ℕ) (m : Said) (buffer : List ℕ) → (write_from own far count m buffer).answer % 256 ≡ 0
    → (theirs : ℕ) → bad_group far own theirs ≡ false → m.cic < theirs → (out : List ℕ) → 23 ≤ length out
    → ((read_into far own theirs (take ((write_from own far count m buffer).answer / 256) (write_from own far count m buffer).buffer) out).answer ≡ 0)
    × Holds (read_into far own theirs (take ((write_from own far count m buffer).answer / 256) (write_from own far count m buffer).buffer) out).buffer (fields_said m)
carried own far count m buffer e theirs group has out room =
    let ok = sym (packs own far count m buffer).refusal ∙ e in
    let xs = take ((write_from own far count m buffer).answer / 256) (write_from own far count m buffer).buffer in
    let long = ap (λ (n : ℕ). fields_of far own theirs (take n (write_from own far count m buffer).buffer)) (packs own far count m buffer).length in
    let said = long ∙ reading_back own far count m buffer ok theirs group has in
    let k = said_fits own far count m (length buffer) (sym (write_refusal own far count m buffer) ∙ ok) in
    rw (fills far own theirs xs out (fields_said m) (sym said) refl room) (refl, (held (fields_said m) out k.0 k.1 k.2).0)
