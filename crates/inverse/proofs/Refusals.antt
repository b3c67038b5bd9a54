-- The answers of reader and writer are the first of their rules that holds, also through the entries for C.
-- Assumes nothing.
use mathlib.Core.Path.{◌≡◌, refl, sym, ap, ap₂, ◌∙◌}
use mathlib.Core.Bool.{Bool, true, false, cond}
use mathlib.Core.List.{List, [], ◌∷◌}
use mathlib.Core.Logic.{◌↔◌}
use Prim.Native.Nat.{ℕ, zero, suc, ◌/◌, ◌%◌, ◌≤◌, min}
use native.Mathlib.Omega.{arith}
use lib.Dec.{T, leb, ltb, leb→le, lit≤}
use lib.ListN.{length}
use Rattle.circuit.specs.Refusals.{refuse, Rule, first_rule, Clear}
use Rattle.circuit.proofs.Refusals.{clear, none_given, every_number, answer_fits, before_them, after_them}
use Rattle.reader.specs.Told.{Told as Fields}
use Rattle.reader.specs.Faults.{Fault, fault, place_of}
use Rattle.reader.specs.Reading.{read_faults, read_rules, fields_of}
use Rattle.reader.proofs.Faults.{read_refusal, read_place, no_place, place_before, place_after}
use Rattle.writer.specs.Writing.{Said, octets_of, write_rules, putting, writing}
use Rattle.tup.specs.Entries.{fields_octets, most_place, packed_refusal, Told, telling, read_into, write_from}
use Rattle.words.specs.Octets.{over}
use Rattle.inverse.specs.Host.{into_faults, into_rules, Packs}

-- an answer is an octet, where every number is
an_octet : (rules : List Rule) → T (every_number (λ n. leb n 255) rules) → first_rule rules ≤ 255
an_octet rules t = go (first_rule rules) refl
  where
    go : (n : ℕ) → first_rule rules ≡ n → n ≤ 255
    go zero e = lit≤ tt
    go (suc n) e = leb→le (suc n) 255 (answer_fits (λ n. leb n 255) rules t n e)

-- The answer of the reader that fills a lent buffer is the first fault that is found, with its place; its own refusal, 11, is last of all.
module _ (own far count : ℕ) (xs buffer : List ℕ) where
  abbrev rules : List Rule
  rules = read_rules own far count xs

  abbrev faults : List Fault
  faults = read_faults own far count xs

  abbrev short : Bool
  short = ltb (length buffer) 23

  abbrev f : Fields
  f = fields_of own far count xs

  pub into_answer : (read_into own far count xs buffer).answer ≡ packed_refusal (first_rule (into_rules own far count xs (length buffer))) (place_of (into_faults own far count xs (length buffer)))
  unfolding read_into
  into_answer = ap (λ (n : ℕ). (telling n f buffer).answer) (read_refusal own far count xs) ∙ go (first_rule rules) refl
    where
      by_room : (b : Bool) → (cond {A = Told} b (record { answer = 11; buffer = buffer }) (record { answer = 0; buffer = over (fields_octets f) buffer })).answer ≡ packed_refusal (cond b 11 0) (cond b 0 0)
      by_room true = refl
      by_room false = refl

      go : (n : ℕ) → first_rule rules ≡ n
          → (telling n f buffer).answer ≡ packed_refusal (first_rule (into_rules own far count xs (length buffer))) (place_of (into_faults own far count xs (length buffer)))
      go zero e =
          let c = clear rules tt e in
          by_room short ∙ ap₂ packed_refusal (sym (after_them rules (refuse 11 short ∷ []) c)) (sym (place_after faults (fault 11 short 0 ∷ []) c))
      go (suc n) e =
          ap₂ packed_refusal (sym (before_them rules (refuse 11 short ∷ []) n e)) (read_place own far count xs ∙ sym (place_before faults (fault 11 short 0 ∷ []) n e))

  numbers : first_rule (into_rules own far count xs (length buffer)) ≤ 255
  numbers = an_octet (into_rules own far count xs (length buffer)) tt

  -- the number gives refusal and place back
  pub into_refusal : (read_into own far count xs buffer).answer % 256 ≡ first_rule (into_rules own far count xs (length buffer))
  into_refusal = let a = into_answer in let h = numbers in omega arith

  pub into_place : (read_into own far count xs buffer).answer / 256 ≡ min (place_of (into_faults own far count xs (length buffer))) most_place
  into_place = let a = into_answer in let h = numbers in omega arith

  -- nothing is refused exactly where nothing is found
  pub into_taken : ((read_into own far count xs buffer).answer ≡ 0) ↔ Clear (into_rules own far count xs (length buffer))
  into_taken = (λ e. let r = into_refusal in clear (into_rules own far count xs (length buffer)) tt (omega arith), λ c. into_answer ∙ ap₂ packed_refusal (none_given (into_rules own far count xs (length buffer)) c) (no_place (into_faults own far count xs (length buffer)) c))

-- the writer's refusal is the first of its rules that holds
pub refusal_of : (n : ℕ) (xs buffer : List ℕ) → (putting n xs buffer).answer.refusal ≡ n
refusal_of zero xs buffer = refl
refusal_of (suc n) xs buffer = refl

pub write_refusal : (own far records : ℕ) (m : Said) (buffer : List ℕ) → (writing own far records m buffer).answer.refusal ≡ first_rule (write_rules own far records m (length buffer))
unfolding writing
write_refusal own far records m buffer = refusal_of (first_rule (write_rules own far records m (length buffer))) (octets_of own far m) buffer

pub write_number : (own far records : ℕ) (m : Said) (buffer : List ℕ) → (writing own far records m buffer).answer.refusal ≤ 255
write_number own far records m buffer = rw (write_refusal own far records m buffer) (an_octet (write_rules own far records m (length buffer)) tt)

-- The number that the writer for a host in C answers gives refusal and length back.
pub packs : (own far count : ℕ) (m : Said) (buffer : List ℕ) → Packs (write_from own far count m buffer).answer (writing own far count m buffer).answer
packs own far count m buffer = let h = write_number own far count m buffer in record { refusal = omega arith; length = omega arith }

pub from_refusal : (own far count : ℕ) (m : Said) (buffer : List ℕ) → (write_from own far count m buffer).answer % 256 ≡ first_rule (write_rules own far count m (length buffer))
from_refusal own far count m buffer = (packs own far count m buffer).refusal ∙ write_refusal own far count m buffer
