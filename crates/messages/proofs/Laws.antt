-- A file of messages can be fed in parts: what stands ahead in it, by cases, the laws of that, and what follows from them.
-- Assumes nothing.
use mathlib.Core.Path.{◌≡◌, sym, ◌∙◌}
use mathlib.Core.Bool.{true, false}
use mathlib.Core.List.{List, ◌++◌}
use Prim.Native.Nat.{ℕ, ◌+◌, ◌≤◌, ◌<◌}
use native.Mathlib.Omega.{arith}
use lib.Dec.{eqb, ltb}
use lib.ListN.{length, drop, length-append, length-drop}
use lib.Seq.{take-append-le, drop-append-le}
use borrow.Author.Tests.{eq-eqb, ne_eqb, eqb-true, eqb-false, ltb-true, ltb-false, lt-ltb, le-ltb}
use Rattle.text.proofs.Numbers.{by_test}
use Rattle.records.specs.Records.{octet}
use Rattle.records.proofs.Items.{never, same_octet}
use Rattle.parts.specs.declared.Running.{Running}
use Rattle.parts.specs.Whole.{Ahead.Takes, Ahead.Partial, Ahead.AtEnd, Lawful, Stateless, no_state, settled}
use Rattle.messages.specs.Listing.{message_line, message_in, fields_at, ahead_in, per_message}

module _ (r : Running) (s : List ℕ) where
  pub at_end : length s ≡ 0 → ahead_in r s ≡ AtEnd
  unfolding ahead_in
  at_end h = rw (eq-eqb (length s) 0 h)

  pub is_partial : 0 < length s → length s < 1 + octet s 0 → ahead_in r s ≡ Partial
  unfolding ahead_in
  is_partial h l = rw (ne_eqb (length s) 0 (λ z. omega arith), lt-ltb (length s) (1 + octet s 0) l)

  pub is_whole : 1 + octet s 0 ≤ length s → ahead_in r s ≡ Takes (1 + octet s 0) (message_line r.next (fields_at r s)) no_state
  unfolding ahead_in
  is_whole l = rw (ne_eqb (length s) 0 (λ z. omega arith), le-ltb (length s) (1 + octet s 0) l)

  -- what stands ahead, as cases for a proof
  pub by_message : {P : Type 0}
      → (length s ≡ 0 → ahead_in r s ≡ AtEnd → P)
      → (0 < length s → ahead_in r s ≡ Partial → P)
      → (1 + octet s 0 ≤ length s → ahead_in r s ≡ Takes (1 + octet s 0) (message_line r.next (fields_at r s)) no_state → P)
      → P
  by_message ended short there =
      by_test (eqb (length s) 0)
      (λ z. ended (eqb-true _ _ z) (at_end (eqb-true _ _ z)))
      (λ z. let p : 0 < length s = omega (arith, eqb-false (length s) 0 z) in
      by_test (ltb (length s) (1 + octet s 0))
      (λ l. short p (is_partial p (ltb-true _ _ l)))
      (λ l. there (ltb-false _ _ l) (is_whole (ltb-false _ _ l))))

module _ (r : Running) (s : List ℕ) where
  fits_there : (n : ℕ) (x : List ℕ) (t : Stateless) → ahead_in r s ≡ Takes n x t → (0 < n) × (n ≤ length s)
  fits_there n x t h =
      by_message r s
      (λ z q. never (let y : AtEnd ≡ Takes n x t = sym q ∙ h in cc))
      (λ z q. never (let y : Partial ≡ Takes n x t = sym q ∙ h in cc))
      (λ l q. let y : Takes (1 + octet s 0) (message_line r.next (fields_at r s)) no_state ≡ Takes n x t = sym q ∙ h in let e : 1 + octet s 0 ≡ n = cc in (omega arith, omega arith))

  -- octets behind a message change nothing of it
  module _ (rest : List ℕ) (l : 1 + octet s 0 ≤ length s) where
    same_length : octet (s ++ rest) 0 ≡ octet s 0
    same_length = same_octet s rest 0 (omega arith)

    same_message : message_in (s ++ rest) ≡ message_in s
    same_message = rw (same_length, drop-append-le 1 s rest (omega arith)) (take-append-le (octet s 0) (drop 1 s) rest (rw length-drop (omega arith)))

    whole_stays : ahead_in r (s ++ rest) ≡ ahead_in r s
    whole_stays =
        is_whole r (s ++ rest) (rw (same_length, length-append) (omega arith))
        ∙ rw (same_message, same_length) (sym (is_whole r s l))

  stays_there : (rest : List ℕ) → settled (ahead_in r s) ≡ true → ahead_in r (s ++ rest) ≡ ahead_in r s
  stays_there rest h =
      by_message r s (λ z q. never (let y : false ≡ true = rw q at h in cc)) (λ z q. never (let y : false ≡ true = rw q at h in cc)) (λ l q. whole_stays rest l)

  ended_there : ahead_in r s ≡ AtEnd → length s ≡ 0
  ended_there h =
      by_message r s (λ z q. z) (λ z q. never (let y : Partial ≡ AtEnd = sym q ∙ h in cc))
      (λ l q. never (let y : Takes (1 + octet s 0) (message_line r.next (fields_at r s)) no_state ≡ AtEnd = sym q ∙ h in cc))

pub lawful : Lawful per_message
lawful = record {
  fits = λ r t s n x t' h. fits_there r s n x t' h;
  stays = λ r t s rest h. stays_there r s rest h;
  ends = λ r t s h. at_end r s h;
  ended = λ r t s h. ended_there r s h;
}
