-- What stands at the start of some octets and at a place of a slice: each case from its tests, what an event's record tells, and that
-- octets behind it change nothing.
-- Assumes nothing.
use mathlib.Core.Path.{◌≡◌, refl, ap, ◌∙◌, sym}
use mathlib.Core.Bool.{Bool, true, false, ◌||◌}
use mathlib.Core.List.{List, ◌++◌}
use mathlib.Core.Logic.{◌⊎◌, inl, inr}
use Prim.Native.Nat.{ℕ, zero, suc, ◌+◌, ◌-◌, ◌≤◌, ◌<◌}
use native.Mathlib.Nat.{add-zero}
use native.Mathlib.Omega.{arith}
use lib.Dec.{eqb, ltb}
use lib.ListN.{get_or, length, drop, length-drop, length-append, get_or-append}
use lib.Seq.{get_or-drop}
use borrow.Author.Tests.{eq-eqb, ne_eqb, eqb-true, eqb-false, ltb-true, ltb-false, lt-ltb, le-ltb}
use Rattle.std.proofs.lemmas.Grind.{get_or_default_zero}
use Rattle.text.proofs.Numbers.{by_test}
use Rattle.records.specs.declared.Recorded.{Recorded}
use Rattle.records.specs.declared.Item.{Item}
use Rattle.records.specs.declared.Item.TheVariants.{Event, NoEvent, Short, End}
use Rattle.records.specs.Records.{octet, no_event, octets_of, detail_of, recorded, item, taken_of, behind}

-- the cases of `item`, by its own tests
module _ (s : List ℕ) where
  pub ends : length s ≡ 0 → item s ≡ End
  unfolding item
  ends h = simp (eq-eqb (length s) 0 h)

  pub no_event_there : 0 < length s → no_event (octet s 0) ≡ true → item s ≡ NoEvent
  unfolding item
  no_event_there h e = simp (ne_eqb (length s) 0 (λ z. omega arith), e)

  pub is_short : 0 < length s → no_event (octet s 0) ≡ false → length s < octets_of (octet s 0) → item s ≡ Short
  unfolding item
  is_short h e l = simp (ne_eqb (length s) 0 (λ z. omega arith), e, lt-ltb (length s) (octets_of (octet s 0)) l)

  pub is_event : 0 < length s → no_event (octet s 0) ≡ false → octets_of (octet s 0) ≤ length s → item s ≡ Event (recorded s)
  unfolding item
  is_event h e l = simp (ne_eqb (length s) 0 (λ z. omega arith), e, le-ltb (length s) (octets_of (octet s 0)) l)

four_octets : (k : ℕ) → k ≤ 3 → 4 ≤ octets_of k
unfolding octets_of
four_octets zero h = omega arith
four_octets (suc zero) h = omega arith
four_octets (suc (suc zero)) h = omega arith
four_octets (suc (suc (suc zero))) h = omega arith
four_octets (suc (suc (suc (suc k)))) h = absurd (omega arith)

five_octets : (k : ℕ) → k ≤ 3 → (k ≡ 3 → ⊥) → 5 ≤ octets_of k
unfolding octets_of
five_octets zero h n = omega arith
five_octets (suc zero) h n = omega arith
five_octets (suc (suc zero)) h n = omega arith
five_octets (suc (suc (suc zero))) h n = absurd (n refl)
five_octets (suc (suc (suc (suc k)))) h n = absurd (omega arith)

or_false : (a b : Bool) → (a || b) ≡ false → b ≡ false
or_false true b e = absurd (let z : ◌≡◌ {A = ℕ} 0 1 = cc in omega arith)
or_false false b e = e

-- the octet that is got at a place of a slice
pub got : (s : List ℕ) (at : ℕ) {k : ℕ} → true ≡ ltb at (length s) → k ≡ get_or s at k → (at < length s) × (k ≡ octet s at)
got s at {k} t e = let h = ltb-true at (length s) (sym t) in (h, e ∙ get_or_default_zero s at k h)

-- a kind from its tests
pub no_event_kind : (k : ℕ) → (k ≡ 0) ⊎ ((k ≡ 0 → ⊥) × (3 < k)) → no_event k ≡ true
no_event_kind k = elim [ inl z ↦ rw (eq-eqb k 0 z) | inr f ↦ rw (ne_eqb k 0 f.0, lt-ltb 3 k f.1) ]

pub event_kind : (k : ℕ) → (k ≡ 0 → ⊥) → k ≤ 3 → no_event k ≡ false
event_kind k n h = rw (ne_eqb k 0 n, le-ltb 3 k h)

-- an event's record has an octet, and stands whole there
pub record Whole (s : List ℕ) (e : Recorded) : Type 0 where
  pub says : e ≡ recorded s
  pub event : no_event (octet s 0) ≡ false
  pub some : 0 < octets_of e.kind
  pub fits : octets_of e.kind ≤ length s

-- an item is not an event and something else
pub never : {P : Type 0} → ◌≡◌ {A = ℕ} 0 1 → P
never z = absurd (omega arith)

kind_below : (k : ℕ) → no_event k ≡ false → k ≤ 3
kind_below k e = ltb-false 3 k (or_false (eqb k 0) (ltb 3 k) e)

whole_here : (s : List ℕ) (e : Recorded) → item s ≡ Event e → 0 < length s → no_event (octet s 0) ≡ false → octets_of (octet s 0) ≤ length s → Whole s e
unfolding recorded
whole_here s e q p n f =
    let y : Event e ≡ Event (recorded s) = sym q ∙ is_event s p n f in
    let x : e ≡ recorded s = cc in
    rw x (record { says = refl; event = n; some = omega (arith, four_octets (octet s 0) (kind_below (octet s 0) n)); fits = f })

pub whole : (s : List ℕ) (e : Recorded) → item s ≡ Event e → Whole s e
whole s e q =
    by_test (eqb (length s) 0)
    (λ z. let y : Event e ≡ End = sym q ∙ ends s (eqb-true _ _ z) in never cc)
    (λ z. let p : 0 < length s = omega (arith, eqb-false (length s) 0 z) in
    by_test (no_event (octet s 0))
    (λ n. let y : Event e ≡ NoEvent = sym q ∙ no_event_there s p n in never cc)
    (λ n. by_test (ltb (length s) (octets_of (octet s 0)))
    (λ l. let y : Event e ≡ Short = sym q ∙ is_short s p n (ltb-true _ _ l) in never cc)
    (λ l. whole_here s e q p n (ltb-false _ _ l))))

-- an item by its tests, as cases for a proof: at the end, no event, a short record, or a whole one
pub by_item : {P : Type 0} (s : List ℕ)
    → (length s ≡ 0 → item s ≡ End → P)
    → (0 < length s → no_event (octet s 0) ≡ true → item s ≡ NoEvent → P)
    → (0 < length s → item s ≡ Short → P)
    → (item s ≡ Event (recorded s) → P)
    → P
by_item s at_end none short event =
    by_test (eqb (length s) 0)
    (λ z. at_end (eqb-true _ _ z) (ends s (eqb-true _ _ z)))
    (λ z. let p : 0 < length s = omega (arith, eqb-false (length s) 0 z) in
    by_test (no_event (octet s 0))
    (λ n. none p n (no_event_there s p n))
    (λ n. by_test (ltb (length s) (octets_of (octet s 0)))
    (λ l. short p (is_short s p n (ltb-true _ _ l)))
    (λ l. event (is_event s p n (ltb-false _ _ l)))))

-- octets behind a record change nothing of what it says
module _ (s rest : List ℕ) where
  pub same_octet : (i : ℕ) → i < length s → octet (s ++ rest) i ≡ octet s i
  same_octet i h = get_or-append s rest 0 i h

  longer : length s ≤ length (s ++ rest)
  longer = rw length-append (omega arith)

  same_detail : (k : ℕ) → k ≤ 3 → octets_of k ≤ length s → detail_of k (octet (s ++ rest) 4) ≡ detail_of k (octet s 4)
  same_detail k h f = by_test (eqb k 3) (λ e. rw e) (λ e. rw (same_octet 4 (omega (arith, five_octets k h (eqb-false k 3 e)))))

  same_record : 4 ≤ length s → octet s 0 ≤ 3 → octets_of (octet s 0) ≤ length s → recorded (s ++ rest) ≡ recorded s
  unfolding recorded
  same_record h k f =
      rw (same_octet 0 (omega arith), same_octet 1 (omega arith), same_octet 2 (omega arith), same_octet 3 (omega arith), same_detail (octet s 0) k f)

  pub event_stays : (e : Recorded) → item s ≡ Event e → item (s ++ rest) ≡ Event e
  unfolding recorded
  event_stays e q =
      let w = whole s e q in
      let k : octet s 0 ≤ 3 = kind_below (octet s 0) w.event in
      let f : octets_of (octet s 0) ≤ length s = rw w.says at w.fits in
      let h : 4 ≤ length s = omega (arith, four_octets (octet s 0) k) in
      is_event (s ++ rest) (omega (arith, longer)) (rw (same_octet 0 (omega arith)) w.event) (rw (same_octet 0 (omega arith)) (omega (arith, longer)))
      ∙ ap Event (same_record h k f ∙ sym w.says)

  pub none_stays : 0 < length s → no_event (octet s 0) ≡ true → item (s ++ rest) ≡ NoEvent
  none_stays h n = no_event_there (s ++ rest) (omega (arith, longer)) (rw (same_octet 0 h) n)

none_taken : (i : Item) → ((e : Recorded) → i ≡ Event e → ⊥) → taken_of i ≡ 0
unfolding taken_of
none_taken (Event e) n = absurd (n e refl)
none_taken NoEvent n = refl
none_taken Short n = refl
none_taken End n = refl

-- the same at a place of a slice
pub octet_drop : (s : List ℕ) (at i : ℕ) → octet (drop at s) i ≡ octet s (at + i)
octet_drop s at i = get_or-drop at s i 0

pub octet_first : (s : List ℕ) (at : ℕ) → octet s (at + 0) ≡ octet s at
octet_first s at = ap (octet s) (add-zero at)

pub octet_here : (s : List ℕ) (at : ℕ) → octet (drop at s) 0 ≡ octet s at
octet_here s at = octet_drop s at 0 ∙ octet_first s at

module _ (s : List ℕ) (at : ℕ) where
  pub ends_at : length s ≤ at → item (drop at s) ≡ End
  ends_at h = ends (drop at s) (length-drop at s ∙ omega arith)

  pub no_event_at : at < length s → no_event (octet s at) ≡ true → item (drop at s) ≡ NoEvent
  no_event_at h e = no_event_there (drop at s) (rw length-drop (omega arith)) (rw octet_here e)

  pub short_at : at < length s → no_event (octet s at) ≡ false → length s - at < octets_of (octet s at) → item (drop at s) ≡ Short
  short_at h e l = is_short (drop at s) (rw length-drop (omega arith)) (rw octet_here e) (rw (octet_here, length-drop) l)

  pub event_at : at < length s → no_event (octet s at) ≡ false → octets_of (octet s at) ≤ length s - at → item (drop at s) ≡ Event (recorded (drop at s))
  event_at h e l = is_event (drop at s) (rw length-drop (omega arith)) (rw octet_here e) (rw (octet_here, length-drop) l)

  -- the place behind: where an event stands, its octets further on, which are still in the slice; else the place itself
  pub behind_event : (e : Recorded) → item (drop at s) ≡ Event e → behind s at ≡ at + octets_of e.kind
  unfolding behind taken_of
  behind_event e q = rw q

  pub event_within : (e : Recorded) → item (drop at s) ≡ Event e → at + octets_of e.kind ≤ length s
  event_within e q =
      let w = whole (drop at s) e q in
      let f : octets_of e.kind ≤ length s - at = rw length-drop at w.fits in
      omega (arith, w.some)

  pub behind_none : ((e : Recorded) → item (drop at s) ≡ Event e → ⊥) → behind s at ≡ at
  unfolding behind
  behind_none n = rw (none_taken (item (drop at s)) n) (add-zero at)
