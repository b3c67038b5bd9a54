-- The program's way with an answer as a number leads to what the definitions say.
-- Assumes nothing.
use Rattle.std.specs.Prelude.{Option}
use Rattle.circuit.specs.declared.Event.{Event}
use mathlib.Core.Path.{◌≡◌, refl, sym, ap, ◌∙◌, subst}
use mathlib.Core.Bool.{Bool, true, false, not, cond, ◌&&◌, ◌||◌}
use mathlib.Core.List.{List}
use Prim.Native.Nat.{ℕ, ◌+◌, ◌/◌, ◌%◌, ◌<◌, ◌≤◌}
use native.Mathlib.Omega.{arith}
use lib.Dec.{T, eqb, leb, ltb, leb→le}
use lib.ListN.{length}
use borrow.Author.Tests.{le-leb, lt-leb, leb-true, leb-false, eqb-true, eqb-false, eq-eqb, ne_eqb}
use Rattle.circuit.specs.declared.Outcome.{Outcome}
use Rattle.circuit.specs.Records.{valid}
use Rattle.circuit.proofs.Every.{left}
use Rattle.words.specs.Words.{largest}
use Rattle.answers.specs.Answers.{Answer, refusal, word, packed, Unpacked}
use Rattle.layout.specs.declared.Stored.{Stored}
use Rattle.layout.specs.Way.{bad_length}
use Rattle.layout.specs.Layout.{table_octets, records_in, stored_at, counter_in, state_at, flags_at, flags_of, record_of, record_at, allowed, put_octets, ranked}
use Rattle.layout.proofs.Laws.{flags_back, stored_in, ends_before}
use Rattle.step.specs.Step.{step_found}
use Rattle.step.specs.Frees.{freed}
use Rattle.step.specs.Way.{shown, answer_to}
use Rattle.step.proofs.Refused.{keeps_found, refuses_found}
use Rattle.step.proofs.Tables.{refusal_back, bad, answers}
use Rattle.group.specs.Table.{Step, nowhere, refused_at, taken, stored, released}
use Rattle.group.specs.Way as Way
use Rattle.group.specs.Landing.{Landed, leaving, put_shown, freeing, accepted, landed}
use Rattle.group.proofs.Cases.{no_flags, stepped}

-- an answer and a table that are those of the case that a way comes to
pub met : {t s : Landed} {a : ℕ} {xs : List ℕ} → t ≡ s → a ≡ s.answer → xs ≡ s.table → (a ≡ t.answer) × (xs ≡ t.table)
met e p q = (rw e p, rw e q)

-- the cases of the program's functions
module _ (table : List ℕ) (cic s f w : ℕ) where
  pub spends : largest ≤ counter_in table → freeing table cic s f w ≡ leaving (word 13 0 s f 0 0) table
  spends h = simp (le-leb _ _ h)

  pub releases : counter_in table < largest → freeing table cic s f w ≡ leaving w (ranked (put_shown table cic w) cic (counter_in table + 1))
  releases h = simp (lt-leb _ _ h)

  pub goes : (s ≡ 0 → ⊥) → w / 0x10000 % 256 ≡ 0 → accepted table cic s f w ≡ freeing table cic s f w
  goes n e = simp (ne_eqb _ _ n, eq-eqb _ _ e)

  pub was_idle : s ≡ 0 → accepted table cic s f w ≡ leaving w (put_shown table cic w)
  was_idle e = simp (eq-eqb _ _ e)

  pub stays : (s ≡ 0 → ⊥) → (w / 0x10000 % 256 ≡ 0 → ⊥) → accepted table cic s f w ≡ leaving w (put_shown table cic w)
  stays n e = simp (ne_eqb _ _ n, ne_eqb _ _ e)

  pub takes : w % 256 ≡ 0 → landed table cic s f w ≡ accepted table cic s f w
  takes e = rw e

  pub refuses : (w % 256 ≡ 0 → ⊥) → landed table cic s f w ≡ leaving w table
  refuses n = simp (ne_eqb _ _ n)

-- a step by its number
abbrev told : Step → Landed
told st = leaving (packed st.answer) st.table

-- the number that is answered is a step's, and its fields come back from it
abbrev pub Comes : Landed → Step → Type 0
Comes l st = (l ≡ told st) × Unpacked (packed st.answer) st.answer

alike : {w v : ℕ} {xs ys : List ℕ} → w ≡ v → xs ≡ ys → leaving w xs ≡ leaving v ys
alike p q = rw (p, q)

-- one circuit's outcome, and the number that shows it
module _ (table : List ℕ) (cic : ℕ) (o : Outcome) (w : ℕ) (is : w ≡ packed (shown o)) (u : Unpacked w (shown o))
    (hs : state_at table cic < 256) (hf : flags_at table cic < 256) where
  abbrev s : ℕ
  s = state_at table cic

  abbrev f : ℕ
  f = flags_at table cic

  took : o.refusal ≡ 0 → shown o ≡ taken o
  took e = rw e

  took_back : o.refusal ≡ 0 → Unpacked (packed (taken o)) (taken o)
  took_back e = subst (λ (a : Answer). Unpacked (packed a) a) (took e) (subst (λ (n : ℕ). Unpacked n (shown o)) is u)

  put_back : put_shown table cic w ≡ put_octets table cic o.after.state (flags_of o.after)
  put_back = rw (u.state, u.flags)

  frees : o.refusal ≡ 0 → (full : Bool) → Comes (cond full (leaving (word 13 0 s f 0 0) table) (leaving w (ranked (put_shown table cic w) cic (counter_in table + 1)))) (cond full (refused_at 13 table cic) (released table cic o))
  frees e true = (refl, refusal_back 13 s f (omega arith) hs hf)
  frees e false = (alike (is ∙ ap packed (took e)) (rw put_back refl), took_back e)

  accepts : o.refusal ≡ 0 → (b : Bool) → Comes (cond b (freeing table cic s f w) (leaving w (put_shown table cic w))) (cond b (Way.freeing table cic o) (stored table cic o))
  accepts e true = frees e (leb largest (counter_in table))
  accepts e false = (alike (is ∙ ap packed (took e)) put_back, took_back e)

  lands : ((o.refusal ≡ 0 → ⊥) → shown o ≡ refusal o.refusal s f) → Comes (landed table cic s f w) (Way.landed table cic o)
  lands kept = rw u.refusal (go (eqb o.refusal 0) refl)
    where
      kept' : (o.refusal ≡ 0 → ⊥) → Comes (leaving w table) (refused_at o.refusal table cic)
      kept' n = (alike (is ∙ ap packed (kept n)) refl, subst (λ (a : Answer). Unpacked (packed a) a) (kept n) (subst (λ (k : ℕ). Unpacked k (shown o)) is u))

      go : (b : Bool) → eqb o.refusal 0 ≡ b → Comes (cond b (accepted table cic s f w) (leaving w table)) (cond b (Way.accepted table cic o) (refused_at o.refusal table cic))
      go true e =
          subst (λ (k : ℕ). Comes (cond (not (eqb s 0) && eqb k 0) (freeing table cic s f w) (leaving w (put_shown table cic w))) (Way.accepted table cic o)) (sym u.state)
          (accepts (eqb-true _ _ e) (freed s o))
      go false e = kept' (eqb-false _ _ e)

module _ (c : Bool) (table : List ℕ) (cic : ℕ) (event : Option Event) where
  abbrev o : Outcome
  o = step_found c (record_at table cic) event

  -- a record that is none
  bad_record : allowed (state_at table cic) (flags_at table cic) ≡ false → Way.on_circuit c table cic event ≡ refused_at 12 table cic
  bad_record e = go (leb (flags_at table cic) 15) refl
    where
      go₂ : (b : Bool) → valid (record_at table cic) ≡ b → (leb (flags_at table cic) 15 && b) ≡ false → leb (flags_at table cic) 15 ≡ true → Way.landed table cic o ≡ refused_at 12 table cic
      go₂ true v e l = absurd (subst T (rw l at e) tt)
      go₂ false v e l = rw (refuses_found c (record_at table cic) event, v) refl

      go : (b : Bool) → leb (flags_at table cic) 15 ≡ b → Way.on_circuit c table cic event ≡ refused_at 12 table cic
      go true l = stepped c table cic event (leb-true _ _ l) ∙ go₂ (valid (record_at table cic)) refl e l
      go false l = no_flags c table cic event (leb-false _ _ l)

  -- a refusal shows the record as it stands
  kept : flags_at table cic ≤ 15 → (o.refusal ≡ 0 → ⊥) → shown o ≡ refusal o.refusal (state_at table cic) (flags_at table cic)
  unfolding record_of
  kept low n = ap shown (keeps_found c (record_at table cic) event n) ∙ ap (λ (k : ℕ). refusal o.refusal (state_at table cic) k) (flags_back (state_at table cic) (flags_at table cic) low)

  -- what one circuit's step answers leads to what happens on a circuit
  pub leads : (w : ℕ) → w ≡ packed (answer_to c (state_at table cic) (flags_at table cic) event) → Unpacked w (answer_to c (state_at table cic) (flags_at table cic) event)
      → state_at table cic < 256 → flags_at table cic < 256 → Comes (landed table cic (state_at table cic) (flags_at table cic) w) (Way.on_circuit c table cic event)
  leads w is u hs hf = go (allowed (state_at table cic) (flags_at table cic)) refl
    where
      go : (b : Bool) → allowed (state_at table cic) (flags_at table cic) ≡ b → Comes (landed table cic (state_at table cic) (flags_at table cic) w) (Way.on_circuit c table cic event)
      go true e = rw (stepped c table cic event low) (lands table cic o w (is ∙ ap packed known) (subst (Unpacked w) known u) hs hf (kept low))
        where
          t : T (allowed (state_at table cic) (flags_at table cic))
          t = subst T (sym e) tt

          low : flags_at table cic ≤ 15
          low = leb→le _ _ (left (leb (flags_at table cic) 15) _ t)

          known : answer_to c (state_at table cic) (flags_at table cic) event ≡ shown o
          known = answers c (state_at table cic) (flags_at table cic) t event
      go false e = rw (bad_record e) (rw (u.refusal, is_bad) (alike (is ∙ ap packed is_bad) refl, refusal_back 12 _ _ (omega arith) hs hf))
        where
          is_bad : answer_to c (state_at table cic) (flags_at table cic) event ≡ refusal 12 (state_at table cic) (flags_at table cic)
          is_bad = bad c (state_at table cic) (flags_at table cic) event e

  -- and so the program's answer and table are the definition's
  pub ends : (at : Stored) (w r : ℕ) (after : List ℕ) → at ≡ stored_at table cic → cic < records_in (length table) → at.held.state < 256 → at.held.flags < 256
      → w ≡ packed (answer_to c at.held.state at.held.flags event) → Unpacked w (answer_to c at.held.state at.held.flags event)
      → r ≡ (landed table cic at.held.state at.held.flags w).answer → after ≡ (landed table cic at.held.state at.held.flags w).table
      → (r ≡ packed (Way.on_circuit c table cic event).answer) × (Unpacked r (Way.on_circuit c table cic event).answer × (after ≡ (Way.on_circuit c table cic event).table))
  ends at w r after is h hs hf e u p q =
      let is_state : at.held.state ≡ state_at table cic = ap (λ (x : Stored). x.held.state) (is ∙ stored_in table cic h) in
      let is_flags : at.held.flags ≡ flags_at table cic = ap (λ (x : Stored). x.held.flags) (is ∙ stored_in table cic h) in
      let l = leads w (rw (is_state, is_flags) at e) (rw (is_state, is_flags) at u) (rw is_state at hs) (rw is_flags at hf) in
      let number = (rw (is_state, is_flags) at p) ∙ ap (λ (x : Landed). x.answer) l.0 in
      (number, (subst (λ (n : ℕ). Unpacked n (Way.on_circuit c table cic event).answer) (sym number) l.1, (rw (is_state, is_flags) at q) ∙ ap (λ (x : Landed). x.table) l.0))

-- a step that is refused for its group or its circuit
pub nothing : (n r : ℕ) (st : Step) (table after : List ℕ) → n < 256 → st ≡ nowhere n table → r ≡ word n 0 0 0 0 0 → after ≡ table
    → (r ≡ packed st.answer) × (Unpacked r st.answer × (after ≡ st.table))
nothing n r st table after h e p q =
    rw e (p, (subst (λ (k : ℕ). Unpacked k (refusal n 0 0)) (sym p) (refusal_back n 0 0 h (omega arith) (omega arith)), q))

-- no group by its codes, or by its table's length
pub bad_by_codes : (codes : Bool) (octets : ℕ) → codes ≡ true → (codes || bad_length octets) ≡ true
bad_by_codes codes octets e = rw e refl

pub bad_by_length : (codes : Bool) (octets : ℕ) → bad_length octets ≡ true → (codes || bad_length octets) ≡ true
bad_by_length true octets e = refl
bad_by_length false octets e = e

pub good_group : (codes : Bool) (octets : ℕ) → codes ≡ false → bad_length octets ≡ false → (codes || bad_length octets) ≡ false
good_group codes octets c e = rw c e

-- which circuits a table has, by where their records end
pub has_not : (octets i : ℕ) → bad_length octets ≡ false → ltb octets (table_octets i + 10) ≡ true → records_in octets ≤ i
has_not octets i g e = leb-true _ _ (sym (ends_before octets i g) ∙ e)

pub has : (octets i : ℕ) → bad_length octets ≡ false → ltb octets (table_octets i + 10) ≡ false → i < records_in octets
has octets i g e = leb-false _ _ (sym (ends_before octets i g) ∙ e)
