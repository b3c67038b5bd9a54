-- Calls and marks together are the printed tables, for every legal record, role and event: one test that is computed, and the law from it.
-- Assumes nothing.
use Rattle.std.specs.Prelude.{Option, Some, None}
use mathlib.Core.Path.{◌≡◌, refl, sym, ap, ◌∙◌, subst}
use mathlib.Core.Bool.{Bool, true, false, ◌&&◌}
use Prim.Native.Nat.{ℕ, ◌<◌, ◌≤◌}
use native.Mathlib.Omega.{arith}
use lib.Dec.{T, eqb, eqb→eq, leb, ltb, leb→le, ltb→lt}
use Rattle.circuit.specs.declared.Failure.TheVariants.{Sec, Cgc, Nnc, Adi, Cfl, Ssb, Unn, Los, Sst}
use Rattle.circuit.specs.declared.Charging.TheVariants.{Charged, Free}
use Rattle.circuit.specs.declared.Signal.TheVariants.{Iam, Acm, Anc, Ann, Cbk, Clf, Ran, Rlg, Blo, Bla, Ubl, Uba, Rsc, Fail}
use Rattle.circuit.specs.declared.Command.TheVariants.{Seize, Release, AddressComplete, Answer, ClearBack, ReAnswer, FailCall, Block, Unblock, Restart}
use Rattle.circuit.specs.declared.Timer.TheVariants.{AddressWait, AnswerWait, IncomingHangUp, Repeat, OneMinute, BlockRepeat}
use Rattle.circuit.specs.declared.Event.{Event}
use Rattle.circuit.specs.declared.Event.TheVariants.{Arrives, Ordered, RunsOut}
use Rattle.circuit.specs.Records.{valid}
use Rattle.circuit.specs.Rows.{first}
use Rattle.circuit.specs.Every.{implies, each_below}
use Rattle.circuit.proofs.Every.{left, right, then, is_true, each_bool, at_bool, at_below}
use Rattle.answers.specs.Answers as Answers
use Rattle.answers.specs.Answers.{packed, Unpacked, refusal}
use Rattle.answers.proofs.Unpacking.{unpacked}
use Rattle.calls.specs.Calls.{on_call}
use Rattle.layout.specs.Layout.{flags_of, record_of, allowed}
use Rattle.layout.proofs.Laws.{flags_back}
use Rattle.step.specs.Step.{step, step_found}
use Rattle.step.specs.Way.{shown, answer_to}
use Rattle.step.specs.Way.{event_way, found_way}

-- every field of an answer is an octet
abbrev small : Answers.Answer → Bool
small a = ltb a.refusal 256 && (ltb a.ind 256 && (ltb a.state 256 && ltb a.flags 256))

abbrev same : Event → Bool → ℕ → ℕ → Bool
same e c s f = eqb (event_way c s f e) (packed (shown (step c (record_of s f) e))) && small (shown (step c (record_of s f) e))

abbrev everywhere : Event → Bool
everywhere e = each_below 13 (λ s. each_below 16 (λ f. each_bool (λ c. implies (allowed s f) (same e c s f))))

tested : (e : Event) → T (everywhere e)
unfolding step first on_call record_of flags_of
tested (Arrives Iam) = tt
tested (Arrives (Acm octet)) = tt
tested (Arrives Anc) = tt
tested (Arrives Ann) = tt
tested (Arrives Cbk) = tt
tested (Arrives Clf) = tt
tested (Arrives Ran) = tt
tested (Arrives Rlg) = tt
tested (Arrives Blo) = tt
tested (Arrives Bla) = tt
tested (Arrives Ubl) = tt
tested (Arrives Uba) = tt
tested (Arrives Rsc) = tt
tested (Arrives (Fail f)) = tt
tested (Ordered Seize) = tt
tested (Ordered Release) = tt
tested (Ordered (AddressComplete t true)) = tt
tested (Ordered (AddressComplete t false)) = tt
tested (Ordered (Answer Charged)) = tt
tested (Ordered (Answer Free)) = tt
tested (Ordered ClearBack) = tt
tested (Ordered ReAnswer) = tt
tested (Ordered (FailCall Sec)) = tt
tested (Ordered (FailCall Cgc)) = tt
tested (Ordered (FailCall Nnc)) = tt
tested (Ordered (FailCall Adi)) = tt
tested (Ordered (FailCall Cfl)) = tt
tested (Ordered (FailCall Ssb)) = tt
tested (Ordered (FailCall Unn)) = tt
tested (Ordered (FailCall Los)) = tt
tested (Ordered (FailCall Sst)) = tt
tested (Ordered Block) = tt
tested (Ordered Unblock) = tt
tested (Ordered Restart) = tt
tested (RunsOut AddressWait) = tt
tested (RunsOut AnswerWait) = tt
tested (RunsOut IncomingHangUp) = tt
tested (RunsOut Repeat) = tt
tested (RunsOut OneMinute) = tt
tested (RunsOut BlockRepeat) = tt

low_flags : (s f : ℕ) → T (allowed s f) → f ≤ 15
low_flags s f t = leb→le f 15 (left (leb f 15) _ t)

is_valid : (s f : ℕ) → T (allowed s f) → T (valid (record_of s f))
is_valid s f t = right (leb f 15) _ t

low_state : (s f : ℕ) → T (allowed s f) → s ≤ 12
unfolding record_of
low_state s f t = leb→le s 12 (left (leb s 12) _ (is_valid s f t))

holds : (e : Event) (c : Bool) (s f : ℕ) → T (allowed s f) → T (same e c s f)
holds e c s f t = then (allowed s f) (same e c s f) (at_bool (λ c. implies (allowed s f) (same e c s f)) t₂ c) t
  where
    t₁ : T (each_below 16 (λ f. each_bool (λ c. implies (allowed s f) (same e c s f))))
    t₁ = at_below 13 (λ s. each_below 16 (λ f. each_bool (λ c. implies (allowed s f) (same e c s f)))) (tested e) s (let h = low_state s f t in omega arith)

    t₂ : T (each_bool (λ c. implies (allowed s f) (same e c s f)))
    t₂ = at_below 16 (λ f. each_bool (λ c. implies (allowed s f) (same e c s f))) t₁ f (let h = low_flags s f t in omega arith)

-- together they are the tables
pub are_the_tables : (c : Bool) (s f : ℕ) (e : Event) → T (allowed s f) → event_way c s f e ≡ packed (shown (step c (record_of s f) e))
are_the_tables c s f e t = eqb→eq _ _ (left (eqb (event_way c s f e) (packed (shown (step c (record_of s f) e)))) _ (holds e c s f t))

small_shown : (c : Bool) (s f : ℕ) (e : Event) → T (allowed s f) → T (small (shown (step c (record_of s f) e)))
small_shown c s f e t = right (eqb (event_way c s f e) (packed (shown (step c (record_of s f) e)))) _ (holds e c s f t)

comes_back : (a : Answers.Answer) → T (small a) → Unpacked (packed a) a
comes_back a t =
    unpacked a
    (ltb→lt _ _ (left (ltb a.refusal 256) _ t))
    (ltb→lt _ _ (left (ltb a.ind 256) _ (right (ltb a.refusal 256) _ t)))
    (ltb→lt _ _ (left (ltb a.state 256) _ (right (ltb a.ind 256) _ (right (ltb a.refusal 256) _ t))))
    (ltb→lt _ _ (right (ltb a.state 256) _ (right (ltb a.ind 256) _ (right (ltb a.refusal 256) _ t))))

-- a refusal beside two octets
pub refusal_back : (n s f : ℕ) → n < 256 → s < 256 → f < 256 → Unpacked (packed (refusal n s f)) (refusal n s f)
refusal_back n s f hn hs hf = unpacked (refusal n s f) hn (omega arith) hs hf

module _ (c : Bool) (s f : ℕ) (t : T (allowed s f)) where
  shown_missing : shown (step_found c (record_of s f) None) ≡ refusal 3 s f
  unfolding step_found record_of
  shown_missing = rw (is_true (valid (record_of s f)) (is_valid s f t)) (ap (λ (k : ℕ). refusal 3 s k) (flags_back s f (low_flags s f t)))

  pub answers : (event : Option Event) → answer_to c s f event ≡ shown (step_found c (record_of s f) event)
  unfolding answer_to
  answers event = rw (is_true (allowed s f) t) refl

  pub packs : (event : Option Event) → found_way c s f event ≡ packed (answer_to c s f event)
  unfolding step_found
  packs (Some e) = are_the_tables c s f e t ∙ ap packed (sym (answers (Some e)))
  packs None = ap packed (sym (answers None ∙ shown_missing))

  pub unpacks : s < 256 → f < 256 → (event : Option Event) → Unpacked (packed (answer_to c s f event)) (answer_to c s f event)
  unfolding step_found
  unpacks hs hf (Some e) = subst (λ (a : Answers.Answer). Unpacked (packed a) a) (sym (answers (Some e))) (comes_back _ (small_shown c s f e t))
  unpacks hs hf None = subst (λ (a : Answers.Answer). Unpacked (packed a) a) (sym (answers None ∙ shown_missing)) (refusal_back 3 s f (omega arith) hs hf)

-- two octets that are no record
pub bad : (c : Bool) (s f : ℕ) (event : Option Event) → allowed s f ≡ false → answer_to c s f event ≡ refusal 12 s f
unfolding answer_to
bad c s f event e = rw e refl

-- a number that is an answer's
pub met : {r w : ℕ} {a : Answers.Answer} → r ≡ w → w ≡ packed a → Unpacked (packed a) a → (r ≡ packed a) × Unpacked r a
met {a = a} e p u = (e ∙ p, subst (λ (n : ℕ). Unpacked n a) (sym (e ∙ p)) u)

pub refuses_bad : (r : ℕ) (c : Bool) (s f : ℕ) (event : Option Event) → allowed s f ≡ false → s < 256 → f < 256 → r ≡ Answers.word 12 0 s f 0 0
    → (r ≡ packed (answer_to c s f event)) × Unpacked r (answer_to c s f event)
refuses_bad r c s f event e hs hf is = met is (ap packed (sym (bad c s f event e))) (subst (λ (a : Answers.Answer). Unpacked (packed a) a) (sym (bad c s f event e)) (refusal_back 12 s f (omega arith) hs hf))

pub answers_good : (r : ℕ) (c : Bool) (s f : ℕ) (event : Option Event) → allowed s f ≡ true → s < 256 → f < 256 → r ≡ found_way c s f event
    → (r ≡ packed (answer_to c s f event)) × Unpacked r (answer_to c s f event)
answers_good r c s f event e hs hf is = let t = subst T (sym e) tt in met is (packs c s f t event) (unpacks c s f t hs hf event)
