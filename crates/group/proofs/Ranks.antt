-- Release ranks (docs/RULES.md, under that title): what every event does to the counter and the ranks, and that ranks tell which was freed later.
-- Assumes nothing.
use Rattle.std.specs.Prelude.{Option}
use Rattle.circuit.specs.declared.Event.{Event}
use mathlib.Core.Path.{◌≡◌, refl, sym, ◌∙◌, subst}
use mathlib.Core.Bool.{Bool, true, false, not, cond, ◌&&◌}
use mathlib.Core.List.{List}
use Prim.Native.Nat.{ℕ, ◌+◌, ◌<◌, ◌≤◌}
use native.Mathlib.Omega.{arith}
use lib.Dec.{T, eqb}
use lib.ListN.{length}
use borrow.Author.Tests.{eqb-true, eqb-false, eq-eqb}
use Rattle.circuit.specs.declared.Record.{Record}
use Rattle.circuit.specs.declared.Outcome.{Outcome}
use Rattle.circuit.specs.Records.{valid}
use Rattle.circuit.specs.Groups.{controls}
use Rattle.circuit.specs.Refusals.{first_rule}
use Rattle.step.specs.Refusals.{found_rules}
use Rattle.step.specs.Frees.{frees_found}
use Rattle.step.proofs.Always.{frees_listed_found}
use Rattle.step.proofs.Refused.{refuses_found}
use Rattle.words.specs.Words.{largest}
use Rattle.layout.specs.Layout.{records_in, counter_in, state_at, rank_at, record_of, record_at, put, ranked, idle}
use Rattle.layout.proofs.Laws.{idle_rank, idle_counter, put_state, put_length, put_keeps_counter, put_keeps_rank, ranked_state, ranked_counter, ranked_rank, other_rank}
use Rattle.group.specs.Table.{outcome_at, step_in}
use Rattle.group.proofs.Laws.{by_cases, keeps_length}
use Rattle.group.specs.Runs.{Follows, Follows.start, Follows.next, events}
use Rattle.group.proofs.Valid.{high}

-- the circuit went from another state to idle
abbrev pub idled : (before after : List ℕ) → (cic : ℕ) → Bool
idled before after cic = not (eqb (state_at before cic) 0) && eqb (state_at after cic) 0

-- then the counter went up by one and the record took it; nothing else changed a rank
pub record Counted (before after : List ℕ) (cic : ℕ) : Type 0 where
  pub counter : counter_in after ≡ cond (idled before after cic) (counter_in before + 1) (counter_in before)
  pub ranks : (i : ℕ) → rank_at after i ≡ cond (idled before after cic && eqb i cic) (counter_in before + 1) (rank_at before i)

made : (before after : List ℕ) (cic : ℕ) (b : Bool) → idled before after cic ≡ b
    → counter_in after ≡ cond b (counter_in before + 1) (counter_in before)
    → ((i : ℕ) → rank_at after i ≡ cond (b && eqb i cic) (counter_in before + 1) (rank_at before i))
    → Counted before after cic
made before after cic b e c r = record { counter = rw e c; ranks = λ i. rw e (r i) }

untouched : (table : List ℕ) (cic : ℕ) → Counted table table cic
untouched table cic = made table table cic false (go (eqb (state_at table cic) 0)) refl (λ i. refl)
  where
    go : (b : Bool) → (not b && b) ≡ false
    go true = refl
    go false = refl

-- a record put that frees nothing, and one that frees
module _ (table : List ℕ) (cic : ℕ) (r : Record) (h : cic < records_in (length table)) where
  stored_counts : (not (eqb (state_at table cic) 0) && eqb r.state 0) ≡ false → Counted table (put table cic r) cic
  stored_counts f = made table (put table cic r) cic false (rw (put_state table cic r h) f) (put_keeps_counter table cic r) (λ i. put_keeps_rank table cic i r)

  released_counts : (not (eqb (state_at table cic) 0) && eqb r.state 0) ≡ true → counter_in table < largest → Counted table (ranked (put table cic r) cic (counter_in table + 1)) cic
  released_counts f k =
      made table (ranked (put table cic r) cic n) cic true
      (rw (ranked_state (put table cic r) cic cic n, put_state table cic r h) f)
      (ranked_counter (put table cic r) cic n in_put (omega arith))
      (λ i. taken i (eqb i cic) refl)
    where
      n : ℕ
      n = counter_in table + 1

      in_put : cic < records_in (length (put table cic r))
      in_put = rw (put_length table cic r) h

      taken : (i : ℕ) (b : Bool) → eqb i cic ≡ b → rank_at (ranked (put table cic r) cic n) i ≡ cond b n (rank_at table i)
      taken i true e = rw (eqb-true i cic e) (ranked_rank (put table cic r) cic n in_put (omega arith))
      taken i false e = other_rank (put table cic r) cic i n (eqb-false i cic e) ∙ put_keeps_rank table cic i r

-- every event on every table
pub counted : (own far : ℕ) (table : List ℕ) (cic : ℕ) (event : Option Event) → Counted table (step_in own far table cic event).table cic
counted own far table cic event =
    by_cases own far table cic event (λ s. Counted table s.table cic)
    (untouched table cic) (untouched table cic) (λ n h. untouched table cic)
    (λ h l a f. stored_counts table cic _ h f)
    (λ h l a f k. released_counts table cic _ h f k)

-- it rises where an event that frees the circuit is accepted, and only from below its largest value
module _ (own far : ℕ) (table : List ℕ) (cic : ℕ) (event : Option Event) where
  abbrev o : Outcome
  o = outcome_at own far table cic event

  pub rises_below : counter_in table < counter_in (step_in own far table cic event).table → counter_in table < largest
  rises_below =
      by_cases own far table cic event (λ s. counter_in table < counter_in s.table → counter_in table < largest)
      (λ h. absurd (omega arith)) (λ h. absurd (omega arith)) (λ n z h. absurd (omega arith))
      (λ h l a f k. absurd (omega (arith, k, put_keeps_counter table cic o.after))) (λ h l a f k z. k)

  pub frees_rises : (step_in own far table cic event).answer.refusal ≡ 0 → frees_found (controls own far cic) (state_at table cic) event ≡ true
      → counter_in (step_in own far table cic event).table ≡ counter_in table + 1
  unfolding record_of
  frees_rises =
      by_cases own far table cic event (λ s. s.answer.refusal ≡ 0 → frees_found (controls own far cic) (state_at table cic) event ≡ true → counter_in s.table ≡ counter_in table + 1)
      (λ e. absurd (omega arith)) (λ e. absurd (omega arith)) (λ n z e. absurd (z e))
      (λ h l a f e q. absurd (subst T (sym q ∙ sym (frees_listed_found (controls own far cic) (record_at table cic) event (is_valid a)) ∙ f) tt))
      (λ h l a f k e q. ranked_counter (put table cic o.after) cic (counter_in table + 1) (rw (put_length table cic o.after) h) (omega arith))
    where
      is_valid : o.refusal ≡ 0 → T (valid (record_at table cic))
      is_valid a = go (valid (record_at table cic)) (sym (refuses_found (controls own far cic) (record_at table cic) event) ∙ a)
        where
          go : (b : Bool) → cond (not b) 12 (first_rule (found_rules (record_at table cic) event)) ≡ 0 → T b
          go true e = tt
          go false e = absurd (omega arith)

-- the counter never falls
rises : (b : Bool) (n m : ℕ) → m ≡ cond b (n + 1) n → n ≤ m
rises true n m e = omega arith
rises false n m e = omega arith

-- ranks that are at most the counter
abbrev pub Ranked : List ℕ → Type 0
Ranked table = (i : ℕ) → i < records_in (length table) → rank_at table i ≤ counter_in table

-- circuits freed since the counter stood at n have ranks that no other circuit has
abbrev pub Apart : ℕ → List ℕ → Type 0
Apart n table = (i j : ℕ) → i < records_in (length table) → j < records_in (length table) → (i ≡ j → ⊥) → n < rank_at table i → rank_at table i ≡ rank_at table j → ⊥

-- one event; both tables have as many records
module _ {before after : List ℕ} {cic : ℕ} (c : Counted before after cic) (same : length after ≡ length before) where
  pub counter_rises : counter_in before ≤ counter_in after
  counter_rises = rises (idled before after cic) (counter_in before) (counter_in after) c.counter

  pub rank_rises : Ranked before → (i : ℕ) → i < records_in (length before) → rank_at before i ≤ rank_at after i
  rank_rises low i h = go (idled before after cic && eqb i cic) (c.ranks i)
    where
      go : (b : Bool) → rank_at after i ≡ cond b (counter_in before + 1) (rank_at before i) → rank_at before i ≤ rank_at after i
      go true e = omega (arith, low i h)
      go false e = omega arith

  pub stays_ranked : Ranked before → Ranked after
  stays_ranked low i h = go (idled before after cic) (eqb i cic) c.counter (c.ranks i)
    where
      was : rank_at before i ≤ counter_in before
      was = omega (arith, low i (rw same at h))

      go : (a b : Bool) → counter_in after ≡ cond a (counter_in before + 1) (counter_in before) → rank_at after i ≡ cond (a && b) (counter_in before + 1) (rank_at before i) → rank_at after i ≤ counter_in after
      go true true e f = omega arith
      go true false e f = omega (arith, was)
      go false b e f = omega (arith, was)

  pub stays_apart : (n : ℕ) → Ranked before → Apart n before → Apart n after
  stays_apart n low apart i j hi hj other above e = go (idled before after cic) (eqb i cic) (eqb j cic) refl refl (c.ranks i) (c.ranks j)
    where
      go : (a b d : Bool) → eqb i cic ≡ b → eqb j cic ≡ d → rank_at after i ≡ cond (a && b) (counter_in before + 1) (rank_at before i) → rank_at after j ≡ cond (a && d) (counter_in before + 1) (rank_at before j) → ⊥
      go true true true p q f g = other (eqb-true i cic p ∙ sym (eqb-true j cic q))
      go true true false p q f g = omega (arith, low j (rw same at hj))
      go true false true p q f g = omega (arith, low i (rw same at hi))
      go true false false p q f g = apart i j (rw same at hi) (rw same at hj) other (omega arith) (sym f ∙ e ∙ g)
      go false b d p q f g = apart i j (rw same at hi) (rw same at hj) other (omega arith) (sym f ∙ e ∙ g)

-- the counter never falls, whatever the ranks
pub never_falls : {own far : ℕ} {first last : List ℕ} → Follows own far first last → counter_in first ≤ counter_in last
never_falls start = omega arith
never_falls {own} {far} (next {table} f cic event) =
    omega (arith, never_falls f, counter_rises (counted own far table cic event) (keeps_length own far table cic event))

-- from a table whose ranks are at most its counter: this stays so, no rank falls, and what is freed is told apart
pub record Kept (first last : List ℕ) : Type 0 where
  pub records : length last ≡ length first
  pub ranked : Ranked last
  pub rises : (i : ℕ) → i < records_in (length first) → rank_at first i ≤ rank_at last i
  pub apart : Apart (counter_in first) last

pub kept : {own far : ℕ} {first last : List ℕ} → Ranked first → Follows own far first last → Kept first last
kept low start = record { records = refl; ranked = low; rises = λ i h. omega arith; apart = λ i j hi hj other above e. omega (arith, low i hi) }
kept {own} {far} {first} low (next {table} f cic event) =
    let k : Kept first table = kept low f in
    let c : Counted table (step_in own far table cic event).table cic = counted own far table cic event in
    let same : length (step_in own far table cic event).table ≡ length table = keeps_length own far table cic event in
    record {
      records = same ∙ k.records;
      ranked = stays_ranked c same k.ranked;
      rises = λ i h. omega (arith, k.rises i h, rank_rises c same k.ranked i (rw k.records h));
      apart = stays_apart c same (counter_in first) k.ranked k.apart;
    }

-- every table that started at zeros
idle_ranked : (octets : ℕ) → Ranked (idle octets)
idle_ranked octets i h = rw (idle_rank octets i, idle_counter octets) (omega arith)

pub from_zeros : {own far : ℕ} {table : List ℕ} (octets : ℕ) → Follows own far (idle octets) table → Kept (idle octets) table
from_zeros octets f = kept (idle_ranked octets) f

-- what an event that frees leaves
freed_rank : {before after : List ℕ} {cic : ℕ} → Counted before after cic → idled before after cic ≡ true → rank_at after cic ≡ counter_in before + 1
freed_rank {before} {after} {cic} c f = rw (f, eq-eqb cic cic refl) at (c.ranks cic)

freed_counter : {before after : List ℕ} {cic : ℕ} → Counted before after cic → idled before after cic ≡ true → counter_in after ≡ counter_in before + 1
freed_counter c f = rw f at c.counter

-- a circuit that is freed later has the higher rank: of two events with any others between them, the first frees i and the second j
pub later : (own far : ℕ) (first second : List ℕ) (i j : ℕ) (e f : Option Event)
    → idled first (step_in own far first i e).table i ≡ true
    → Follows own far (step_in own far first i e).table second
    → idled second (step_in own far second j f).table j ≡ true
    → rank_at (step_in own far first i e).table i < rank_at (step_in own far second j f).table j
later own far first second i j e f p between q =
    omega (arith, freed_rank (counted own far first i e) p, freed_counter (counted own far first i e) p, never_falls between, freed_rank (counted own far second j f) q)

-- 13 is given at the largest value only
pub spent_at : (own far : ℕ) (table : List ℕ) (cic : ℕ) (event : Option Event) → (step_in own far table cic event).answer.refusal ≡ 13 → largest ≤ counter_in table
spent_at own far table cic event e = (high own far table cic event 13 (omega arith) e).1 refl

-- so a group that starts idle answers 13 at none of its first 2^64 - 1 events
pub once : (b : Bool) (n m k : ℕ) → m ≡ cond b (n + 1) n → n ≤ k → m ≤ k + 1
once true n m k e h = omega arith
once false n m k e h = omega arith

at_most_one_each : {own far : ℕ} {first last : List ℕ} (f : Follows own far first last) → counter_in last ≤ counter_in first + events f
at_most_one_each start = omega arith
at_most_one_each {own} {far} {first} (next {table} f cic event) =
    omega (arith, once (idled table (step_in own far table cic event).table cic) (counter_in table) (counter_in (step_in own far table cic event).table) (counter_in first + events f) (counted own far table cic event).counter (at_most_one_each f))

pub never13 : {own far : ℕ} {table : List ℕ} (octets : ℕ) (f : Follows own far (idle octets) table) → events f < largest
    → (cic : ℕ) (event : Option Event) → (step_in own far table cic event).answer.refusal ≡ 13 → ⊥
never13 {own} {far} {table} octets f few cic event e =
    omega (arith, spent_at own far table cic event e, at_most_one_each f, idle_counter octets)
