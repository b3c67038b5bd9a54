-- A table of valid records stays one, so a group that starts idle never answers 12.
-- Assumes nothing.
use Rattle.std.specs.Prelude.{Option, Some, None}
use Rattle.circuit.specs.declared.Event.{Event}
use mathlib.Core.Path.{◌≡◌, refl, sym, ◌∙◌, subst}
use mathlib.Core.Bool.{Bool, true, false, not, cond}
use mathlib.Core.List.{List, [], ◌∷◌, ◌++◌}
use Prim.Native.Nat.{ℕ, ◌<◌, ◌≤◌}
use native.Mathlib.Omega.{arith}
use lib.Dec.{T, eqb, leb, le→leb, leb→le}
use lib.ListN.{length}
use borrow.Author.Tests.{eqb-true, eqb-false, leb-false}
use Rattle.circuit.specs.declared.Record.{Record}
use Rattle.circuit.specs.Records.{valid}
use Rattle.circuit.specs.Groups.{bad_group, controls}
use Rattle.circuit.specs.Rows.{refused}
use Rattle.circuit.specs.Refusals.{refuse, first_rule}
use Rattle.circuit.proofs.Every.{left, right, both}
use Rattle.step.specs.Step.{step_found}
use Rattle.step.specs.Refusals.{found_rules}
use Rattle.step.proofs.Refused.{low_refusal, then_last}
use Rattle.step.proofs.Always.{kept}
use Rattle.step.specs.Frees.{frees_found}
use Rattle.words.specs.Words.{largest}
use Rattle.layout.specs.Layout.{records_in, counter_in, state_at, flags_at, record_of, record_at, allowed_at, put, ranked, idle}
use Rattle.layout.proofs.Laws.{idle_state, idle_flags, flags_low, put_length, put_flags, put_record, other_flags, other_record, ranked_length, ranked_flags, ranked_record}
use Rattle.group.specs.Refusals.{spent}
use Rattle.group.specs.Table.{outcome_at, step_in}
use Rattle.group.proofs.Laws.{by_cases, refusals}
use Rattle.group.specs.Runs.{Follows, Follows.start, Follows.next}

-- every record is a legal one
abbrev pub ValidTable : List ℕ → Type 0
ValidTable table = (i : ℕ) → i < records_in (length table) → T (allowed_at table i)

allowed_by : (table : List ℕ) (i : ℕ) → flags_at table i ≤ 15 → T (valid (record_at table i)) → T (allowed_at table i)
allowed_by table i h v = both (leb (flags_at table i) 15) (valid (record_at table i)) (le→leb _ _ h) v

pub low_flags : (table : List ℕ) (i : ℕ) → T (allowed_at table i) → flags_at table i ≤ 15
low_flags table i t = leb→le _ _ (left (leb (flags_at table i) 15) (valid (record_at table i)) t)

pub valid_at : (table : List ℕ) (i : ℕ) → T (allowed_at table i) → T (valid (record_at table i))
valid_at table i t = right (leb (flags_at table i) 15) (valid (record_at table i)) t

kept_found : (c : Bool) (r : Record) (f : Option Event) → T (valid r) → T (valid (step_found c r f).after)
unfolding step_found
kept_found c r (Some e) v = kept c r e v
kept_found c r None v = go (valid r)
  where
    go : (b : Bool) → T (valid (cond b (refused 3 r) (refused 12 r)).after)
    go true = v
    go false = v

-- what is put where is valid keeps the table so
put_valid : (table : List ℕ) (cic : ℕ) (r : Record) → ValidTable table → cic < records_in (length table) → T (valid r) → ValidTable (put table cic r)
put_valid table cic r v h ok i k = go (eqb i cic) refl
  where
    go : (b : Bool) → eqb i cic ≡ b → T (allowed_at (put table cic r) i)
    go true e =
        rw (eqb-true i cic e)
        (allowed_by (put table cic r) cic (rw (put_flags table cic r h) (flags_low r)) (rw (put_record table cic r h) ok))
    go false e =
        let was : T (allowed_at table i) = v i (rw put_length at k) in
        let other : i ≡ cic → ⊥ = eqb-false i cic e in
        allowed_by (put table cic r) i (rw (other_flags table cic i r other) (low_flags table i was)) (rw (other_record table cic i r other) (valid_at table i was))

-- and so does a rank that is taken
ranked_valid : (table : List ℕ) (cic n : ℕ) → ValidTable table → ValidTable (ranked table cic n)
ranked_valid table cic n v i k =
    let was : T (allowed_at table i) = v i (rw ranked_length at k) in
    allowed_by (ranked table cic n) i (rw (ranked_flags table cic i n) (low_flags table i was)) (rw (ranked_record table cic i n) (valid_at table i was))

-- an event's own refusals are at most 6, and behind them comes 13 at the most
pub behind : (r : Record) (f : Option Event) (b : Bool) (n : ℕ) → 6 < n → first_rule (found_rules r f ++ (refuse 13 b ∷ [])) ≡ n → (n ≡ 13) × T b
behind r f b n h e = go (eqb (first_rule (found_rules r f)) 0) b (first_rule (found_rules r f)) (low_refusal r f) (sym (then_last r f 13 b) ∙ e)
  where
    go : (x b : Bool) (m : ℕ) → m ≤ 6 → cond x (cond b 13 0) m ≡ n → (n ≡ 13) × T b
    go true true m l k = (sym k, tt)
    go true false m l k = absurd (omega arith)
    go false b m l k = absurd (omega arith)

module _ (own far : ℕ) (table : List ℕ) (cic : ℕ) (event : Option Event) where
  -- a refusal above 6 is 12 for the record, or 13
  pub high : (n : ℕ) → 6 < n → (step_in own far table cic event).answer.refusal ≡ n
      → (n ≡ 12 → (cic < records_in (length table)) × (allowed_at table cic ≡ false)) × (n ≡ 13 → largest ≤ counter_in table)
  high n l e =
      go (bad_group own far (records_in (length table))) (leb (records_in (length table)) cic) refl (allowed_at table cic) refl _ (behind (record_at table cic) event last n l) (sym (refusals own far table cic event) ∙ e)
    where
      last : Bool
      last = spent own far table cic event

      Told : Type 0
      Told = (n ≡ 12 → (cic < records_in (length table)) × (allowed_at table cic ≡ false)) × (n ≡ 13 → largest ≤ counter_in table)

      go : (a b : Bool) → leb (records_in (length table)) cic ≡ b → (d : Bool) → allowed_at table cic ≡ d → (m : ℕ) → (m ≡ n → (n ≡ 13) × T last) → cond a 1 (cond b 2 (cond (not d) 12 m)) ≡ n → Told
      go true b f d g m k h = absurd (omega arith)
      go false true f d g m k h = absurd (omega arith)
      go false false f false g m k h = (λ z. (leb-false _ _ f, g), λ z. absurd (omega arith))
      go false false f true g m k h =
          (λ z. absurd (omega (arith, (k h).0)), λ z. leb→le _ _ (right (frees_found (controls own far cic) (state_at table cic) event) (leb largest (counter_in table)) (k h).1))

module _ (own far : ℕ) (table : List ℕ) (cic : ℕ) (event : Option Event) (v : ValidTable table) where
  pub stays_valid : ValidTable (step_in own far table cic event).table
  stays_valid =
      by_cases own far table cic event (λ s. ValidTable s.table) v v (λ n h. v)
      (λ h l a f. fits h)
      (λ h l a f k. ranked_valid (put table cic (outcome_at own far table cic event).after) cic _ (fits h))
    where
      fits : cic < records_in (length table) → ValidTable (put table cic (outcome_at own far table cic event).after)
      fits h = put_valid table cic _ v h (kept_found (controls own far cic) (record_at table cic) event (valid_at table cic (v cic h)))

  pub not12_in : (step_in own far table cic event).answer.refusal ≡ 12 → ⊥
  not12_in e = let bad = (high own far table cic event 12 (omega arith) e).0 refl in subst T bad.1 (v cic bad.0)

pub idle_valid : (octets : ℕ) → ValidTable (idle octets)
unfolding record_of
idle_valid octets i h = rw (idle_state octets i, idle_flags octets i) tt

pub follows_valid : {own far : ℕ} {first last : List ℕ} → ValidTable first → Follows own far first last → ValidTable last
follows_valid v start = v
follows_valid {own} {far} v (next {table} f cic event) = stays_valid own far table cic event (follows_valid v f)

-- a group that starts idle never answers 12
pub never12 : {own far : ℕ} {table : List ℕ} (octets : ℕ) → Follows own far (idle octets) table → (cic : ℕ) (event : Option Event) → (step_in own far table cic event).answer.refusal ≡ 12 → ⊥
never12 {own} {far} {table} octets f cic event = not12_in own far table cic event (follows_valid (idle_valid octets) f)
