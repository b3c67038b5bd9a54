-- Which circuit to seize (docs/RULES.md, "Choice of a circuit"; Q.724, 2.4, method 2). This says what the answer is, not how it is found.
-- Assumes nothing.
use Rattle.std.specs.Prelude.{Bool, not, cond, ◌&&◌, ◌||◌, List, [], ◌∷◌, ℕ, zero, suc, ◌+◌, eqb, leb, ltb, length, Result, Ok, Err}
use Rattle.circuit.specs.declared.Cic.{Cic}
use Rattle.circuit.specs.Groups.{bad_group, controls}
use Rattle.circuit.specs.Refusals.{Rule, refuse, first_rule}
use Rattle.layout.specs.Layout.{records_in, state_at, flags_at, rank_at, record_of, allowed_at}
use Rattle.names.specs.declared.Refusal.{Refusal}
use Rattle.names.specs.Refusal.{number_of}
use Rattle.select.specs.declared.Choice.{Choice}
use Rattle.select.specs.First.{first, some, best}

-- what selection answers: the refusal's number, 0 where there is none; the circuit; how many records were looked at
pub record Selected : Type 0 where
  pub refusal : ℕ
  pub cic : Cic
  pub looked : ℕ

-- each refusal reports circuit 0 and count 0
abbrev pub refused : (n : ℕ) → Selected
refused n = record { refusal = n; cic = record { 0 = 0 }; looked = 0 }

abbrev pub taken : (cic looked : ℕ) → Selected
taken cic looked = record { refusal = 0; cic = record { 0 = cic }; looked = looked }

-- what the program's answers tell
abbrev pub choosing_of : Choice → Selected
choosing_of c = taken c.cic.0 c.looked

abbrev pub told : Result Choice Refusal → Selected
told (Ok c) = choosing_of c
told (Err e) = refused (number_of e)

-- the idle circuits without far block
abbrev pub free : (state flags : ℕ) → Bool
free s f = eqb s 0 && not (record_of s f).far

abbrev pub qualifies : List ℕ → ℕ → Bool
qualifies table i = free (state_at table i) (flags_at table i)

-- that we control (mine); those we do not control
abbrev pub ours : (mine : ℕ → Bool) → List ℕ → ℕ → Bool
ours mine table i = qualifies table i && mine i

abbrev pub theirs : (mine : ℕ → Bool) → List ℕ → ℕ → Bool
theirs mine table i = qualifies table i && not (mine i)

-- released earlier, released later; equal ranks go to the lower CIC
abbrev pub earlier : List ℕ → (i j : ℕ) → Bool
earlier table i j = ltb (rank_at table i) (rank_at table j) || (eqb (rank_at table i) (rank_at table j) && leb i j)

abbrev pub later : List ℕ → (i j : ℕ) → Bool
later table i j = ltb (rank_at table j) (rank_at table i) || (eqb (rank_at table i) (rank_at table j) && leb i j)

-- how many records were looked at: the whole table, unless a qualifying one of our own with rank 0 is found, where it stops
abbrev pub stops : (mine : ℕ → Bool) → List ℕ → ℕ → Bool
stops mine table i = ours mine table i && eqb (rank_at table i) 0

abbrev pub looked : (mine : ℕ → Bool) → List ℕ → (n : ℕ) → ℕ
looked mine table n = cond (some n (stops mine table)) (first n (stops mine table) + 1) n

-- of n circuits: first, of ours, the one released longest ago; if there are none, of theirs, the one released latest
unfoldable pub choice : (mine : ℕ → Bool) → List ℕ → (n : ℕ) → Selected
choice mine table n =
    cond (some n (ours mine table)) (taken (best n (ours mine table) (earlier table)) (looked mine table n))
    (taken (best n (theirs mine table) (later table)) n)

-- a record that is not legal
abbrev pub bad : List ℕ → ℕ → Bool
bad table i = not (allowed_at table i)

-- 1; then 12 for any bad record of the table; then 14 if no circuit qualifies
abbrev pub select_rules : (own far : ℕ) → List ℕ → List Rule
select_rules own far table =
    refuse 1 (bad_group own far (records_in (length table)))
    ∷ refuse 12 (some (records_in (length table)) (bad table))
    ∷ refuse 14 (not (some (records_in (length table)) (qualifies table)))
    ∷ []

-- by the refusal, 0 for none
abbrev pub choosing : (refusal : ℕ) → Selected → Selected
choosing zero s = s
choosing (suc n) s = refused (suc n)

unfoldable pub select_in : (own far : ℕ) → List ℕ → Selected
select_in own far table = choosing (first_rule (select_rules own far table)) (choice (controls own far) table (records_in (length table)))
