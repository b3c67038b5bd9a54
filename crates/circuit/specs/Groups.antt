-- A group (docs/RULES.md, "Group and circuits"): which are refused 1, and which end controls a circuit.
-- Assumes nothing.
use Rattle.std.specs.Prelude.{Bool, cond, ◌||◌, ℕ, ◌%◌, eqb, ltb}

-- a point code is 0..16383
abbrev pub bad_code : ℕ → Bool
bad_code code = ltb 16383 code

-- refusal 1: a point code above 16383, codes equal, or 0 or more than 4096 records
abbrev pub bad_codes : ℕ → ℕ → Bool
bad_codes own far = bad_code own || bad_code far || eqb own far

abbrev pub bad_group : ℕ → ℕ → ℕ → Bool
bad_group own far records = bad_codes own far || (eqb records 0 || ltb 4096 records)

-- the exchange with the higher point code is controlling for even circuits, the other for odd ones (Q.724, 2.5)
abbrev pub lowest : ℕ → ℕ → ℕ
lowest own far = cond (ltb far own) 0 1

abbrev pub by_parity : (first : ℕ) → ℕ → Bool
by_parity first cic = eqb (cic % 2) first

abbrev pub controls : ℕ → ℕ → ℕ → Bool
controls own far cic = by_parity (lowest own far) cic
