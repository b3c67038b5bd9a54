-- The program's test of a table's length, apart from the group's codes. The contract of `layout::bad_length` cites it; no promise leans on it.
-- Assumes nothing.
use Rattle.std.specs.Prelude.{Bool, ◌||◌, ℕ, eqb, ltb}
use Rattle.layout.specs.Layout.{records_in}

-- none or more than 4096 records are no group's (refusal 1)
abbrev pub bad_length : (octets : ℕ) → Bool
bad_length octets = eqb (records_in octets) 0 || ltb 4096 (records_in octets)
