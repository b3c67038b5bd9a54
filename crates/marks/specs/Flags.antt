-- The marks of a circuit as an octet of flags (docs/RULES.md, "Records"): 1 own block, 2 far block, 4 awaiting BLA, 8 awaiting UBA.
-- Assumes nothing.
use Rattle.std.specs.Prelude.{Bool, cond, ℕ, ◌+◌, ◌/◌, ◌%◌, eqb}
use Rattle.marks.specs.declared.Flags.{Flags}

abbrev pub bit : Bool → ℕ → ℕ
bit set worth = cond set worth 0

abbrev pub flags : (own far bla uba : Bool) → ℕ
flags own far bla uba = bit own 1 + bit far 2 + bit bla 4 + bit uba 8

abbrev pub own : ℕ → Bool
own f = eqb (f % 2) 1

abbrev pub far : ℕ → Bool
far f = eqb (f / 2 % 2) 1

abbrev pub bla : ℕ → Bool
bla f = eqb (f / 4 % 2) 1

abbrev pub uba : ℕ → Bool
uba f = eqb (f / 8 % 2) 1

-- an octet's flags by name; its higher bits are none
abbrev pub flags_in : ℕ → Flags
flags_in f = record { own = own f; far = far f; bla = bla f; uba = uba f }

abbrev pub octet_of : Flags → ℕ
octet_of f = flags f.own f.far f.bla f.uba
