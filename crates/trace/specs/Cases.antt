-- Document 01's whole case ("The trace and its replay"): the octets of its trace, and the text that it must give.
-- Assumes nothing.
use Rattle.std.specs.Prelude.{List, [], ◌∷◌, ℕ}

-- the whole case of docs/RULES.md: a record a line
abbrev pub whole_case : List ℕ
whole_case =
    0x00 ∷ 0x02 ∷ 0x00 ∷ 0x01 ∷ 0x00 ∷ 0x02 ∷ 0x00 ∷
    0x02 ∷ 0x01 ∷ 0x00 ∷ 0x01 ∷ 0x00 ∷
    0x01 ∷ 0x01 ∷ 0x00 ∷ 0x11 ∷ 0x00 ∷
    0x02 ∷ 0x01 ∷ 0x00 ∷ 0x03 ∷ 0x05 ∷
    0x01 ∷ 0x01 ∷ 0x00 ∷ 0x46 ∷ 0x00 ∷
    0x02 ∷ 0x01 ∷ 0x00 ∷ 0x02 ∷ 0x00 ∷
    []

-- and its text, a line a line
abbrev pub whole_text : List ℕ
whole_text =
    111 ∷ 119 ∷ 110 ∷ 32 ∷ 50 ∷ 32 ∷ 102 ∷ 97 ∷ 114 ∷ 32 ∷ 49 ∷ 32 ∷ 99 ∷ 105 ∷ 114 ∷ 99 ∷ 117 ∷ 105 ∷ 116 ∷ 115 ∷ 32 ∷ 50 ∷ 10 ∷
    49 ∷ 32 ∷ 49 ∷ 32 ∷ 48 ∷ 32 ∷ 49 ∷ 32 ∷ 48 ∷ 32 ∷ 48 ∷ 32 ∷ 49 ∷ 49 ∷ 10 ∷
    50 ∷ 32 ∷ 49 ∷ 32 ∷ 48 ∷ 32 ∷ 54 ∷ 32 ∷ 48 ∷ 32 ∷ 57 ∷ 32 ∷ 45 ∷ 10 ∷
    51 ∷ 32 ∷ 49 ∷ 32 ∷ 48 ∷ 32 ∷ 56 ∷ 32 ∷ 48 ∷ 32 ∷ 48 ∷ 32 ∷ 49 ∷ 52 ∷ 10 ∷
    52 ∷ 32 ∷ 49 ∷ 32 ∷ 48 ∷ 32 ∷ 48 ∷ 32 ∷ 48 ∷ 32 ∷ 53 ∷ 32 ∷ 49 ∷ 55 ∷ 10 ∷
    53 ∷ 32 ∷ 49 ∷ 32 ∷ 53 ∷ 32 ∷ 48 ∷ 32 ∷ 48 ∷ 32 ∷ 48 ∷ 32 ∷ 45 ∷ 10 ∷
    101 ∷ 110 ∷ 100 ∷ 32 ∷ 53 ∷ 10 ∷
    []
