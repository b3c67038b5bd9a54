-- The case of docs/RULES.md, "A file of messages": the octets of its file, and the text that it must give.
-- Assumes nothing.
use Rattle.std.specs.Prelude.{List, [], ◌∷◌, ℕ}

-- the group, and a message a line
abbrev pub messages_case : List ℕ
messages_case =
    0x00 ∷ 0x01 ∷ 0x00 ∷ 0x02 ∷ 0x00 ∷ 0x04 ∷ 0x00 ∷
    0x06 ∷ 0x01 ∷ 0x80 ∷ 0x00 ∷ 0x30 ∷ 0x00 ∷ 0x46 ∷
    0x07 ∷ 0x01 ∷ 0x80 ∷ 0x00 ∷ 0x20 ∷ 0x00 ∷ 0x14 ∷ 0x05 ∷
    0x0b ∷ 0x01 ∷ 0x80 ∷ 0x00 ∷ 0x30 ∷ 0x00 ∷ 0x11 ∷ 0x0a ∷ 0x02 ∷ 0x30 ∷ 0x21 ∷ 0x0f ∷
    0x06 ∷ 0x01 ∷ 0x40 ∷ 0x00 ∷ 0x30 ∷ 0x00 ∷ 0x46 ∷
    0x0b ∷ 0x01 ∷ 0x80 ∷ 0x00 ∷ 0x30 ∷ 0x00 ∷ 0x11 ∷ 0x0a ∷ 0x03 ∷ 0x40 ∷ 0x21 ∷ 0x3f ∷
    0x00 ∷
    0x07 ∷ 0x01 ∷ 0x80 ∷ 0x00 ∷ 0x30 ∷ 0x00 ∷ 0x14 ∷
    []

-- and its text, a line a line
abbrev pub messages_text : List ℕ
messages_text =
    111 ∷ 119 ∷ 110 ∷ 32 ∷ 49 ∷ 32 ∷ 102 ∷ 97 ∷ 114 ∷ 32 ∷ 50 ∷ 32 ∷ 99 ∷ 105 ∷ 114 ∷ 99 ∷ 117 ∷ 105 ∷ 116 ∷ 115 ∷ 32 ∷ 52 ∷ 10 ∷
    49 ∷ 32 ∷ 48 ∷ 32 ∷ 48 ∷ 32 ∷ 51 ∷ 32 ∷ 52 ∷ 54 ∷ 32 ∷ 45 ∷ 10 ∷
    50 ∷ 32 ∷ 48 ∷ 32 ∷ 48 ∷ 32 ∷ 50 ∷ 32 ∷ 49 ∷ 52 ∷ 32 ∷ 53 ∷ 10 ∷
    51 ∷ 32 ∷ 48 ∷ 32 ∷ 48 ∷ 32 ∷ 51 ∷ 32 ∷ 49 ∷ 49 ∷ 32 ∷ 49 ∷ 48 ∷ 44 ∷ 50 ∷ 44 ∷ 49 ∷ 50 ∷ 102 ∷ 10 ∷
    52 ∷ 32 ∷ 56 ∷ 32 ∷ 49 ∷ 32 ∷ 45 ∷ 32 ∷ 45 ∷ 32 ∷ 45 ∷ 10 ∷
    53 ∷ 32 ∷ 49 ∷ 48 ∷ 32 ∷ 49 ∷ 48 ∷ 32 ∷ 45 ∷ 32 ∷ 45 ∷ 32 ∷ 45 ∷ 10 ∷
    54 ∷ 32 ∷ 55 ∷ 32 ∷ 48 ∷ 32 ∷ 45 ∷ 32 ∷ 45 ∷ 32 ∷ 45 ∷ 10 ∷
    99 ∷ 117 ∷ 116 ∷ 32 ∷ 55 ∷ 10 ∷
    []
