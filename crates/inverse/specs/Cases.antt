-- Cases: P10 of docs/RULES.md, and messages that are read and written or refused, each with what is wanted.
-- Assumes nothing.
use Rattle.std.specs.Prelude.{List, [], ◌∷◌, ◌++◌, ℕ, replicate}
use Rattle.writer.specs.Writing.{Said, said}

-- a message of the exchange 2 to the exchange 1, and its octets
pub record Written : Type 0 where
  pub says : Said
  pub octets : List ℕ

-- the octets of a message between them on circuit 3, from the heading on
abbrev pub from3 : List ℕ → List ℕ
from3 rest = 0x01 ∷ 0x80 ∷ 0x00 ∷ 0x30 ∷ 0x00 ∷ rest

-- the first is P10
unfoldable pub written_cases : List Written
written_cases =
    record { says = said 3 0x46 0 0 0 []; octets = 0x01 ∷ 0x80 ∷ 0x00 ∷ 0x30 ∷ 0x00 ∷ 0x46 ∷ [] }
    ∷ record { says = said 3 0x14 5 0 0 []; octets = from3 (0x14 ∷ 0x05 ∷ []) }
    ∷ record { says = said 3 0x11 0 10 2 (1 ∷ 2 ∷ 15 ∷ []); octets = from3 (0x11 ∷ 0x0a ∷ 0x02 ∷ 0x30 ∷ 0x21 ∷ 0x0f ∷ []) }
    ∷ []

-- octets that the exchange 1 reads from the exchange 2 in a group of so many records, the refusal, 0 for none, and its place
pub record Arrived : Type 0 where
  pub records : ℕ
  pub octets : List ℕ
  pub refusal : ℕ
  pub place : ℕ

-- those of short international numbers
unfoldable pub short_arrived : List Arrived
short_arrived =
    record { records = 3; octets = from3 (0x11 ∷ 0x0a ∷ 0x03 ∷ 0x30 ∷ 0x21 ∷ 0x03 ∷ []); refusal = 17; place = 8 }
    ∷ record { records = 4; octets = from3 (0x11 ∷ 0x0a ∷ 0x03 ∷ 0x40 ∷ 0x21 ∷ 0xf3 ∷ []); refusal = 17; place = 8 }
    ∷ record { records = 4; octets = from3 (0x11 ∷ 0x0a ∷ 0x03 ∷ 0x40 ∷ 0x21 ∷ 0x43 ∷ []); refusal = 0; place = 0 }
    ∷ record { records = 4; octets = from3 (0x11 ∷ 0x0a ∷ 0x03 ∷ 0x10 ∷ 0x0f ∷ []); refusal = 17; place = 8 }
    ∷ record { records = 4; octets = from3 (0x11 ∷ 0x0a ∷ 0x03 ∷ 0x10 ∷ 0x0b ∷ []); refusal = 0; place = 0 }
    ∷ record { records = 4; octets = from3 (0x11 ∷ 0x0a ∷ 0x03 ∷ 0x20 ∷ 0xfc ∷ []); refusal = 0; place = 0 }
    ∷ record { records = 4; octets = from3 (0x11 ∷ 0x0a ∷ 0x03 ∷ 0x30 ∷ 0xb1 ∷ 0x02 ∷ []); refusal = 17; place = 8 }
    ∷ record { records = 4; octets = from3 (0x11 ∷ 0x0a ∷ 0x03 ∷ 0x20 ∷ 0xa1 ∷ []); refusal = 10; place = 9 }
    ∷ record { records = 4; octets = from3 (0x11 ∷ 0x0a ∷ 0x02 ∷ 0x10 ∷ 0x01 ∷ []); refusal = 0; place = 0 }
    ∷ record { records = 4; octets = from3 (0x11 ∷ 0x0a ∷ 0x07 ∷ 0x30 ∷ 0x21 ∷ 0x03 ∷ []); refusal = 17; place = 8 }
    ∷ record { records = 4; octets = from3 (0x11 ∷ 0x0a ∷ 0x0b ∷ 0x30 ∷ 0x21 ∷ 0x03 ∷ []); refusal = 17; place = 8 }
    ∷ record { records = 4; octets = from3 (0x11 ∷ 0x0a ∷ 0xff ∷ 0x37 ∷ 0x21 ∷ 0x03 ∷ []); refusal = 17; place = 8 }
    ∷ []

unfoldable pub arrived_cases : List Arrived
arrived_cases =
    record { records = 4; octets = from3 (0x46 ∷ []); refusal = 0; place = 0 }
    ∷ record { records = 3; octets = from3 (0x46 ∷ []); refusal = 2; place = 3 }
    ∷ record { records = 3; octets = from3 (0x46 ∷ 0x00 ∷ []); refusal = 7; place = 7 }
    ∷ record { records = 4; octets = 0x02 ∷ 0x80 ∷ 0x00 ∷ 0x30 ∷ 0x00 ∷ []; refusal = 7; place = 5 }
    ∷ record { records = 4; octets = 0x02 ∷ 0x80 ∷ 0x00 ∷ 0x30 ∷ 0x00 ∷ 0x46 ∷ []; refusal = 8; place = 0 }
    ∷ record { records = 4; octets = from3 (0x21 ∷ 0x00 ∷ []); refusal = 9; place = 5 }
    ∷ record { records = 4; octets = from3 (0x14 ∷ []); refusal = 7; place = 6 }
    ∷ record { records = 4; octets = from3 (0x14 ∷ 0xff ∷ []); refusal = 0; place = 0 }
    ∷ record { records = 4; octets = from3 (0x11 ∷ 0x0a ∷ 0x03 ∷ []); refusal = 7; place = 8 }
    ∷ record { records = 4; octets = from3 (0x11 ∷ 0x0a ∷ 0x03 ∷ 0x00 ∷ []); refusal = 10; place = 8 }
    ∷ record { records = 4; octets = from3 (0x11 ∷ 0x0a ∷ 0x03 ∷ 0x00 ∷ 0x11 ∷ 0x22 ∷ []); refusal = 10; place = 8 }
    ∷ record { records = 4; octets = from3 (0x11 ∷ 0x0a ∷ 0x03 ∷ 0x10 ∷ []); refusal = 7; place = 9 }
    ∷ record { records = 3; octets = from3 (0x11 ∷ 0x0a ∷ 0x03 ∷ 0x10 ∷ 0x0a ∷ []); refusal = 10; place = 9 }
    ∷ record { records = 4; octets = from3 (0x11 ∷ 0x0a ∷ 0x02 ∷ 0x10 ∷ 0x0f ∷ []); refusal = 0; place = 0 }
    ∷ record { records = 4; octets = from3 (0x11 ∷ 0x0a ∷ 0x03 ∷ 0x20 ∷ 0x1f ∷ []); refusal = 10; place = 9 }
    ∷ record { records = 4; octets = from3 (0x11 ∷ 0xca ∷ 0x02 ∷ 0x18 ∷ 0xa1 ∷ []); refusal = 0; place = 0 }
    ∷ record { records = 4; octets = 0x01 ∷ 0xc0 ∷ 0x00 ∷ 0x30 ∷ 0x00 ∷ 0x46 ∷ []; refusal = 8; place = 1 }
    ∷ record { records = 4; octets = 0x01 ∷ 0x81 ∷ 0x00 ∷ 0x30 ∷ 0x00 ∷ 0x46 ∷ []; refusal = 8; place = 0 }
    ∷ record { records = 4; octets = from3 (0x11 ∷ 0x0a ∷ 0x03 ∷ 0x30 ∷ 0xf1 ∷ 0x02 ∷ []); refusal = 10; place = 9 }
    ∷ record { records = 4; octets = from3 (0x11 ∷ 0x0a ∷ 0x03 ∷ 0x40 ∷ 0x21 ∷ 0x3f ∷ []); refusal = 10; place = 10 }
    ∷ record { records = 4; octets = from3 (0x11 ∷ 0x0a ∷ 0x03 ∷ 0x40 ∷ 0xa1 ∷ 0xda ∷ []); refusal = 10; place = 9 }
    ∷ record { records = 4; octets = []; refusal = 7; place = 0 }
    ∷ record { records = 4; octets = from3 (0x11 ∷ 0x0a ∷ 0x03 ∷ 0xf0 ∷ replicate 9 0x11); refusal = 7; place = 18 }
    ∷ short_arrived

-- a message that the exchange 2 is to write to the exchange 1 into a buffer of so many octets, and the refusal
pub record Ordered : Type 0 where
  pub says : Said
  pub room : ℕ
  pub refusal : ℕ

-- those of short international numbers
unfoldable pub short_ordered : List Ordered
short_ordered =
    record { says = said 3 0x11 0 10 3 (1 ∷ 2 ∷ 3 ∷ []); room = 9; refusal = 17 }
    ∷ record { says = said 3 0x11 0 10 3 (1 ∷ 2 ∷ 3 ∷ 15 ∷ []); room = 17; refusal = 17 }
    ∷ record { says = said 3 0x11 0 10 3 (1 ∷ 2 ∷ 3 ∷ 4 ∷ []); room = 17; refusal = 0 }
    ∷ record { says = said 3 0x11 0 10 3 (15 ∷ []); room = 17; refusal = 17 }
    ∷ record { says = said 3 0x11 0 10 3 (11 ∷ []); room = 17; refusal = 0 }
    ∷ record { says = said 3 0x11 0 10 3 (12 ∷ 15 ∷ []); room = 17; refusal = 0 }
    ∷ record { says = said 3 0x11 0 10 3 (1 ∷ 11 ∷ 2 ∷ []); room = 17; refusal = 17 }
    ∷ record { says = said 3 0x11 0 10 3 (1 ∷ 10 ∷ []); room = 17; refusal = 10 }
    ∷ record { says = said 3 0x11 0 10 2 (1 ∷ []); room = 17; refusal = 0 }
    ∷ record { says = said 3 0x11 0 10 7 (1 ∷ 2 ∷ 3 ∷ []); room = 17; refusal = 17 }
    ∷ record { says = said 3 0x11 0 10 11 (1 ∷ 2 ∷ 3 ∷ []); room = 17; refusal = 17 }
    ∷ record { says = said 3 0x11 0 10 2047 (1 ∷ 2 ∷ 3 ∷ []); room = 17; refusal = 17 }
    ∷ record { says = said 3 0x11 0 10 2051 (1 ∷ 2 ∷ 3 ∷ []); room = 17; refusal = 3 }
    ∷ []

unfoldable pub ordered_cases : List Ordered
ordered_cases =
    record { says = said 3 0x46 0 0 0 []; room = 6; refusal = 0 }
    ∷ record { says = said 4096 0x46 0 0 0 []; room = 6; refusal = 2 }
    ∷ record { says = said 4096 0 0 0 0 []; room = 6; refusal = 2 }
    ∷ record { says = said 3 0x21 64 0 0 []; room = 6; refusal = 9 }
    ∷ record { says = said 3 0x46 1 0 0 []; room = 6; refusal = 3 }
    ∷ record { says = said 3 0x14 64 0 0 []; room = 7; refusal = 3 }
    ∷ record { says = said 3 0x11 0 64 0 (1 ∷ []); room = 17; refusal = 3 }
    ∷ record { says = said 3 0x11 0 0 2048 (10 ∷ []); room = 17; refusal = 3 }
    ∷ record { says = said 3 0x11 0 0 0 (replicate 15 1 ++ (16 ∷ [])); room = 17; refusal = 3 }
    ∷ record { says = said 3 0x11 0 0 0 (replicate 16 1); room = 17; refusal = 10 }
    ∷ record { says = said 3 0x11 0 0 0 []; room = 17; refusal = 10 }
    ∷ record { says = said 3 0x11 0 0 0 (15 ∷ 1 ∷ []); room = 17; refusal = 10 }
    ∷ record { says = said 3 0x11 0 0 0 (15 ∷ []); room = 10; refusal = 0 }
    ∷ record { says = said 3 0x11 0 0 0 (1 ∷ []); room = 9; refusal = 11 }
    ∷ short_ordered
