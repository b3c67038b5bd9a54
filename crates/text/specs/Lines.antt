-- The lines that a replay prints (docs/RULES.md, "The trace and its replay"), and those of a list of messages, as octets.
-- Assumes nothing.
use Rattle.std.specs.Prelude.{cond, List, [], ◌∷◌, ◌++◌, map, ℕ, ◌%◌, eqb, ltb, length}
use Rattle.text.specs.declared.Line.{Line}
use Rattle.text.specs.Numbers.{decimal, hex_digit, hex}

-- a number and the space behind it
unfoldable pub field : ℕ → List ℕ
field n = decimal n ++ (32 ∷ [])

-- "- "
abbrev pub no_field : List ℕ
no_field = 45 ∷ 32 ∷ []

-- state and flags; refusal 2 prints "-" for both
unfoldable pub state_and_flags : Line → List ℕ
state_and_flags l = cond (eqb l.refusal 2) (no_field ++ no_field) (field l.held.state ++ field l.held.flags)

-- the headings sent in order, joined by a comma, "-" for none; 0 stands for no heading
unfoldable pub headings : ℕ → ℕ → List ℕ
headings first second = cond (eqb first 0) (45 ∷ []) (cond (eqb second 0) (hex first) (hex first ++ (44 ∷ hex second)))

-- an event's line: ordinal, circuit, refusal, state, flags, indication, headings sent
unfoldable pub line : Line → List ℕ
line l =
    field l.ordinal ++ (field l.circuit ++ (field l.refusal ++ (state_and_flags l ++ (field l.ind ++
    (headings l.first l.second ++ (10 ∷ []))))))

-- "own O far F circuits N"
unfoldable pub group_line : ℕ → ℕ → ℕ → List ℕ
group_line own far circuits =
    (111 ∷ 119 ∷ 110 ∷ 32 ∷ []) ++ (field own ++
    ((102 ∷ 97 ∷ 114 ∷ 32 ∷ []) ++ (field far ++
    ((99 ∷ 105 ∷ 114 ∷ 99 ∷ 117 ∷ 105 ∷ 116 ∷ 115 ∷ 32 ∷ []) ++ (decimal circuits ++ (10 ∷ []))))))

-- "end N"
unfoldable pub end_line : ℕ → List ℕ
end_line events = (101 ∷ 110 ∷ 100 ∷ 32 ∷ []) ++ (decimal events ++ (10 ∷ []))

-- "cut N"
unfoldable pub cut_line : ℕ → List ℕ
cut_line next = (99 ∷ 117 ∷ 116 ∷ 32 ∷ []) ++ (decimal next ++ (10 ∷ []))

-- "bad group"
abbrev pub bad_group_line : List ℕ
bad_group_line = 98 ∷ 97 ∷ 100 ∷ 32 ∷ 103 ∷ 114 ∷ 111 ∷ 117 ∷ 112 ∷ 10 ∷ []

-- ---- a list of messages

-- a message that was refused: ordinal, refusal, place, "- - -"
unfoldable pub refused_line : (ordinal refusal place : ℕ) → List ℕ
refused_line ordinal refusal place = field ordinal ++ (field refusal ++ (field place ++ (no_field ++ (no_field ++ (45 ∷ 10 ∷ [])))))

-- one that was read: ordinal, "0 0", circuit, heading; then its fields
unfoldable pub read_start : (ordinal circuit heading : ℕ) → List ℕ
read_start ordinal circuit heading = field ordinal ++ ((48 ∷ 32 ∷ 48 ∷ 32 ∷ []) ++ (field circuit ++ (hex heading ++ (32 ∷ []))))

-- no fields of its own: "-"
unfoldable pub plain_line : (ordinal circuit heading : ℕ) → List ℕ
plain_line ordinal circuit heading = read_start ordinal circuit heading ++ (45 ∷ 10 ∷ [])

-- an ACM: its octet
unfoldable pub acm_line : (ordinal circuit heading acm : ℕ) → List ℕ
acm_line ordinal circuit heading acm = read_start ordinal circuit heading ++ (decimal acm ++ (10 ∷ []))

-- an IAM: category, indicators and address signals, joined by commas, a hexadecimal digit for each signal; no message has more than 15 of these
unfoldable pub signals : List ℕ → List ℕ
signals address = map (λ d. hex_digit (d % 16)) address

unfoldable pub iam_line : (ordinal circuit heading category indicators : ℕ) → List ℕ → List ℕ
iam_line ordinal circuit heading category indicators address =
    cond (ltb 15 (length address)) []
    (read_start ordinal circuit heading ++ ((decimal category ++ (44 ∷ [])) ++ ((decimal indicators ++ (44 ∷ [])) ++ (signals address ++ (10 ∷ [])))))
