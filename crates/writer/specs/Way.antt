-- The way the writer's program goes: the octets of a message one after the other, and what is left to do once its first tests are passed. Only
-- contracts of private functions cite it, and no promise leans on it.
-- Assumes nothing.
use Rattle.std.specs.Prelude.{Bool, cond, ◌||◌, List, [], ◌∷◌, ◌++◌, ℕ, ◌+◌, ◌*◌, ◌^◌, ltb, length}
use Rattle.circuit.specs.Refusals.{refuse, first_rule}
use Rattle.formats.specs.Messages.{iam_heading, acm_heading, is_iam, is_acm}
use Rattle.formats.specs.Octets.{above_fifteen, short}
use Rattle.formats.specs.Way.{pairs}
use Rattle.words.specs.Octets.{low_first}
use Rattle.writer.specs.Writing.{Said, bad_address, Written, Outcome, putting}

-- the tests of the fields, each against the limit that it has by the heading
abbrev pub over_limits : Said → Bool
over_limits m =
    ltb (cond (is_acm m.heading) 63 0) m.acm
    || ltb (cond (is_iam m.heading) 63 0) m.category
    || ltb (cond (is_iam m.heading) 2047 0) m.indicators
    || cond (is_iam m.heading) (above_fifteen m.address) (ltb 0 (length m.address))

-- the label as a number
abbrev pub label_of : (own far cic : ℕ) → ℕ
label_of own far cic = far + 2 ^ 14 * own + 2 ^ 28 * cic

abbrev pub plain_octets : (label heading : ℕ) → List ℕ
plain_octets label heading = low_first 5 label ++ (heading ∷ [])

abbrev pub acm_octets : (label acm : ℕ) → List ℕ
acm_octets label acm = low_first 5 label ++ (acm_heading ∷ acm ∷ [])

-- an IAM up to its address signals: indicators and count are one number of two octets
abbrev pub iam_head : (label category word : ℕ) → List ℕ
iam_head label category word = low_first 5 label ++ (iam_heading ∷ category ∷ low_first 2 word)

abbrev pub iam_octets : (label category indicators : ℕ) → List ℕ → List ℕ
iam_octets label category indicators address = iam_head label category (indicators + 4096 * length address) ++ pairs address

abbrev pub short_octets : (label heading acm : ℕ) → List ℕ
short_octets label heading acm = cond (is_acm heading) (acm_octets label acm) (plain_octets label heading)

abbrev pub outcome : Written → List ℕ → Outcome
outcome answer buffer = record { answer = answer; buffer = buffer }

-- an IAM whose fields are in order: three tests are left
unfoldable pub iam_writing : (label category indicators : ℕ) → List ℕ → List ℕ → Outcome
iam_writing label category indicators address buffer =
    putting
    (first_rule
    (refuse 10 (bad_address address) ∷ refuse 17 (short indicators address) ∷ refuse 11 (ltb (length buffer) (length (iam_octets label category indicators address))) ∷ []))
    (iam_octets label category indicators address) buffer

-- any other message whose fields are in order: one test is left
unfoldable pub short_writing : (label heading acm : ℕ) → List ℕ → Outcome
short_writing label heading acm buffer = putting (first_rule (refuse 11 (ltb (length buffer) (length (short_octets label heading acm))) ∷ [])) (short_octets label heading acm) buffer
