-- What an event on a circuit answers, and that as one number: an octet to a field, lowest first: refusal, indication, state, flags, first and
-- second heading sent (0 for none).
-- Assumes nothing.
use Rattle.std.specs.Prelude.{◌≡◌, [], ◌∷◌, ℕ, ◌/◌, ◌%◌}
use Rattle.circuit.specs.declared.Sends.{Sends}
use Rattle.circuit.specs.declared.Sends.TheVariants.{Nothing}
use Rattle.codes.specs.Headings.{first_heading, second_heading}
use Rattle.words.specs.Octets.{number_of}

-- the refusal, 0 where there is none; the record's state and flags after the event; the signals; the indication
pub record Answer : Type 0 where
  pub refusal : ℕ
  pub state : ℕ
  pub flags : ℕ
  pub sends : Sends
  pub ind : ℕ

-- a refusal sends nothing, gives indication 0 and changes nothing lent
abbrev pub refusal : (n state flags : ℕ) → Answer
refusal n s f = record { refusal = n; state = s; flags = f; sends = Nothing; ind = 0 }

abbrev pub word : (refusal ind state flags first second : ℕ) → ℕ
word n i s f a b = number_of (n ∷ i ∷ s ∷ f ∷ a ∷ b ∷ [])

abbrev pub packed : Answer → ℕ
packed a = word a.refusal a.ind a.state a.flags (first_heading a.sends) (second_heading a.sends)

-- the number determines the answer: each field comes back from it
pub record Unpacked (r : ℕ) (a : Answer) : Type 0 where
  pub refusal : r % 256 ≡ a.refusal
  pub ind : r / 0x100 % 256 ≡ a.ind
  pub state : r / 0x10000 % 256 ≡ a.state
  pub flags : r / 0x1000000 % 256 ≡ a.flags
  pub first : r / 0x100000000 % 256 ≡ first_heading a.sends
  pub second : r / 0x10000000000 % 256 ≡ second_heading a.sends
