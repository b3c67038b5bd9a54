-- What the writer answers, and what the buffer holds then (docs/RULES.md, "Messages on the link" and "Refusals").
-- Assumes nothing.
use Rattle.std.specs.Prelude.{Bool, cond, not, ◌&&◌, ◌||◌, List, [], ◌∷◌, ℕ, zero, suc, ltb, length, Result, Ok, Err}
use Rattle.circuit.specs.Groups.{bad_group}
use Rattle.writer.specs.declared.Draft.{Draft}
use Rattle.circuit.specs.Refusals.{refuse, Rule, first_rule}
use Rattle.names.specs.declared.Refusal.{Refusal}
use Rattle.names.specs.Refusal.{number_of}
use Rattle.formats.specs.Format.{Name, DPC, OPC, CIC, HEADING, ACM, CATEGORY, INDICATORS, COUNT, Format, Content, octets_from, most}
use Rattle.formats.specs.Messages.{format_of, signals_behind, has_signals, listed}
use Rattle.formats.specs.Octets.{above_fifteen, short}
use Rattle.words.specs.Octets.{over}
-- a count of 0 or above 15, a spare code, ST before the end
unfoldable pub use Rattle.formats.specs.Octets.{bad_address}

-- what the writer is told to say
pub record Said : Type 0 where
  pub cic : ℕ
  pub heading : ℕ
  pub acm : ℕ
  pub category : ℕ
  pub indicators : ℕ
  pub address : List ℕ

abbrev pub said : ℕ → ℕ → ℕ → ℕ → ℕ → List ℕ → Said
said cic heading acm category indicators address = record { cic = cic; heading = heading; acm = acm; category = category; indicators = indicators; address = address }

-- what the program is told to say
abbrev pub said_by : Draft → Said
said_by m = said m.cic.0 m.heading m.acm m.category m.indicators m.address.now

-- a field is too large or has a spare bit set; of a message with address signals also a code above 15, of any other any address
abbrev pub too_large_for : Format → Said → Bool
too_large_for f m =
    ltb (most f.fields ACM) m.acm
    || ltb (most f.fields CATEGORY) m.category
    || ltb (most f.fields INDICATORS) m.indicators
    || cond (signals_behind f.behind) (above_fifteen m.address) (ltb 0 (length m.address))

unfoldable pub too_large : Said → Bool
too_large m = too_large_for (format_of m.heading) m

-- what stands in the fields: the far code in DPC and the own code in OPC
abbrev pub saying : (own far : ℕ) → Said → Name → ℕ
saying own far m DPC = far
saying own far m OPC = own
saying own far m CIC = m.cic
saying own far m HEADING = m.heading
saying own far m ACM = m.acm
saying own far m CATEGORY = m.category
saying own far m INDICATORS = m.indicators
saying own far m COUNT = length m.address

abbrev pub content_said : (own far : ℕ) → Said → Content
content_said own far m = record { says = saying own far m; signals = m.address }

-- the octets of a message, by its format
unfoldable pub octets_of : (own far : ℕ) → Said → List ℕ
octets_of own far m = octets_from (format_of m.heading) (content_said own far m)

-- the writer's refusals, in order
abbrev pub write_rules : ℕ → ℕ → ℕ → Said → ℕ → List Rule
write_rules own far records m room =
    refuse 1 (bad_group own far records)
    ∷ refuse 2 (ltb 4095 m.cic)
    ∷ refuse 9 (not (listed m.heading))
    ∷ refuse 3 (too_large m)
    ∷ refuse 10 (has_signals m.heading && bad_address m.address)
    ∷ refuse 17 (has_signals m.heading && short m.indicators m.address)
    ∷ refuse 11 (ltb room (length (octets_of own far m)))
    ∷ []

-- the refusal's number, 0 where there is none, and how many octets the message has, 0 where it is refused
pub record Written : Type 0 where
  pub refusal : ℕ
  pub length : ℕ

-- the answer, and the buffer after it
pub record Outcome : Type 0 where
  pub answer : Written
  pub buffer : List ℕ

-- a refusal leaves the buffer as it was
abbrev pub unwritten : ℕ → Written
unwritten n = record { refusal = n; length = 0 }

-- the octets stand at the start of the buffer
abbrev pub putting : ℕ → List ℕ → List ℕ → Outcome
putting zero xs buffer = record { answer = record { refusal = 0; length = length xs }; buffer = over xs buffer }
putting (suc n) xs buffer = record { answer = unwritten (suc n); buffer = buffer }

unfoldable pub writing : ℕ → ℕ → ℕ → Said → List ℕ → Outcome
writing own far records m buffer = putting (first_rule (write_rules own far records m (length buffer))) (octets_of own far m) buffer

-- what the program's answer says in numbers
abbrev pub told : Result ℕ Refusal → Written
told (Ok n) = record { refusal = 0; length = n }
told (Err e) = unwritten (number_of e)
