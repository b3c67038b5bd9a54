-- What the reader answers (docs/RULES.md, "Messages on the link" and "Refusals").
-- Assumes nothing.
use Rattle.std.specs.Prelude.{Bool, cond, not, ◌&&◌, ◌||◌, List, [], ◌∷◌, ℕ, eqb, leb, ltb, length}
use Rattle.circuit.specs.Groups.{bad_group}
use Rattle.circuit.specs.Refusals.{Rule}
use Rattle.formats.specs.Octets.{bad_codes, first_bad, short}
use Rattle.words.specs.Octets.{over}
use Rattle.formats.specs.Format.{Format, Content, octets_for, field_octet, signal_octet, content_in, DPC, OPC, CIC, HEADING, ACM, CATEGORY, INDICATORS, COUNT}
use Rattle.formats.specs.Messages.{head, format_of, signals_behind, listed}
use Rattle.reader.specs.Faults.{Fault, fault, rules_of}
use Rattle.reader.specs.Told.{Told, Reading, no_codes, refused, named}
use Rattle.reader.specs.Places.{dpc_in, opc_in, cic_in, heading_in, field_by, signals_by}

-- DPC is not the own code or OPC not the far one
abbrev pub elsewhere : ℕ → ℕ → List ℕ → Bool
elsewhere own far xs = not (eqb (dpc_in xs) own) || not (eqb (opc_in xs) far)

-- a length that no message of the format has, whatever its count: under the octets of its fields where address signals lie behind them, else any other
abbrev pub unfit_by : Format → (length : ℕ) → Bool
unfit_by f len = cond (signals_behind f.behind) (ltb len (octets_for f 0)) (not (eqb len (octets_for f 0)))

-- a length that does not fit the heading: an IAM under 9 octets, an ACM not of 7, any other not of 6
abbrev pub unfit : (heading length : ℕ) → Bool
unfit heading len = unfit_by (format_of heading) len

-- where a label is wrong: at DPC, and where that is right at OPC
abbrev pub stray_octet : ℕ → List ℕ → ℕ
stray_octet own xs = cond (eqb (dpc_in xs) own) (field_octet head OPC) (field_octet head DPC)

-- what is wrong with a message by its format, label and heading being in order
abbrev pub format_faults : (records : ℕ) → Format → List ℕ → List Fault
format_faults records f xs =
    fault 7 (unfit_by f (length xs)) (length xs)
    ∷ fault 10 (signals_behind f.behind && eqb (field_by f COUNT xs) 0) (field_octet f.fields COUNT)
    ∷ fault 7 (signals_behind f.behind && not (eqb (length xs) (octets_for f (field_by f COUNT xs)))) (length xs)
    ∷ fault 10 (signals_behind f.behind && bad_codes (signals_by f xs)) (signal_octet f (first_bad (signals_by f xs)))
    ∷ fault 17 (signals_behind f.behind && short (field_by f INDICATORS xs) (signals_by f xs)) (field_octet f.fields COUNT)
    ∷ fault 2 (leb records (cic_in xs)) (field_octet head CIC)
    ∷ []

-- with a message whose label is in order, by its heading
abbrev pub body_faults : (records heading : ℕ) → List ℕ → List Fault
body_faults records heading xs =
    fault 9 (not (listed heading)) (field_octet head HEADING)
    ∷ format_faults records (format_of heading) xs

-- what the reader looks for, in order: the refusal, its test, and the place that it names, which is the position of an octet, of a wrong length the
-- length itself, and where there is no group 0
abbrev pub read_faults : ℕ → ℕ → ℕ → List ℕ → List Fault
read_faults own far records xs =
    fault 1 (bad_group own far records) 0
    ∷ fault 7 (ltb (length xs) 6) (length xs)
    ∷ fault 8 (elsewhere own far xs) (stray_octet own xs)
    ∷ body_faults records (heading_in xs) xs

-- the same as rules, without their places
abbrev pub format_rules : (records : ℕ) → Format → List ℕ → List Rule
format_rules records f xs = rules_of (format_faults records f xs)

abbrev pub body_rules : (records heading : ℕ) → List ℕ → List Rule
body_rules records heading xs = rules_of (body_faults records heading xs)

abbrev pub read_rules : ℕ → ℕ → ℕ → List ℕ → List Rule
read_rules own far records xs = rules_of (read_faults own far records xs)

-- what a message says; a place of the address that is not used is 0
abbrev pub fields_from : (heading : ℕ) → Content → Told
fields_from heading c = record {
  refusal = 0;
  place = 0;
  circuit = record { 0 = c.says CIC };
  heading = heading;
  acm = c.says ACM;
  category = c.says CATEGORY;
  indicators = c.says INDICATORS;
  count = c.says COUNT;
  address = over c.signals no_codes;
}

-- what the octets say by the format of a heading, which gives 0 for a field that it does not have
abbrev pub fields_in : (heading : ℕ) → List ℕ → Told
fields_in heading xs = fields_from heading (content_in (format_of heading) xs)

-- the first fault that is found is the answer; where none is, the fields are
abbrev pub judged : List Fault → Told → Told
judged [] fields = fields
judged (fault n found place ∷ faults) fields = cond found (refused n place) (judged faults fields)

unfoldable pub fields_of : ℕ → ℕ → ℕ → List ℕ → Told
fields_of own far records xs = judged (read_faults own far records xs) (fields_in (heading_in xs) xs)

-- the same with the signal by name
abbrev pub reading : ℕ → ℕ → ℕ → List ℕ → Reading
reading own far records xs = named (fields_of own far records xs)
