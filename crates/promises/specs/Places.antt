-- T-05: which octet of a refused message is to be looked at (docs/RULES.md, "The place of a refusal"), and the list of messages that says so ("A
-- file of messages"). The place of each refusal is in the table `reader_faults` of `Demand1`; here stands what it means.
-- Assumes nothing.
use Rattle.std.specs.Prelude.{◌≡◌, refl, Bool, true, false, cond, ◌&&◌, List, [], ◌∷◌, ◌++◌, ◌⊎◌, ℕ, suc, ◌+◌, ◌<◌, ◌≤◌, eqb, ltb, length, get_or, take, drop}
use Rattle.circuit.specs.Groups.{bad_group}
use Rattle.circuit.specs.Refusals.{refuse}
use Rattle.formats.specs.Format.{INDICATORS, COUNT}
use Rattle.formats.specs.Messages.{format_of}
use Rattle.formats.specs.Octets.{bad_code, first_bad, short}
use Rattle.formats.proofs.Signals.{none_before, first_fits}
use Rattle.reader.specs.Told.{Told}
use Rattle.reader.specs.Faults.{Fault, fault, rules_of, place_of}
use Rattle.reader.specs.Places.{field_by, signals_by}
use Rattle.reader.specs.Reading.{fields_of}
use Rattle.reader.specs.Stands.{CouldStand, short_anyway}
use Rattle.reader.proofs.Faults.{length_place}
use Rattle.reader.proofs.Stands.{stands}
use Rattle.reader.proofs.Spoils.{spoils, short_for_good}
use Rattle.text.specs.Lines.{refused_line, plain_line, acm_line, iam_line}
use Rattle.parts.specs.declared.Running.{Running}
use Rattle.parts.specs.Whole.{Ahead.Takes, Ahead.Partial, Ahead.AtEnd, Stateless, no_state}
use Rattle.parts.specs.Feed.{fed, is_over, last_line}
use Rattle.parts.specs.Schedule.{Move, Standing, before, after, text_in_all, has_next}
use Rattle.parts.proofs.Schedule.{in_parts, finished, over_early}
use Rattle.messages.specs.Listing.{read_line, message_line, ahead_in, per_message, listing}
use Rattle.messages.specs.Cases.{messages_case, messages_text}
use Rattle.messages.proofs.Cases.{the_case}
use Rattle.messages.proofs.Laws.{lawful}

-- in such a table the first line that holds gives refusal and place; where none does there is no place
pub faults_mean : (n place : ℕ) (holds : Bool) (faults : List Fault)
    → (rules_of (fault n holds place ∷ faults) ≡ refuse n holds ∷ rules_of faults) × (rules_of [] ≡ [])
    × (place_of (fault n true place ∷ faults) ≡ place) × (place_of (fault n false place ∷ faults) ≡ place_of faults) × (place_of [] ≡ 0)
faults_mean n place holds faults = (refl, refl, refl, refl, refl)

module _ (own far count : ℕ) (xs : List ℕ) where
  -- a length refusal names the length received
  pub length_received : (fields_of own far count xs).refusal ≡ 7 → (fields_of own far count xs).place ≡ length xs
  length_received = length_place own far count xs

  -- octets that could stand in a message with some answer, in one that is read, say: some message begins with them, and is answered so in a group with
  -- these codes that has all 4096 circuits
  pub could_stand_means : (n answer : ℕ) (c : CouldStand own far xs n answer)
      → ((i : ℕ) → get_or c.message i 0 < 256) × (take n c.message ≡ take n xs) × ((fields_of own far 4096 c.message).refusal ≡ answer)
  could_stand_means n answer c = (c.octets, c.begins, c.is_answered)

  -- T-09: an international number of three signals, of which the third is at the place, and which begins with no operator's code
  pub short_anyway_is : (place : ℕ) → short_anyway place xs
      ≡ (eqb place 10 && (eqb (field_by (format_of 0x11) COUNT xs) 3 && short (field_by (format_of 0x11) INDICATORS xs) (signals_by (format_of 0x11) xs)))
  short_anyway_is place = refl

  module _ (octets : (i : ℕ) → get_or xs i 0 < 256) where
    -- any other refusal in a good group names an octet of the message, and those before it could stand in a message that is read, but for its circuit;
    -- only where they begin a number that is short anyway it is one that is refused 17
    pub before_the_place : bad_group own far count ≡ false → ((fields_of own far count xs).refusal ≡ 7 → ⊥)
        → let place = (fields_of own far count xs).place in
        CouldStand own far xs place (cond (short_anyway place xs) 17 0) × (place < length xs)
    before_the_place = stands own far count xs octets

    -- for then none that begins with them is read, in any group with these codes
    pub never_read_anyway : get_or xs 5 0 ≡ 0x11 → short_anyway 10 xs ≡ true → (theirs : ℕ) (ys : List ℕ) → ((i : ℕ) → get_or ys i 0 < 256) → take 10 ys ≡ take 10 xs
        → (fields_of own far theirs ys).refusal ≡ 0 → ⊥
    never_read_anyway iam e theirs ys others = short_for_good own far theirs xs ys octets others iam e

    -- and with the octet that 9 or 10 names they could not: no message that begins with all of them is read, in any group with these codes
    pub up_to_the_place : ((fields_of own far count xs).refusal ≡ 9) ⊎ ((fields_of own far count xs).refusal ≡ 10)
        → (theirs : ℕ) (ys : List ℕ) → ((i : ℕ) → get_or ys i 0 < 256) → take (suc (fields_of own far count xs).place) ys ≡ take (suc (fields_of own far count xs).place) xs
        → (fields_of own far theirs ys).refusal ≡ 0 → ⊥
    up_to_the_place = spoils own far count xs octets

-- the first refused signal is refused, and none before it is; an early ST is refused itself, not the signal behind it
pub first_bad_is : (s : List ℕ) → first_bad s < length s
    → (bad_code (get_or s (first_bad s) 0) (ltb (suc (first_bad s)) (length s)) ≡ true)
    × ((j : ℕ) → j < first_bad s → bad_code (get_or s j 0) (ltb (suc j) (length s)) ≡ false)
first_bad_is s l = (first_fits bad_code s l, none_before bad_code s)

pub early_st : (first_bad (1 ∷ 15 ∷ 2 ∷ []) ≡ 1) × (first_bad (1 ∷ 2 ∷ 15 ∷ 3 ∷ []) ≡ 2) × (first_bad (1 ∷ 2 ∷ 15 ∷ []) ≡ 3)
early_st = (refl, refl, refl)

-- THE LIST OF MESSAGES

-- the case of docs/RULES.md
pub messages_listed : listing messages_case ≡ messages_text
messages_listed = the_case

-- behind the group's record stand messages, each behind one octet that says how long it is: each has a line, by what the reader answers in the
-- group; a file that ends within one is cut there, and where nothing more stands it is at its end
pub message_ahead : (r : Running) (s : List ℕ) → ahead_in r s
    ≡ cond (eqb (length s) 0) AtEnd
    (cond (ltb (length s) (1 + get_or s 0 0)) Partial
    (Takes (1 + get_or s 0 0) (message_line r.next (fields_of r.group.codes.own.0 r.group.codes.far.0 r.group.circuits (take (get_or s 0 0) (drop 1 s)))) no_state))
unfolding ahead_in
message_ahead r s = refl

-- a message that was refused has its refusal and its place in its line, any other its circuit, heading and fields
pub message_lines : (ordinal : ℕ) (f : Told) → message_line ordinal f
    ≡ cond (eqb f.refusal 0)
    (cond (eqb f.heading 0x11) (iam_line ordinal f.circuit.0 f.heading f.category f.indicators (take f.count f.address))
    (cond (eqb f.heading 0x14) (acm_line ordinal f.circuit.0 f.heading f.acm) (plain_line ordinal f.circuit.0 f.heading)))
    (refused_line ordinal f.refusal f.place)
unfolding message_line read_line
message_lines ordinal f = refl

-- read and fed in parts of any sizes, into rooms of any sizes, the file gives the whole text (`fed` is what the contract of `messages::feed` cites)
pub list_in_parts : (file : List ℕ) (ms : List Move) → text_in_all per_message (after per_message (before no_state file) ms) ≡ listing file
list_in_parts = in_parts lawful no_state

-- with the last line where all was read and nothing more can be taken, or where there is no good group
pub list_ends : (file : List ℕ) (ms : List Move) (n : ℕ) → 132 ≤ n → (z : Standing Stateless) → z ≡ after per_message (before no_state file) ms
    → z.unread ≡ [] → has_next z.stage ≡ true → (fed per_message z.stage z.state z.read n).taken ≡ 0
    → z.printed ++ last_line (fed per_message z.stage z.state z.read n).stage z.read ≡ listing file
list_ends = finished lawful no_state

pub list_ends_early : (file : List ℕ) (ms : List Move) (z : Standing Stateless) → z ≡ after per_message (before no_state file) ms → is_over z.stage ≡ true
    → z.printed ++ last_line z.stage z.read ≡ listing file
list_ends_early = over_early lawful no_state
