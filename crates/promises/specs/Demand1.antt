-- Demand 1 (docs/RULES.md, "The three demands"): every table, event and message gets an answer, and nothing undefined happens. The public entries
-- refuse bad input themselves, by the numbers that stand there under "Refusals". A refusal sends nothing and leaves what is lent unchanged.
-- That there is an answer for all arguments is what the check of the program shows: no public function has a `requires`, and each ends. Here stands
-- which refusal is given exactly when, and that it changes nothing. `first_rule` is the number of the first rule that holds, 0 for none.
-- Assumes nothing.
use Rattle.std.specs.Prelude.{◌≡◌, refl, Bool, true, false, cond, not, ◌&&◌, ◌||◌, List, [], ◌∷◌, ◌++◌, ◌↔◌, ℕ, suc, ◌+◌, ◌/◌, ◌%◌, ◌<◌, ◌≤◌, min, eqb, leb, ltb, length, get_or, take, drop, replicate, Option, Some, None}
use Rattle.std.proofs.Common.{ap, ◌∙◌, subst, le-leb, lt-ltb, arith}
use Rattle.std.proofs.lemmas.Bool.{lt-leb}
use Rattle.circuit.proofs.Every.{both_hold}
use Rattle.circuit.specs.declared.Record.{Record}
use Rattle.circuit.specs.declared.Sends.TheVariants.{Nothing}
use Rattle.circuit.specs.declared.Signal.{Signal}
use Rattle.circuit.specs.declared.Command.{Command}
use Rattle.circuit.specs.declared.Timer.{Timer}
use Rattle.circuit.specs.declared.Event.{Event}
use Rattle.circuit.specs.declared.Event.TheVariants.{Arrives, Ordered, RunsOut}
use Rattle.circuit.specs.Records.{valid}
use Rattle.circuit.specs.Rows.{refused}
use Rattle.circuit.specs.Groups.{bad_group, controls}
use Rattle.circuit.specs.Refusals.{Rule, refuse, first_rule, Given, Clear}
use Rattle.circuit.proofs.Refusals.{alike, answered, accepted}
use Rattle.codes.specs.Numbers.{event_of}
use Rattle.codes.specs.Headings.{heading_of, octet_of}
use Rattle.codes.specs.Back.{numbers_of}
use Rattle.codes.proofs.Back.{event_back, numbers_back}
use Rattle.words.specs.Octets.{number_of}
use Rattle.words.specs.Words.{largest}
use Rattle.step.specs.Step.{step_found}
use Rattle.step.specs.Refusals.{allowed, runs, seizes_blocked, found_rules}
use Rattle.step.specs.Frees.{frees_found}
use Rattle.step.proofs.Refused.{refuses_found, keeps_found}
use Rattle.layout.specs.Layout as table
use Rattle.layout.specs.Layout.{records_in, counter_in, state_at, record_of, record_at, allowed_at, table_octets, idle}
use Rattle.layout.proofs.Laws.{records_back}
use Rattle.group.specs.Table.{step_in}
use Rattle.group.specs.Runs.{Follows}
use Rattle.group.proofs.Laws as group
use Rattle.group.proofs.Valid.{never12}
use Rattle.formats.specs.Messages.{has_signals, listed, is_iam, is_acm, half}
use Rattle.formats.specs.Octets.{bad_codes, first_bad, short}
use Rattle.reader.specs.Faults.{Fault, fault, rules_of, place_of}
use Rattle.reader.specs.Places.{dpc_in, cic_in, heading_in, indicators_in, count_in, address_in}
use Rattle.reader.specs.Reading.{elsewhere, unfit, fields_of}
use Rattle.reader.proofs.Faults.{like}
use Rattle.reader.proofs.Bodies.{unfit_length}
use Rattle.formats.proofs.ByHeading.{signals_of_iam, counted_length, count_octet, signal_octets_of}
use Rattle.writer.specs.Writing.{Said, too_large, bad_address, octets_of, write_rules}
use Rattle.tup.specs.Entries.{read_into, write_from}
use Rattle.inverse.specs.Host.{into_faults, into_rules}
use Rattle.inverse.proofs.Refusals.{into_refusal, into_place, into_taken, from_refusal}
use Rattle.inverse.proofs.Host.{into_kept, from_kept, from_filled, into_filled}

-- EVENTS

-- the order for events: 1, 2, 12, 3, then 5, 4 or 6, and last 13
abbrev pub event_rules : (own far : ℕ) → List ℕ → (cic : ℕ) → Option Event → List Rule
event_rules own far table cic event =
    refuse 1 (bad_group own far (records_in (length table)))
    ∷ refuse 2 (leb (records_in (length table)) cic)
    ∷ refuse 12 (not (allowed_at table cic))
    ∷ (found_rules (record_at table cic) event
    ++ (refuse 13 (frees_found (controls own far cic) (state_at table cic) event && leb largest (counter_in table)) ∷ []))

pub event_refused : (own far : ℕ) (table : List ℕ) (cic : ℕ) (event : Option Event) → (step_in own far table cic event).answer.refusal ≡ first_rule (event_rules own far table cic event)
event_refused = group.refusals

-- each number is given exactly when its rule holds and none before it does
pub event_given : (own far : ℕ) (table : List ℕ) (cic : ℕ) (event : Option Event) (n : ℕ)
    → ((step_in own far table cic event).answer.refusal ≡ suc n) ↔ Given (suc n) (event_rules own far table cic event)
event_given own far table cic event = answered (event_rules own far table cic event) (step_in own far table cic event).answer.refusal (group.refusals own far table cic event)

-- an event's own: 3 for numbers that name none; of a signal none; of a command 4 and 5; of a timer 6
pub no_event3 : (r : Record) → found_rules r None ≡ refuse 3 true ∷ []
no_event3 r = refl

pub no_signal : (r : Record) (s : Signal) → found_rules r (Some (Arrives s)) ≡ []
no_signal r s = refl

pub command4or5 : (r : Record) (k : Command) → found_rules r (Some (Ordered k)) ≡ refuse 4 (seizes_blocked r k) ∷ refuse 5 (not (allowed r k)) ∷ []
command4or5 r k = refl

pub timer6 : (r : Record) (t : Timer) → found_rules r (Some (RunsOut t)) ≡ refuse 6 (not (runs r t)) ∷ []
timer6 r t = refl

-- one circuit's step by value: 12 first, then these
pub record_refused : (c : Bool) (r : Record) (f : Option Event) → (step_found c r f).refusal ≡ first_rule (refuse 12 (not (valid r)) ∷ found_rules r f)
record_refused = refuses_found

-- 1: a point code is above 16383, the two are equal, or there are 0 or more than 4096 records
pub group_refused : (own far records : ℕ) → bad_group own far records ≡ (ltb 16383 own || ltb 16383 far || eqb own far || (eqb records 0 || ltb 4096 records))
group_refused own far records = refl

-- 3: no such signal, command or timer, or a detail that is not listed. Numbers are read as an event exactly if they are its own; a signal's detail is
-- ACM's octet, else 0.
pub signals_read : (s : Signal) → octet_of s ≤ 255 → event_of 1 (heading_of s) (octet_of s) ≡ Some (Arrives s)
signals_read s h = event_back (Arrives s) h

pub commands_read : (k : Command) → event_of (numbers_of (Ordered k)).0 (numbers_of (Ordered k)).1 (numbers_of (Ordered k)).2 ≡ Some (Ordered k)
commands_read k = event_back (Ordered k) tt

pub timers_read : (t : Timer) → event_of (numbers_of (RunsOut t)).0 (numbers_of (RunsOut t)).1 (numbers_of (RunsOut t)).2 ≡ Some (RunsOut t)
timers_read t = event_back (RunsOut t) tt

pub no_others_read : (kind code detail : ℕ) (e : Event) → event_of kind code detail ≡ Some e → numbers_of e ≡ (kind, code, detail)
no_others_read = numbers_back

-- 12: the circuit's record has a state above 12, or flags that are not legal there. The legal flags, of 0 to 15, by state; above 15 none are.
abbrev flags_in : (state : ℕ) → List Bool
flags_in s =
    table.allowed s 0 ∷ table.allowed s 1 ∷ table.allowed s 2 ∷ table.allowed s 3 ∷ table.allowed s 4 ∷ table.allowed s 5 ∷ table.allowed s 6 ∷ table.allowed s 7
    ∷ table.allowed s 8 ∷ table.allowed s 9 ∷ table.allowed s 10 ∷ table.allowed s 11 ∷ table.allowed s 12 ∷ table.allowed s 13 ∷ table.allowed s 14 ∷ table.allowed s 15 ∷ []

-- 0, 1, 2, 3, 5, 7, 8 and 10
pub flags_below12 : (s : ℕ) → s < 12 → flags_in s
    ≡ true ∷ true ∷ true ∷ true ∷ false ∷ true ∷ false ∷ true ∷ true ∷ false ∷ true ∷ false ∷ false ∷ false ∷ false ∷ false ∷ []
unfolding record_of
flags_below12 s h = rw (le-leb s 12 (omega arith), lt-ltb s 12 h) refl

-- 0 and 2
pub flags_in12 : flags_in 12 ≡ true ∷ false ∷ true ∷ false ∷ false ∷ false ∷ false ∷ false ∷ false ∷ false ∷ false ∷ false ∷ false ∷ false ∷ false ∷ false ∷ []
unfolding record_of
flags_in12 = refl

pub no_flags_above12 : (s f : ℕ) → 12 < s → table.allowed s f ≡ false
unfolding record_of
no_flags_above12 s f h = rw (lt-leb s 12 h) (go (leb f 15))
  where
    go : (b : Bool) → (b && false) ≡ false
    go true = refl
    go false = refl

pub no_flags_above15 : (s f : ℕ) → 15 < f → table.allowed s f ≡ false
no_flags_above15 s f h = rw (lt-leb f 15 h) refl

-- `Follows own far first last`: events, any and however many, lead from the table `first` to `last`
pub no_event_yet : {own far : ℕ} {first : List ℕ} → Follows own far first first
no_event_yet = Follows.start

pub one_more_event : {own far : ℕ} {first last : List ℕ} → Follows own far first last → (cic : ℕ) (event : Option Event) → Follows own far first (step_in own far last cic event).table
one_more_event = Follows.next

-- a group that starts idle, its table zeros, never answers 12
pub idle_is_zeros : (octets : ℕ) → idle octets ≡ replicate octets 0
idle_is_zeros octets = refl

pub idle_never12 : {own far : ℕ} {table : List ℕ} (octets : ℕ) → Follows own far (idle octets) table
    → (cic : ℕ) (event : Option Event) → (step_in own far table cic event).answer.refusal ≡ 12 → ⊥
idle_never12 = never12

-- a refusal sends nothing, gives indication 0 and changes nothing lent
pub refused_keeps : (own far : ℕ) (table : List ℕ) (cic : ℕ) (event : Option Event) → ((step_in own far table cic event).answer.refusal ≡ 0 → ⊥)
    → let s = step_in own far table cic event in (s.table ≡ table) × (s.answer.sends ≡ Nothing) × (s.answer.ind ≡ 0)
refused_keeps own far table cic event n = let k = group.refused own far table cic event n in (k.table, k.sends, k.ind)

pub record_kept : (c : Bool) (r : Record) (f : Option Event) → ((step_found c r f).refusal ≡ 0 → ⊥) → step_found c r f ≡ refused (step_found c r f).refusal r
record_kept = keeps_found

-- so many circuits need so many octets, and those hold so many records
pub table_holds : (circuits : ℕ) → records_in (table_octets circuits) ≡ circuits
table_holds = records_back

-- MESSAGES

-- A message is taken exactly where no rule holds (`Clear`).

-- "Reader: 1; under 6 octets, 7; 8; 9; length not fitting the heading (IAM under 9), 7; IAM count zero, 10; IAM length not 9 plus half the count
-- rounded up, 7; codes, 10; then 2." Directly after its codes a short international number, 17. Last 11, where the room is under 23 octets. Each has its place: an octet, the first being 0; of a length the
-- length itself.
abbrev reader_faults : (own far count : ℕ) → (octets : List ℕ) → (room : ℕ) → List Fault
reader_faults own far count xs room =
    fault 1 (bad_group own far count) 0
    ∷ fault 7 (ltb (length xs) 6) (length xs)
    ∷ fault 8 (elsewhere own far xs) (cond (eqb (dpc_in xs) own) 1 0)
    ∷ fault 9 (not (listed (heading_in xs))) 5
    ∷ fault 7 (unfit (heading_in xs) (length xs)) (length xs)
    ∷ fault 10 (is_iam (heading_in xs) && eqb (count_in xs) 0) 8
    ∷ fault 7 (is_iam (heading_in xs) && not (eqb (length xs) (9 + half (count_in xs)))) (length xs)
    ∷ fault 10 (is_iam (heading_in xs) && bad_codes (address_in xs)) (9 + first_bad (address_in xs) / 2)
    ∷ fault 17 (is_iam (heading_in xs) && short (indicators_in xs) (address_in xs)) 8
    ∷ fault 2 (leb count (cic_in xs)) 3
    ∷ fault 11 (ltb room 23) 0
    ∷ []

abbrev pub reader_rules : (own far count : ℕ) → (octets : List ℕ) → (room : ℕ) → List Rule
reader_rules own far count xs room = rules_of (reader_faults own far count xs room)

-- a length that does not fit the heading: an IAM under 9 octets, an ACM not of 7, any other not of 6
pub unfit_is : (heading len : ℕ) → unfit heading len ≡ cond (is_iam heading) (ltb len 9) (not (eqb len (cond (is_acm heading) 7 6)))
unfit_is = unfit_length

-- the reader goes by the format of the heading; by the letter that is this
read_by_letter : (own far count : ℕ) (xs : List ℕ) (room : ℕ) → into_rules own far count xs room ≡ reader_rules own far count xs room
read_by_letter own far count xs room = rw (counted_length (heading_in xs) (length xs) (count_in xs)) (simp (signals_of_iam (heading_in xs)))

-- the number that is answered is the refusal and 256 times its place, at most 2^56 - 1
pub read_refused : (own far count : ℕ) (xs buffer : List ℕ) → (read_into own far count xs buffer).answer % 256 ≡ first_rule (reader_rules own far count xs (length buffer))
read_refused own far count xs buffer =
    let e : into_rules own far count xs (length buffer) ≡ reader_rules own far count xs (length buffer) = rw (counted_length (heading_in xs) (length xs) (count_in xs)) (simp (signals_of_iam (heading_in xs))) in
    into_refusal own far count xs buffer ∙ ap first_rule e

pub read_placed : (own far count : ℕ) (xs buffer : List ℕ) → (read_into own far count xs buffer).answer / 256 ≡ min (place_of (reader_faults own far count xs (length buffer))) 0xffffffffffffff
read_placed own far count xs buffer = into_place own far count xs buffer ∙ ap (λ (place : ℕ). min place 0xffffffffffffff) (places_by_letter own far count xs (length buffer))
  where
    places_by_letter : (own far count : ℕ) (xs : List ℕ) (room : ℕ) → place_of (into_faults own far count xs room) ≡ place_of (reader_faults own far count xs room)
    places_by_letter own far count xs room =
        let h = heading_in xs in
        let iam = signals_of_iam h in
        like (into_faults own far count xs room) (reader_faults own far count xs room) (
          refl,
          (λ e. refl),
          (
            refl,
            (λ e. refl),
            (
              refl,
              (λ e. refl),
              (
                refl,
                (λ e. refl),
                (
                  refl,
                  (λ e. refl),
                  (
                    ap (λ (b : Bool). b && eqb (count_in xs) 0) iam,
                    (λ e. count_octet h (both_hold (has_signals h) e).0),
                    (
                      counted_length h (length xs) (count_in xs),
                      (λ e. refl),
                      (
                        ap (λ (b : Bool). b && bad_codes (address_in xs)) iam,
                        (λ e. signal_octets_of h (both_hold (has_signals h) e).0 (first_bad (address_in xs))),
                        (
                          ap (λ (b : Bool). b && short (indicators_in xs) (address_in xs)) iam,
                          (λ e. count_octet h (both_hold (has_signals h) e).0),
                          (refl, (λ e. refl), (refl, (λ e. refl), tt)),
                        ),
                      ),
                    ),
                  ),
                ),
              ),
            ),
          ),
        )

pub read_given : (own far count : ℕ) (xs buffer : List ℕ) (n : ℕ)
    → ((read_into own far count xs buffer).answer % 256 ≡ suc n) ↔ Given (suc n) (reader_rules own far count xs (length buffer))
read_given own far count xs buffer =
    let e : into_rules own far count xs (length buffer) ≡ reader_rules own far count xs (length buffer) = rw (counted_length (heading_in xs) (length xs) (count_in xs)) (simp (signals_of_iam (heading_in xs))) in
    answered (reader_rules own far count xs (length buffer)) ((read_into own far count xs buffer).answer % 256) (into_refusal own far count xs buffer ∙ ap first_rule e)

pub read_taken : (own far count : ℕ) (xs buffer : List ℕ) → ((read_into own far count xs buffer).answer ≡ 0) ↔ Clear (reader_rules own far count xs (length buffer))
read_taken own far count xs buffer =
    let e : into_rules own far count xs (length buffer) ≡ reader_rules own far count xs (length buffer) = rw (counted_length (heading_in xs) (length xs) (count_in xs)) (simp (signals_of_iam (heading_in xs))) in
    subst (λ (rules : List Rule). ((read_into own far count xs buffer).answer ≡ 0) ↔ Clear rules) e (into_taken own far count xs buffer)

-- the order for the writer: 1, 2, 9, 3, 10, 17, 11
abbrev writer_rules : (own far count : ℕ) → Said → (room : ℕ) → List Rule
writer_rules own far count m room =
    refuse 1 (bad_group own far count)
    ∷ refuse 2 (ltb 4095 m.cic)
    ∷ refuse 9 (not (listed m.heading))
    ∷ refuse 3 (too_large m)
    ∷ refuse 10 (is_iam m.heading && bad_address m.address)
    ∷ refuse 17 (is_iam m.heading && short m.indicators m.address)
    ∷ refuse 11 (ltb room (length (octets_of own far m)))
    ∷ []

write_by_letter : (own far count : ℕ) (m : Said) (room : ℕ) → write_rules own far count m room ≡ writer_rules own far count m room
write_by_letter own far count m room =
    let iam = signals_of_iam m.heading in
    alike (write_rules own far count m room) (writer_rules own far count m room)
    (refl, refl, (refl, refl, (refl, refl, (refl, refl, (refl, ap (λ (b : Bool). b && bad_address m.address) iam, (refl, ap (λ (b : Bool). b && short m.indicators m.address) iam, (refl, refl, tt)))))))

pub write_refused : (own far count : ℕ) (m : Said) (buffer : List ℕ) → (write_from own far count m buffer).answer % 256 ≡ first_rule (writer_rules own far count m (length buffer))
write_refused own far count m buffer = from_refusal own far count m buffer ∙ ap first_rule (write_by_letter own far count m (length buffer))

pub write_given : (own far count : ℕ) (m : Said) (buffer : List ℕ) (n : ℕ)
    → ((write_from own far count m buffer).answer % 256 ≡ suc n) ↔ Given (suc n) (writer_rules own far count m (length buffer))
write_given own far count m buffer = answered (writer_rules own far count m (length buffer)) ((write_from own far count m buffer).answer % 256) (write_refused own far count m buffer)

pub write_taken : (own far count : ℕ) (m : Said) (buffer : List ℕ) → ((write_from own far count m buffer).answer % 256 ≡ 0) ↔ Clear (writer_rules own far count m (length buffer))
write_taken own far count m buffer = accepted (writer_rules own far count m (length buffer)) ((write_from own far count m buffer).answer % 256) (write_refused own far count m buffer) tt

-- a refusal leaves the buffer as it was
pub read_keeps : (own far count : ℕ) (xs buffer : List ℕ) → ((read_into own far count xs buffer).answer ≡ 0 → ⊥) → (read_into own far count xs buffer).buffer ≡ buffer
read_keeps = into_kept

pub write_keeps : (own far count : ℕ) (m : Said) (buffer : List ℕ) → ((write_from own far count m buffer).answer % 256 ≡ 0 → ⊥)
    → ((write_from own far count m buffer).answer / 256 ≡ 0) × ((write_from own far count m buffer).buffer ≡ buffer)
write_keeps = from_kept

-- a message that is read: the first 23 octets of the buffer give its fields back, and the others keep their contents
pub read_tells : (own far count : ℕ) (xs : List ℕ) → ((i : ℕ) → i < length xs → get_or xs i 0 < 256) → (buffer : List ℕ) → (read_into own far count xs buffer).answer ≡ 0
    → let f = fields_of own far count xs in
    let after = (read_into own far count xs buffer).buffer in
    (number_of (get_or after 0 0 ∷ get_or after 1 0 ∷ []) ≡ f.circuit.0) × (get_or after 2 0 ≡ f.heading) × (get_or after 3 0 ≡ f.acm) × (get_or after 4 0 ≡ f.category)
    × (number_of (get_or after 5 0 ∷ get_or after 6 0 ∷ []) ≡ f.indicators) × (get_or after 7 0 ≡ f.count) × (take 15 (drop 8 after) ≡ f.address) × (drop 23 after ≡ drop 23 buffer)
read_tells own far count xs octets buffer ok =
    let k = into_filled own far count xs octets buffer ok in
    (k.0.circuit, k.0.heading, k.0.acm, k.0.category, k.0.indicators, k.0.count, k.0.address, k.1)

-- one that is written: the number gives its length back, the buffer begins with its octets, and "octets of the buffer beyond the message keep
-- their contents"
pub write_tells : (own far count : ℕ) (m : Said) (buffer : List ℕ) → (write_from own far count m buffer).answer % 256 ≡ 0
    → let octets = octets_of own far m in
    let after = (write_from own far count m buffer).buffer in
    ((write_from own far count m buffer).answer / 256 ≡ length octets) × (take (length octets) after ≡ octets) × (drop (length octets) after ≡ drop (length octets) buffer)
write_tells own far count m buffer ok = let k = from_filled own far count m buffer ok in (k.0, k.1.start, k.1.beyond)
