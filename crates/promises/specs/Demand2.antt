-- Demand 2 (docs/RULES.md, "The three demands"): each event gives exactly the new record, signals and indication of the tables there, and messages
-- are read and written as laid out there.
-- The tables are definitions: `signals/specs/Table`, `commands/specs/Tables`, and the order of refusals before them `step/specs/Step`. The contracts
-- of the program say that it answers by them (`ByContract`). Here stands what follows from the definitions, in the order of docs/RULES.md.
-- Assumes nothing.
use Rattle.std.specs.Prelude.{◌≡◌, refl, Bool, true, false, not, cond, ◌&&◌, List, [], ◌∷◌, ◌++◌, map, ℕ, ◌+◌, ◌-◌, ◌/◌, ◌%◌, ◌<◌, ◌≤◌, T, eqb, leb, ltb, length, get_or, take, drop, replicate, Option, Some, None}
use Rattle.std.proofs.Common.{ap}
use Rattle.circuit.specs.declared.Record.{Record}
use Rattle.circuit.specs.declared.Failure.{Failure}
use Rattle.circuit.specs.declared.Failure.TheVariants.{Sec, Cgc, Nnc, Adi, Cfl, Ssb, Unn, Los, Sst}
use Rattle.circuit.specs.declared.Signal.{Signal}
use Rattle.circuit.specs.declared.Signal.TheVariants.{Iam, Clf, Rlg, Blo, Bla, Rsc}
use Rattle.circuit.specs.declared.Sends.TheVariants.{Nothing, One, Two}
use Rattle.circuit.specs.declared.Command.{Command}
use Rattle.circuit.specs.declared.Command.TheVariants.{Seize, FailCall, Restart}
use Rattle.circuit.specs.declared.Timer.{Timer}
use Rattle.circuit.specs.declared.Event.{Event}
use Rattle.circuit.specs.declared.Event.TheVariants.{Arrives, Ordered, RunsOut}
use Rattle.circuit.specs.declared.Outcome.{Outcome}
use Rattle.circuit.specs.Records.{rec, plain, valid}
use Rattle.circuit.specs.Groups.{bad_group, controls}
use Rattle.circuit.specs.Rows.{first, answered, refused}
use Rattle.circuit.proofs.Groups.{one_controls}
use Rattle.codes.specs.Headings.{failure_heading, heading_of, octet_of, failure_of, signal_of, named, named_failure}
use Rattle.codes.proofs.Back.{heading_is, failure_is, failure_named, signal_named}
use Rattle.words.specs.Octets.{over}
use Rattle.words.specs.Words.{largest}
use Rattle.step.specs.Step.{step, step_found, sent}
use Rattle.step.proofs.Always.{kept, one_sent}
use Rattle.step.proofs.Erred.{freed_only_by_rlg, exactly_one_yields, crossing_is_silent, restart_forgets}
use Rattle.step.specs.Frees.{frees}
use Rattle.layout.specs.Layout.{records_in, counter_in, state_at, flags_at, rank_at, flags_of, record_of, record_at, put, ranked}
use Rattle.layout.proofs.Laws.{flags_back, record_back}
use Rattle.group.specs.Table.{taken, step_in}
use Rattle.group.proofs.Laws as group
use Rattle.reader.specs.Reading.{fields_of}
use Rattle.writer.specs.Writing.{Said, said, octets_of, writing}
use Rattle.inverse.specs.Octets.{cleared}
use Rattle.inverse.specs.Said.{fields_said, said_of, length_of}
use Rattle.tup.specs.Entries.{read_into, write_from}
use Rattle.inverse.specs.Host.{Holds}
use Rattle.inverse.proofs.Host.{carried}
use Rattle.inverse.proofs.Laws as messages
use Rattle.inverse.specs.Cases.{Written, Arrived, Ordered as ToWrite, written_cases, short_arrived, arrived_cases, short_ordered, ordered_cases}
use Rattle.inverse.proofs.Cases.{written_hold, arrived_hold, places_hold, ordered_hold}
use Rattle.text.specs.Numbers.{decimal, value_from}
use Rattle.text.specs.Lines.{end_line, cut_line, bad_group_line}
use Rattle.text.proofs.Numbers.{decimal_value, decimal_first}
use Rattle.records.specs.declared.Recorded.{Recorded}
use Rattle.records.specs.declared.Item.TheVariants.{Event as an_event, NoEvent, Short, End}
use Rattle.records.specs.Records as records
use Rattle.parts.specs.declared.Running.{Running}
use Rattle.parts.specs.declared.Stage.TheVariants.{Start, Bad, Runs, Cut}
use Rattle.parts.specs.Whole.{Ahead.Takes, Ahead.NoRecord, Ahead.Partial, Ahead.AtEnd, Making, Lawful, text_at, lines, whole}
use Rattle.parts.specs.Feed.{fed, is_over, last_line}
use Rattle.parts.specs.Schedule.{text_from, state_after, Move, Move.Reads, Move.Feeds, Standing, before, moved, after, text_in_all, has_next}
use Rattle.parts.proofs.Schedule.{in_parts, finished, over_early}
use Rattle.trace.specs.Replay.{happens, event_text, ahead_of, replaying, replay}
use Rattle.trace.specs.Cases.{whole_case, whole_text}
use Rattle.trace.proofs.Cases.{the_whole_case}
use Rattle.trace.proofs.Events.{lawful}

-- THE CASES P1 TO P10

-- what a case gives: an event's outcome, whether an end controls a circuit, a message's octets
pub data Result : Type 0 where
  outcome : Outcome → Result
  controlling : Bool → Result
  octets : List ℕ → Result

pub record Case : Type 0 where
  pub number : ℕ
  pub gives : Result
  pub wanted : Result

abbrev p : ℕ → Result → Result → Case
p n a b = record { number = n; gives = a; wanted = b }

-- an event on a record, in both roles, and what it is to answer
abbrev in_both_roles : ℕ → Record → Event → Outcome → List Case
in_both_roles n r e o = p n (outcome (step true r e)) (outcome o) ∷ p n (outcome (step false r e)) (outcome o) ∷ []

abbrev with_each_failure : (Failure → List Case) → List Case
with_each_failure k = k Sec ++ k Cgc ++ k Nnc ++ k Adi ++ k Cfl ++ k Ssb ++ k Unn ++ k Los ++ k Sst

abbrev pub cases : List Case
cases =
    -- P1 IAM in 1, controlling: 1, ind. 7
    (p 1 (outcome (step true (plain 1) (Arrives Iam))) (outcome (answered (plain 1) Nothing 7)) ∷ [])
    -- P2 the same, not controlling: 6, ind. 9
    ++ (p 2 (outcome (step false (plain 1) (Arrives Iam))) (outcome (answered (plain 6) Nothing 9)) ∷ [])
    -- P3 CLF in idle: RLG, idle
    ++ in_both_roles 3 (plain 0) (Arrives Clf) (answered (plain 0) (One Rlg) 0)
    -- P4 RLG in 3: discarded
    ++ in_both_roles 4 (plain 3) (Arrives Rlg) (answered (plain 3) Nothing 7)
    -- P5 BLO in 1: BLA, CLF, 5
    ++ in_both_roles 5 (plain 1) (Arrives Blo) (answered (rec 5 false true false false) (Two Bla Clf) 6)
    -- P6 RSC in 9 with own block: BLO, RLG, idle
    ++ in_both_roles 6 (rec 9 true false false false) (Arrives Rsc) (answered (rec 0 true false true false) (Two Blo Rlg) 5)
    -- P7 failing in 8: refused 5
    ++ with_each_failure (λ f. in_both_roles 7 (plain 8) (Ordered (FailCall f)) (refused 5 (plain 8)))
    -- P8 seize with far block: 4 in idle, 5 in state 1
    ++ in_both_roles 8 (rec 0 false true false false) (Ordered Seize) (refused 4 (rec 0 false true false false))
    ++ in_both_roles 8 (rec 1 false true false false) (Ordered Seize) (refused 5 (rec 1 false true false false))
    -- P9 codes 2 and 1: the first controls CIC 0, not 1
    ++ (p 9 (controlling (controls 2 1 0)) (controlling true) ∷ p 9 (controlling (controls 2 1 1)) (controlling false) ∷ [])
    -- P10 DPC 1, OPC 2, CIC 3, CLF is 01 80 00 30 00 46
    ++ (p 10 (octets (octets_of 2 1 (said 3 0x46 0 0 0 []))) (octets (0x01 ∷ 0x80 ∷ 0x00 ∷ 0x30 ∷ 0x00 ∷ 0x46 ∷ [])) ∷ [])

pub claim : map (λ (k : Case). k.gives) cases ≡ map (λ (k : Case). k.wanted) cases
unfolding step first octets_of
claim = refl

-- none is left out
pub all : map (λ (k : Case). k.number) cases
    ≡ 1 ∷ 2 ∷ 3 ∷ 3 ∷ 4 ∷ 4 ∷ 5 ∷ 5 ∷ 6 ∷ 6 ∷ 7 ∷ 7 ∷ 7 ∷ 7 ∷ 7 ∷ 7 ∷ 7 ∷ 7 ∷ 7 ∷ 7 ∷ 7 ∷ 7 ∷ 7 ∷ 7 ∷ 7 ∷ 7 ∷ 7 ∷ 7 ∷ 8 ∷ 8 ∷ 8 ∷ 8 ∷ 9 ∷ 9 ∷ 10 ∷ []
all = refl

-- NAMES AND NUMBERS

-- a signal is read from its heading, and a heading that is read as a signal is its own; the same of failures. Of what is read as none, `named` and
-- `named_failure` are 0, which no signal has.
pub heading_of_each : (s : Signal) → named (signal_of (heading_of s) (octet_of s)) ≡ heading_of s
heading_of_each s = ap named (signal_named s)

pub signal_of_each : (s : Signal) → signal_of (heading_of s) (octet_of s) ≡ Some s
signal_of_each = signal_named

pub no_other_heading : (heading octet : ℕ) (s : Signal) → signal_of heading octet ≡ Some s → heading_of s ≡ heading
no_other_heading = heading_is

pub unknown_heading : named None ≡ 0
unknown_heading = refl

pub failure_of_each : (f : Failure) → failure_of (failure_heading f) ≡ Some f
failure_of_each = failure_named

pub no_other_failure : (heading : ℕ) (f : Failure) → failure_of heading ≡ Some f → failure_heading f ≡ heading
no_other_failure = failure_is

pub unknown_failure : named_failure None ≡ 0
unknown_failure = refl

-- an octet of flags and the flags correspond: 1 own block, 2 far block, 4 awaiting BLA, 8 awaiting UBA
pub flags_correspond : (s f : ℕ) → f ≤ 15 → flags_of (record_of s f) ≡ f
flags_correspond = flags_back

pub records_correspond : (r : Record) → record_of r.state (flags_of r) ≡ r
records_correspond = record_back

-- EVERY EVENT

-- every event takes a record that is allowed to one that is
pub stays_allowed : (c : Bool) (r : Record) (e : Event) → T (valid r) → T (valid (step c r e).after)
stays_allowed = kept

-- an accepted command or timer sends exactly one signal
pub command_sends_one : (c : Bool) (r : Record) (k : Command) → T (valid r) → (step c r (Ordered k)).refusal ≡ 0 → sent (step c r (Ordered k)).sends ≡ 1
command_sends_one c r k v = one_sent c r (Ordered k) v tt

pub timer_sends_one : (c : Bool) (r : Record) (t : Timer) → T (valid r) → (step c r (RunsOut t)).refusal ≡ 0 → sent (step c r (RunsOut t)).sends ≡ 1
timer_sends_one c r t v = one_sent c r (RunsOut t) v tt

pub how_many_sent : (s t : Signal) → (sent Nothing ∷ sent (One s) ∷ sent (Two s t) ∷ []) ≡ 0 ∷ 1 ∷ 2 ∷ []
how_many_sent s t = refl

-- the higher point code controls the even CICs, the lower one the odd ones: of two different codes exactly one controls,
-- whatever the circuit
pub by_parity_of_cic : (own far cic : ℕ) → controls own far cic ≡ eqb (cic % 2) (cond (ltb far own) 0 1)
by_parity_of_cic own far cic = refl

pub one_end_controls : (own far cic : ℕ) → (own ≡ far → ⊥) → controls far own cic ≡ not (controls own far cic)
one_end_controls = one_controls

-- An event on a circuit of a table: but for 13, what is answered, and what stands at the circuit then, is what one circuit's step says of its
-- record in our role there. This holds of every circuit number.
pub is_one_circuits_step : (own far : ℕ) (table : List ℕ) (cic : ℕ) (event : Option Event)
    → bad_group own far (records_in (length table)) ≡ false → cic < records_in (length table) → flags_at table cic ≤ 15
    → ((step_in own far table cic event).answer.refusal ≡ 13 → ⊥)
    → let o = step_found (controls own far cic) (record_at table cic) event in
    let s = step_in own far table cic event in
    (s.answer.refusal ≡ o.refusal) × (record_of s.answer.state s.answer.flags ≡ o.after) × (record_at s.table cic ≡ o.after)
    × (s.answer.sends ≡ o.sends) × (s.answer.ind ≡ o.ind)
is_one_circuits_step own far table cic event good has low not13 =
    let k = group.is_step own far table cic event good has low not13 in (k.refusal, k.shown, k.stored, k.sends, k.ind)

-- an event that is accepted is taken as that step says, and where it frees the circuit the counter goes up by one and the record takes it
pub is_taken : (own far : ℕ) (table : List ℕ) (cic : ℕ) (event : Option Event) → (step_in own far table cic event).answer.refusal ≡ 0
    → let o = step_found (controls own far cic) (record_at table cic) event in
    step_in own far table cic event
    ≡ cond (not (eqb (state_at table cic) 0) && eqb o.after.state 0)
    (record { answer = taken o; table = ranked (put table cic o.after) cic (counter_in table + 1) })
    (record { answer = taken o; table = put table cic o.after })
is_taken = group.took

-- and no other record changes, nor the table's length
pub others_stay : (own far : ℕ) (table : List ℕ) (cic : ℕ) (event : Option Event) (i : ℕ) → (i ≡ cic → ⊥)
    → let after = (step_in own far table cic event).table in
    (state_at after i ≡ state_at table i) × (flags_at after i ≡ flags_at table i) × (rank_at after i ≡ rank_at table i)
others_stay own far table cic event i other = let k = group.others own far table cic event i other in (λ j. (k.held j).state, λ j. (k.held j).flags, k.rank)

pub length_stays : (own far : ℕ) (table : List ℕ) (cic : ℕ) (event : Option Event) → length (step_in own far table cic event).table ≡ length table
length_stays = group.keeps_length

-- THREE WAYS EARLIER VERSIONS ERRED

-- Idle on sending CLF, not on RLG. An outgoing or releasing record (1 to 5) goes to idle only by RLG in 5, or by CLF not controlling in 1 or 5.
pub freed_by_release_guard : (c : Bool) (r : Record) (e : Event) → T (valid r) → T (leb 1 r.state && leb r.state 5) → (step c r e).after.state ≡ 0 → T (frees c r.state e)
freed_by_release_guard = freed_only_by_rlg

-- Both ends giving way at dual seizure, or the losing end sending CLF. Of two crossing seizures exactly one end gives way (goes to 6), and neither
-- sends anything.
pub one_gives_way : (c : Bool) (a b : Record) → T (valid a) → T (valid b) → a.state ≡ 1 → b.state ≡ 1
    → eqb (step (not c) b (Arrives Iam)).after.state 6 ≡ not (eqb (step c a (Arrives Iam)).after.state 6)
one_gives_way = exactly_one_yields

pub none_sends : (c : Bool) (r : Record) → T (valid r) → r.state ≡ 1 → sent (step c r (Arrives Iam)).sends ≡ 0
none_sends = crossing_is_silent

-- A restart that keeps the stored state and sends no RSC. From every record that is allowed it answers RSC, state 12 and no flag.
pub restarts : (c : Bool) (r : Record) → T (valid r) → step c r (Ordered Restart) ≡ answered (plain 12) (One Rsc) 0
restarts = restart_forgets

-- MESSAGES ON THE LINK

-- what was written is read back at the end addressed, in a group that has the circuit: the fields that the reader finds
-- are those of the message that was said.
pub read_back : (own far records : ℕ) (m : Said) (buffer : List ℕ) → (writing own far records m buffer).answer.refusal ≡ 0
    → (theirs : ℕ) → bad_group far own theirs ≡ false → m.cic < theirs
    → fields_of far own theirs (take (writing own far records m buffer).answer.length (writing own far records m buffer).buffer) ≡ fields_said m
read_back = messages.reading_back

-- the same through the entries for C: what one host has written, the other reads from the octets on the link, and its 23 octets hold what was said
pub carried_over : (own far count : ℕ) (m : Said) (buffer : List ℕ) → (write_from own far count m buffer).answer % 256 ≡ 0
    → (theirs : ℕ) → bad_group far own theirs ≡ false → m.cic < theirs → (out : List ℕ) → 23 ≤ length out
    → let told = read_into far own theirs (take ((write_from own far count m buffer).answer / 256) (write_from own far count m buffer).buffer) out in
    (told.answer ≡ 0) × Holds told.buffer (fields_said m)
carried_over = carried

-- what was read and is written again gives the octets, with spare bits and filler at 0: in the sender's group, wherever there is room.
pub written_back : (own far records : ℕ) (xs : List ℕ) → ((i : ℕ) → i < length xs → get_or xs i 0 < 256) → (fields_of own far records xs).refusal ≡ 0
    → (buffer : List ℕ) → length xs ≤ length buffer
    → writing far own records (said_of (fields_of own far records xs)) buffer
    ≡ record { answer = record { refusal = 0; length = length (cleared xs) }; buffer = over (cleared xs) buffer }
written_back = messages.writing_back

-- two different messages are never written as the same octets
pub different_octets : (own far records records' : ℕ) (m m' : Said) (buffer buffer' : List ℕ)
    → (writing own far records m buffer).answer.refusal ≡ 0 → (writing own far records' m' buffer').answer.refusal ≡ 0
    → (m ≡ m' → ⊥) → octets_of own far m ≡ octets_of own far m' → ⊥
different_octets = messages.different

-- every length that the writer answers fits the heading: 6, an ACM 7, an IAM 9 and half its count of address signals rounded up
pub lengths_fit : (own far records : ℕ) (m : Said) (buffer : List ℕ) → (writing own far records m buffer).answer.refusal ≡ 0
    → (writing own far records m buffer).answer.length ≡ length_of m
lengths_fit = messages.length_fits

-- messages of the exchange 2 to the exchange 1, and their octets; octets that arrive there, and messages to be written, with their refusals
pub messages_written : map (λ (c : Written). octets_of 2 1 c.says) written_cases
    ≡ (0x01 ∷ 0x80 ∷ 0x00 ∷ 0x30 ∷ 0x00 ∷ 0x46 ∷ []) ∷ (0x01 ∷ 0x80 ∷ 0x00 ∷ 0x30 ∷ 0x00 ∷ 0x14 ∷ 0x05 ∷ [])
    ∷ (0x01 ∷ 0x80 ∷ 0x00 ∷ 0x30 ∷ 0x00 ∷ 0x11 ∷ 0x0a ∷ 0x02 ∷ 0x30 ∷ 0x21 ∷ 0x0f ∷ []) ∷ []
unfolding written_cases
messages_written = written_hold

pub messages_read : map (λ (c : Arrived). (fields_of 1 2 c.records c.octets).refusal) arrived_cases
    ≡ 0 ∷ 2 ∷ 7 ∷ 7 ∷ 8 ∷ 9 ∷ 7 ∷ 0 ∷ 7 ∷ 10 ∷ 10 ∷ 7 ∷ 10 ∷ 0 ∷ 10 ∷ 0 ∷ 8 ∷ 8 ∷ 10 ∷ 10 ∷ 10 ∷ 7 ∷ 7 ∷ 17 ∷ 17 ∷ 0 ∷ 17 ∷ 0 ∷ 0 ∷ 17 ∷ 10 ∷ 0 ∷ 17 ∷ 17 ∷ 17 ∷ []
unfolding arrived_cases short_arrived
messages_read = arrived_hold

pub their_places : map (λ (c : Arrived). (fields_of 1 2 c.records c.octets).place) arrived_cases
    ≡ 0 ∷ 3 ∷ 7 ∷ 5 ∷ 0 ∷ 5 ∷ 6 ∷ 0 ∷ 8 ∷ 8 ∷ 8 ∷ 9 ∷ 9 ∷ 0 ∷ 9 ∷ 0 ∷ 1 ∷ 0 ∷ 9 ∷ 10 ∷ 9 ∷ 0 ∷ 18 ∷ 8 ∷ 8 ∷ 0 ∷ 8 ∷ 0 ∷ 0 ∷ 8 ∷ 9 ∷ 0 ∷ 8 ∷ 8 ∷ 8 ∷ []
unfolding arrived_cases short_arrived
their_places = places_hold

pub messages_refused : map (λ (c : ToWrite). (writing 2 1 1 c.says (replicate c.room 0)).answer.refusal) ordered_cases
    ≡ 0 ∷ 2 ∷ 2 ∷ 9 ∷ 3 ∷ 3 ∷ 3 ∷ 3 ∷ 3 ∷ 10 ∷ 10 ∷ 10 ∷ 0 ∷ 11 ∷ 17 ∷ 17 ∷ 0 ∷ 17 ∷ 0 ∷ 0 ∷ 17 ∷ 10 ∷ 0 ∷ 17 ∷ 17 ∷ 17 ∷ 3 ∷ []
unfolding ordered_cases short_ordered
messages_refused = ordered_hold

-- THE TRACE AND ITS REPLAY

-- the whole case, octet by octet
pub whole_case_prints : replay whole_case ≡ whole_text
whole_case_prints = the_whole_case

-- A trace may be read and fed in parts of any sizes, into rooms of any sizes. A host reads some octets, or feeds what it has read and what was not
-- taken yet (`fed` is what the contract of `trace::feed` cites); the state that goes along is the table.
pub reads_some : (z : Standing (List ℕ)) (n : ℕ)
    → moved replaying z (Reads n) ≡ record { stage = z.stage; state = z.state; read = z.read ++ take n z.unread; unread = drop n z.unread; printed = z.printed }
unfolding moved
reads_some z n = refl

pub feeds_some : (z : Standing (List ℕ)) (room : ℕ)
    → let p = fed replaying z.stage z.state z.read room in
    moved replaying z (Feeds room) ≡ record { stage = p.stage; state = state_after replaying z.stage p; read = drop p.taken z.read; unread = z.unread; printed = z.printed ++ p.text }
unfolding moved
feeds_some z room = refl

pub one_after_another : (z : Standing (List ℕ)) (m : Move) (ms : List Move) → (after replaying z [] ≡ z) × (after replaying z (m ∷ ms) ≡ after replaying (moved replaying z m) ms)
unfolding after
one_after_another z m ms = (refl, refl)

pub nothing_read_yet : (trace : List ℕ) → ◌≡◌ {A = Standing (List ℕ)} (before [] trace) (record { stage = Start; state = []; read = []; unread = trace; printed = [] })
nothing_read_yet trace = refl

-- after every schedule, what is printed and what is still to come is the text of the whole trace
pub still_to_come : (z : Standing (List ℕ)) → text_in_all replaying z ≡ z.printed ++ text_from replaying z.stage z.state (z.read ++ z.unread)
unfolding text_in_all
still_to_come z = refl

pub comes_by_stage : (r : Running) (next : ℕ) (table s : List ℕ)
    → (text_from replaying Start table s ∷ text_from replaying Bad table s ∷ text_from replaying (Runs r) table s ∷ text_from replaying (Cut next) table s ∷ [])
    ≡ replay s ∷ bad_group_line ∷ lines replaying r table s ∷ cut_line next ∷ []
unfolding text_from
comes_by_stage r next table s = refl

pub parts_print_the_whole : (trace : List ℕ) (ms : List Move) → text_in_all replaying (after replaying (before [] trace) ms) ≡ replay trace
parts_print_the_whole = in_parts lawful []

-- and so of every kind of file of which the laws hold that a trace keeps (`parts/specs/Whole`, `Lawful`)
pub parts_of_any_file : {T : Type 0} {w : Making T} → Lawful w → (state : T) (file : List ℕ) (ms : List Move) → text_in_all w (after w (before state file) ms) ≡ whole w file
parts_of_any_file = in_parts

-- where all was read, nothing more can be taken and a further ordinal fits 64 bits, the last line ends the text
pub ordinals_fit : (r : Running) (next : ℕ) → (has_next Start ∷ has_next Bad ∷ has_next (Runs r) ∷ has_next (Cut next) ∷ []) ≡ true ∷ true ∷ ltb r.next largest ∷ true ∷ []
ordinals_fit r next = refl

pub last_line_ends : (trace : List ℕ) (ms : List Move) (n : ℕ) → 132 ≤ n → (z : Standing (List ℕ)) → z ≡ after replaying (before [] trace) ms
    → z.unread ≡ [] → has_next z.stage ≡ true → (fed replaying z.stage z.state z.read n).taken ≡ 0
    → z.printed ++ last_line (fed replaying z.stage z.state z.read n).stage z.read ≡ replay trace
last_line_ends = finished lawful []

-- and where the trace is cut or has no good group, no more needs to be read
pub last_line_early : (trace : List ℕ) (ms : List Move) (z : Standing (List ℕ)) → z ≡ after replaying (before [] trace) ms → is_over z.stage ≡ true
    → z.printed ++ last_line z.stage z.read ≡ replay trace
last_line_early = over_early lawful []

-- the last line by where a replay stands: "bad group", "end" and the number of events, or "cut" and the next event's ordinal
pub last_lines : (r : Running) (next : ℕ)
    → (last_line Start [] ∷ last_line Bad [] ∷ last_line (Runs r) [] ∷ last_line (Runs r) (0 ∷ []) ∷ last_line (Cut next) [] ∷ [])
    ≡ bad_group_line ∷ bad_group_line ∷ end_line (r.next - 1) ∷ cut_line r.next ∷ cut_line next ∷ []
unfolding last_line
last_lines r next = refl

-- what stands at a place of the trace, and its text: an event's line and all that follows on the table that it leaves, or the last line
pub items_ahead : (e : Recorded) (r : Running) (table : List ℕ)
    → (ahead_of (an_event e) r table ∷ ahead_of NoEvent r table ∷ ahead_of Short r table ∷ ahead_of End r table ∷ [])
    ≡ Takes (records.octets_of e.kind) (event_text r table e) (happens r table e).table ∷ NoRecord ∷ Partial ∷ AtEnd ∷ []
items_ahead e r table = refl

pub item_texts : (taken : ℕ) (text table : List ℕ) (more : ℕ → List ℕ → List ℕ) (next : ℕ)
    → (text_at (Takes taken text table) more next ∷ text_at NoRecord more next ∷ text_at Partial more next ∷ text_at AtEnd more next ∷ [])
    ≡ (text ++ more taken table) ∷ cut_line next ∷ cut_line next ∷ end_line (next - 1) ∷ []
unfolding text_at
item_texts taken text table more next = refl

-- NUMBERS AS TEXT

-- numbers are printed in decimal with no leading zeros: the digits stand for the number, and the first is not 0, but in 0 itself
pub decimal_is_the_number : (n : ℕ) → value_from 0 (decimal n) ≡ n
decimal_is_the_number = decimal_value

pub no_leading_zero : (n : ℕ) → 0 < n → 48 < get_or (decimal n) 0 0
no_leading_zero = decimal_first
