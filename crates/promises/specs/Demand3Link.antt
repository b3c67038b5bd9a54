-- Demand 3 over one link, from octets to octets. An exchange is its group's table and the queue of messages, as octets, on their way to it, all circuits
-- mixed. `ExchangesCome own far cic x y`: two exchanges with the codes own and far can come to be x and y; the circuit cic is looked at. First the rules by
-- which they can, then what is promised of the circuit. The step is `step_in`, the reader `read_into`, the writer `write_from`: the definitions that the
-- contracts of the archive's entries cite.
-- Assumes nothing.
use Rattle.std.specs.Prelude.{◌≡◌, refl, Bool, true, false, cond, not, ◌&&◌, List, [], ◌∷◌, ◌++◌, ℕ, ◌/◌, ◌%◌, ◌<◌, T, eqb, leb, length, take, get_or, replicate, Some}
use Rattle.circuit.specs.declared.Failure.{Failure}
use Rattle.circuit.specs.declared.Signal.{Signal}
use Rattle.circuit.specs.declared.Signal.TheVariants.{Iam, Acm, Anc, Ann, Cbk, Clf, Ran, Rlg, Blo, Bla, Ubl, Uba, Rsc, Fail}
use Rattle.circuit.specs.Groups.{bad_group}
use Rattle.circuit.proofs.Every.{both}
use Rattle.codes.specs.Headings.{heading_of}
use Rattle.codes.specs.Numbers.{event_of}
use Rattle.words.specs.Octets.{number_of}
use Rattle.layout.specs.Layout.{records_in, state_at, flags_at, record_at}
use Rattle.group.specs.Table.{step_in}
use Rattle.formats.specs.Octets.{above_fifteen, short}
use Rattle.formats.specs.Messages.{is_iam, is_acm}
use Rattle.reader.specs.Places.{cic_in}
use Rattle.reader.specs.Reading.{reading}
use Rattle.writer.specs.Writing.{said, bad_address}
use Rattle.tup.specs.Entries.{read_into, write_from}
use Rattle.ends.specs.Machine.{Both, When.any_time, When.in_silence, When.losing_all, when_given, none, without, Happening.arrives, Reached.start}
use Rattle.ends.specs.Ends.{in_order, unheard}
use Rattle.ends.proofs.Plain.{told_plainly, not_awaiting, opposite12, unheard_rlg, not_both}
use Rattle.exchanges.specs.Link.{Message, Exchange, exchange, is_about, Particulars, good, saying, chosen, writes_all, plainly, LinkStart.idle_at_both, ExchangesCome, ClaimOver}
use Rattle.exchanges.specs.Cases.{A, B, Run, ran_from, command, quiet, two, crossing, restarting, arriving}
use Rattle.exchanges.proofs.Sent.{sent_is_read}
use Rattle.exchanges.proofs.Over.{mirror_link, exchanges_agree, head_heard}
use Rattle.exchanges.proofs.Rules.{dropped, taken, timely, in_quiet, heedlessly, lost, strangers}
use Rattle.exchanges.proofs.Cases.{shown, ran}
use Rattle.promises.specs.Demand3.{AgreeOn, SameStage, Never}

-- THE RULES

-- a message is about the circuit that its label names
pub about_is : (cic : ℕ) (m : Message) → is_about cic m ≡ eqb (cic_in m) cic
about_is cic m = refl

-- none of the messages on their way is such, and those that are left where such are lost
pub none_is : (such : Message → Bool) (m : Message) (w : List Message) → (none such [] ≡ true) × (none such (m ∷ w) ≡ (not (such m) && none such w))
none_is such m w = (refl, refl)

pub without_is : (such : Message → Bool) (m : Message) (w : List Message)
    → (without such [] ≡ []) × (without such (m ∷ w) ≡ cond (such m) (without such w) (m ∷ without such w))
without_is such m w = (refl, refl)

-- What the host chooses for what it sends is good: an ACM's octet and an IAM's category have no spare bit, nor have its indicators; the address is of 1 to
-- 15 codes, none of them above 15, spare, or ST before the end, and is no short international number; and the buffer that it lends to the writer has 17 octets or more.
pub good_is : (acm category indicators : ℕ) (address buffer : List ℕ)
    → good (record { acm = acm; category = category; indicators = indicators; address = address; buffer = buffer })
    ≡ (leb acm 63 && (leb category 63 && (leb indicators 2047 && ((not (above_fifteen address) && (not (bad_address address) && not (short indicators address))) && leb 17 (length buffer)))))
unfolding good
good_is acm category indicators address buffer = refl

-- For each signal that a step sends, one message goes out: the octets that the writer put into the buffer, where it accepts. The heading has the fields
-- that are its own.
pub nothing_goes_out : (own far count cic : ℕ) (p : Particulars) → writes_all own far count cic p [] ≡ []
nothing_goes_out own far count cic p = refl

pub each_goes_out : (own far count cic : ℕ) (p : Particulars) (s : Signal) (rest : List Signal)
    → let heading = heading_of s in
    let w = write_from own far count
    (said cic heading (cond (is_acm heading) p.acm 0) (cond (is_iam heading) p.category 0) (cond (is_iam heading) p.indicators 0) (cond (is_iam heading) p.address []))
    p.buffer in
    writes_all own far count cic p (s ∷ rest) ≡ cond (eqb (w.answer % 256) 0) (take (w.answer / 256) w.buffer ∷ []) [] ++ writes_all own far count cic p rest
each_goes_out own far count cic p s rest = refl

abbrev all_chosen : Particulars → List Signal → List Signal
all_chosen p [] = []
all_chosen p (s ∷ rest) = chosen p s ∷ all_chosen p rest

-- an ACM has the octet that the host chose, and no other signal is changed
pub chosen_is : (p : Particulars) (octet : ℕ) (f : Failure)
    → all_chosen p (Acm octet ∷ Iam ∷ Anc ∷ Ann ∷ Cbk ∷ Clf ∷ Ran ∷ Rlg ∷ Blo ∷ Bla ∷ Ubl ∷ Uba ∷ Rsc ∷ Fail f ∷ [])
    ≡ Acm p.acm ∷ Iam ∷ Anc ∷ Ann ∷ Cbk ∷ Clf ∷ Ran ∷ Rlg ∷ Blo ∷ Bla ∷ Ubl ∷ Uba ∷ Rsc ∷ Fail f ∷ []
chosen_is p octet f = refl

-- the exchanges are reached
abbrev Come : (own far cic : ℕ) → Both (List ℕ) Message → Type 0
Come own far cic p = ExchangesCome own far cic p.0 p.1

module _ {own far cic : ℕ} where
  -- At first both have good groups with the circuit, which is idle with no flag at both, and none of its messages is on its way. The other circuits, the
  -- counters and ranks, and the other messages are as they please.
  pub idle_on_it : (t u : List ℕ) (w v : List Message)
      → bad_group own far (records_in (length t)) ≡ false → cic < records_in (length t) → bad_group far own (records_in (length u)) ≡ false → cic < records_in (length u)
      → state_at t cic ≡ 0 → flags_at t cic ≡ 0 → state_at u cic ≡ 0 → flags_at u cic ≡ 0 → T (none (is_about cic) w) → T (none (is_about cic) v)
      → ExchangesCome own far cic (exchange t w) (exchange u v)
  idle_on_it t u w v g h g' h' s f s' f' nw nv = start (idle_at_both (exchange t w) (exchange u v) (record { group = g; circuit = h }) (record { group = g'; circuit = h' })
      (record { state = s; flags = f }) (record { state = s'; flags = f' }) (both (none (is_about cic) w) (none (is_about cic) v) nw nv))

  module _ {t u : List ℕ} {w v : List Message} where
    -- What happens at the first exchange. The message at the head is read into 23 octets. One that is refused is dropped;
    pub message_dropped : {m : Message} → ((read_into own far (records_in (length t)) m (replicate 23 0)).answer ≡ 0 → ⊥)
        → ExchangesCome own far cic (exchange t (m ∷ w)) (exchange u v) → ExchangesCome own far cic (exchange t w) (exchange u v)
    message_dropped {m} = dropped own far cic t u w v m

    -- any other is given to the circuit that it names, unless that is the one looked at and refuses it 13.
    pub message_taken : {m : Message} → let read = read_into own far (records_in (length t)) m (replicate 23 0) in
        let i = number_of (get_or read.buffer 0 0 ∷ get_or read.buffer 1 0 ∷ []) in
        let e = event_of 1 (get_or read.buffer 2 0) (get_or read.buffer 3 0) in
        read.answer ≡ 0 → (i ≡ cic → (step_in own far t i e).answer.refusal ≡ 13 → ⊥)
        → ExchangesCome own far cic (exchange t (m ∷ w)) (exchange u v)
        → ExchangesCome own far cic (exchange (step_in own far t i e).table w) (exchange u (v ++ writes_all own far (records_in (length t)) i plainly (in_order (step_in own far t i e).answer.sends)))
    message_taken {m} = taken own far cic t u w v m

    -- The host gives an event on any circuit by its numbers, with good particulars, unless the circuit looked at refuses it 13: at any time, and nothing
    -- is lost;
    module _ (i kind code detail : ℕ) (p : Particulars) (well : T (good p)) (not13 : i ≡ cic → (step_in own far t i (event_of kind code detail)).answer.refusal ≡ 13 → ⊥) where
      pub given_any_time : when_given (event_of kind code detail) ≡ any_time → ExchangesCome own far cic (exchange t w) (exchange u v)
          → let answer = step_in own far t i (event_of kind code detail) in
          ExchangesCome own far cic (exchange answer.table w) (exchange u (v ++ writes_all own far (records_in (length t)) i p (in_order answer.answer.sends)))
      given_any_time = timely own far cic t u w v i kind code detail p well not13 any_time

      -- a restart, by which that circuit's messages are lost, in both directions, and no other's; its RSC goes out after that;
      pub given_at_restart : when_given (event_of kind code detail) ≡ losing_all → ExchangesCome own far cic (exchange t w) (exchange u v)
          → let answer = step_in own far t i (event_of kind code detail) in
          ExchangesCome own far cic (exchange answer.table (without (is_about i) w)) (exchange u (without (is_about i) v ++ writes_all own far (records_in (length t)) i p (in_order answer.answer.sends)))
      given_at_restart = timely own far cic t u w v i kind code detail p well not13 losing_all

      -- a timer that waits until none of that circuit's messages is on its way.
      pub given_in_silence : when_given (event_of kind code detail) ≡ in_silence → T (none (is_about i) w) → T (none (is_about i) v)
          → ExchangesCome own far cic (exchange t w) (exchange u v)
          → let answer = step_in own far t i (event_of kind code detail) in
          ExchangesCome own far cic (exchange answer.table w) (exchange u (v ++ writes_all own far (records_in (length t)) i p (in_order answer.answer.sends)))
      given_in_silence = in_quiet own far cic t u w v i kind code detail p well not13

    -- On any other circuit the host may break every rule: any event at any time, with any particulars, and nothing is lost by a restart.
    pub heedless_beside : (i kind code detail : ℕ) (p : Particulars) → (i ≡ cic → ⊥) → ExchangesCome own far cic (exchange t w) (exchange u v)
        → let answer = step_in own far t i (event_of kind code detail) in
        ExchangesCome own far cic (exchange answer.table w) (exchange u (v ++ writes_all own far (records_in (length t)) i p (in_order answer.answer.sends)))
    heedless_beside = heedlessly own far cic t u w v

    -- Any messages about other circuits may be lost.
    pub losses_beside : (such : Message → Bool) → ExchangesCome own far cic (exchange t w) (exchange u v)
        → ExchangesCome own far cic (exchange t (without (λ m. such m && not (is_about cic m)) w)) (exchange u (without (λ m. such m && not (is_about cic m)) v))
    losses_beside = lost own far cic t u w v

    -- Octets that neither exchange wrote come in on the link, about any other circuit.
    pub foreign_octets : (m : Message) → is_about cic m ≡ false → ExchangesCome own far cic (exchange t w) (exchange u v)
        → ExchangesCome own far cic (exchange t w) (exchange u (v ++ (m ∷ [])))
    foreign_octets = strangers own far cic t u w v

  -- the same happens at the second exchange: first and second may change places
  pub either_exchange_first : {x y : Exchange} → ExchangesCome own far cic x y → ExchangesCome far own cic y x
  either_exchange_first = mirror_link

-- THE PROMISES

-- The writer accepts every signal that a step may send, with good particulars, on every circuit of a good group; and what it wrote, the other exchange, in
-- its own group that has the circuit, reads as that signal on that circuit, an ACM with the octet that the host chose.
pub sent_and_read : (own far count cic : ℕ) → bad_group own far count ≡ false → cic < count → (p : Particulars) → T (good p)
    → (theirs : ℕ) → bad_group far own theirs ≡ false → cic < theirs → (s : Signal)
    → let sent = write_from own far count (saying cic (heading_of s) p) p.buffer in
    let heard = reading far own theirs (take (sent.answer / 256) sent.buffer) in
    (sent.answer % 256 ≡ 0) × (heard.refusal ≡ 0) × (heard.message.circuit.0 ≡ cic) × (heard.message.signal ≡ Some (chosen p s))
sent_and_read = sent_is_read

-- Demand 3, on every circuit that both exchanges have, whatever happens on the others: whenever none of its messages is on its way and neither exchange is
-- in 5 or 12 there, its two records agree.
pub link_agrees : (own far cic : ℕ) (t u : List ℕ) (w v : List Message) → ExchangesCome own far cic (exchange t w) (exchange u v)
    → T (none (is_about cic) w) → T (none (is_about cic) v)
    → ((record_at t cic).state ≡ 5 → ⊥) → ((record_at t cic).state ≡ 12 → ⊥) → ((record_at u cic).state ≡ 5 → ⊥) → ((record_at u cic).state ≡ 12 → ⊥)
    → AgreeOn (record_at t cic) (record_at u cic)
unfolding ClaimOver
link_agrees own far cic t u w v q nw nv t5 t12 u5 u12 =
    told_plainly SameStage SameStage.idle SameStage.seized SameStage.complete SameStage.free SameStage.answered SameStage.cleared (record_at t cic) (record_at u cic)
    (exchanges_agree own far cic (exchange t w) (exchange u v) q (both (none (is_about cic) w) (none (is_about cic) v) nw nv)
    (not_awaiting (record_at t cic).state t12) (not_awaiting (record_at u cic).state u12))

-- and it rests in 5 at one only if it is in 12 at the other
pub link_in5_only_opposite12 : (own far cic : ℕ) (t u : List ℕ) (w v : List Message) → ExchangesCome own far cic (exchange t w) (exchange u v)
    → T (none (is_about cic) w) → T (none (is_about cic) v) → (record_at t cic).state ≡ 5 → (record_at u cic).state ≡ 12
unfolding ClaimOver
link_in5_only_opposite12 own far cic t u w v q nw nv = opposite12 (record_at t cic).state (record_at u cic).state (λ t12 u12.
    (exchanges_agree own far cic (exchange t w) (exchange u v) q (both (none (is_about cic) w) (none (is_about cic) v) nw nv) t12 u12).call)

-- no message at the head of a queue says on the circuit what never arrives there
pub never_at_head : (own far cic : ℕ) (t : List ℕ) (m : Message) (w : List Message) (y : Exchange) → ExchangesCome own far cic (exchange t (m ∷ w)) y
    → let read = reading own far (records_in (length t)) m in
    (s : Signal) → read.refusal ≡ 0 → read.message.circuit.0 ≡ cic → read.message.signal ≡ Some s → Never s (record_at t cic).state → ⊥
never_at_head own far cic t m w y q s taken on says n = not_both (unheard (record_at t cic).state s) (unheard_then n) (head_heard own far cic t m w y q s taken on says)
  where
    unheard_then : {s : Signal} {p : ℕ} → Never s p → T (unheard p s)
    unheard_then (Never.release_guard {p} h k) = unheard_rlg p h k
    unheard_then Never.answer_charged = tt
    unheard_then Never.answer_free = tt
    unheard_then Never.clear_back = tt
    unheard_then Never.re_answer = tt
    unheard_then Never.clear_forward2 = tt
    unheard_then Never.clear_forward3 = tt
    unheard_then Never.clear_forward4 = tt

-- NOT OF NOTHING

-- Two circuits over one link, from idle tables of two circuits with the codes 2 (A) and 1 (B): a call each way, the address of each complete; then
-- circuit 0 is restarted; then all arrives. Commands are by circuit, code and detail.
pub link_runs : (crossing ≡ A (command 0 1 0) ∷ B (command 1 1 0) ∷ B arrives ∷ A arrives ∷ B (command 0 3 4) ∷ A (command 1 3 0) ∷ [])
    × (restarting ≡ A (command 0 10 0) ∷ []) × (arriving ≡ B arrives ∷ B arrives ∷ A arrives ∷ [])
link_runs = (refl, refl, refl)

-- Both ACMs are on their way; the restart loses circuit 0's alone, and its RSC joins the other's ACM; at last circuit 0 is idle at both ends, freed once,
-- and circuit 1 at the same stage of one call. A table: its counter, and of each circuit the state, the flags and the rank.
pub link_shown : (watched : ℕ) → let x = ran_from watched (quiet, quiet) crossing in
    let y = ran_from watched x restarting in
    (x ≡ (exchange (two 0 1 0 7 0) ((2 ∷ 0x40 ∷ 0 ∷ 0 ∷ 0 ∷ 0x14 ∷ 4 ∷ []) ∷ []), exchange (two 0 8 0 1 0) ((1 ∷ 0x80 ∷ 0 ∷ 0x10 ∷ 0 ∷ 0x14 ∷ 0 ∷ []) ∷ [])))
    × (y ≡ (exchange (two 0 12 0 7 0) [], exchange (two 0 8 0 1 0) ((1 ∷ 0x80 ∷ 0 ∷ 0x10 ∷ 0 ∷ 0x14 ∷ 0 ∷ []) ∷ (1 ∷ 0x80 ∷ 0 ∷ 0 ∷ 0 ∷ 0x77 ∷ []) ∷ [])))
    × (ran_from watched y arriving ≡ (exchange (two 1 0 1 7 0) [], exchange (two 1 0 1 2 0) []))
link_shown = shown

pub table_of_two : (counter state rank state' rank' : ℕ) → two counter state rank state' rank'
    ≡ counter ∷ 0 ∷ 0 ∷ 0 ∷ 0 ∷ 0 ∷ 0 ∷ 0 ∷ state ∷ 0 ∷ rank ∷ 0 ∷ 0 ∷ 0 ∷ 0 ∷ 0 ∷ 0 ∷ 0 ∷ state' ∷ 0 ∷ rank' ∷ 0 ∷ 0 ∷ 0 ∷ 0 ∷ 0 ∷ 0 ∷ 0 ∷ []
table_of_two counter state rank state' rank' = refl

-- and every run leads to exchanges that are reached, whichever of the two circuits is looked at
pub link_runs_reach : (watched : ℕ) → watched < 2 → (run : Run) → Come 2 1 watched (ran_from watched (quiet, quiet) run)
link_runs_reach = ran
