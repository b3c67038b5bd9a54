-- Two exchanges over one link, from octets to octets: each holds its group's table, and each direction of the link is a queue of messages as octets,
-- all circuits mixed. What an exchange does is what the entries of the archive do (`step_in`, `read_into`, `write_from`); when it does it is the
-- `Machine` of two parties. Demand 3 is carried from two ends of a circuit to every circuit that both groups have.
-- Assumes nothing.
use Rattle.circuit.specs.declared.Event.{Event}
use Rattle.std.specs.Prelude.{◌≡◌, Bool, false, cond, not, ◌&&◌, List, [], ◌∷◌, ◌++◌, ℕ, ◌/◌, ◌%◌, ◌<◌, T, eqb, leb, length, get_or, take, replicate, Option}
use Rattle.circuit.specs.declared.Signal.{Signal}
use Rattle.circuit.specs.declared.Signal.TheVariants.{Iam, Acm, Anc, Ann, Cbk, Clf, Ran, Rlg, Blo, Bla, Ubl, Uba, Rsc, Fail}
use Rattle.circuit.specs.Groups.{bad_group}
use Rattle.codes.specs.Headings.{heading_of}
use Rattle.codes.specs.Numbers.{event_of}
use Rattle.words.specs.Octets.{number_of}
use Rattle.layout.specs.Layout.{records_in, state_at, flags_at, record_at, allowed_at}
use Rattle.group.specs.Table.{step_in}
use Rattle.formats.specs.Octets.{above_fifteen, short}
use Rattle.formats.specs.Messages.{is_iam, is_acm}
use Rattle.reader.specs.Places.{cic_in}
use Rattle.writer.specs.Writing.{Said, said, bad_address}
use Rattle.tup.specs.Entries.{Told, read_into, write_from}
use Rattle.ends.specs.Machine.{Party, Effect, When, When.any_time, When.losing_all, When.never, when_given, Acts, silence, Happening, Happening.host, turn, Reached}
use Rattle.ends.specs.Ends.{end, in_order, awaits_reset, Agree}

-- a message as octets, from its label on
abbrev pub Message : Type 0
Message = List ℕ

-- an exchange: its table, and the messages on their way to it
abbrev pub Exchange : Type 0
Exchange = Party (List ℕ) Message

abbrev pub exchange : List ℕ → List Message → Exchange
exchange table w = record { holds = table; coming = w }

-- the circuit that a message's label names
abbrev pub is_about : ℕ → Message → Bool
is_about cic m = eqb (cic_in m) cic

-- WHAT IS SENT

-- what the host chooses: an ACM's octet, an IAM's category, indicators and address; and the buffer that it lends to the writer
pub record Particulars : Type 0 where
  pub acm : ℕ
  pub category : ℕ
  pub indicators : ℕ
  pub address : List ℕ
  pub buffer : List ℕ

-- good ones: no spare bit is set, the address is in order and not a short international number, and the buffer has room for the longest message
abbrev pub good_address : (indicators : ℕ) → List ℕ → Bool
good_address indicators address = not (above_fifteen address) && (not (bad_address address) && not (short indicators address))

unfoldable pub good : Particulars → Bool
good p = leb p.acm 63 && (leb p.category 63 && (leb p.indicators 2047 && (good_address p.indicators p.address && leb 17 (length p.buffer))))

-- what the writer is told: of a signal its heading, with the fields that the heading has
abbrev pub saying : (cic heading : ℕ) → Particulars → Said
saying cic heading p =
    said cic heading (cond (is_acm heading) p.acm 0)
    (cond (is_iam heading) p.category 0) (cond (is_iam heading) p.indicators 0) (cond (is_iam heading) p.address [])

-- the signal that is told: an ACM has the octet that the host chooses
abbrev pub chosen : Particulars → Signal → Signal
chosen p Iam = Iam
chosen p (Acm octet) = Acm p.acm
chosen p Anc = Anc
chosen p Ann = Ann
chosen p Cbk = Cbk
chosen p Clf = Clf
chosen p Ran = Ran
chosen p Rlg = Rlg
chosen p Blo = Blo
chosen p Bla = Bla
chosen p Ubl = Ubl
chosen p Uba = Uba
chosen p Rsc = Rsc
chosen p (Fail f) = Fail f

-- what goes out: the octets that the writer put into the buffer, as many as it said; nothing where it refused
abbrev pub goes_out : Told → List Message
goes_out w = cond (eqb (w.answer % 256) 0) (take (w.answer / 256) w.buffer ∷ []) []

abbrev pub writes : (own far count cic : ℕ) → Particulars → Signal → List Message
writes own far count cic p s = goes_out (write_from own far count (saying cic (heading_of s) p) p.buffer)

abbrev pub writes_all : (own far count cic : ℕ) → Particulars → List Signal → List Message
writes_all own far count cic p [] = []
writes_all own far count cic p (s ∷ rest) = writes own far count cic p s ++ writes_all own far count cic p rest

-- WHAT AN EXCHANGE DOES

-- for a signal that arrives no exchange sends an IAM or an ACM: any particulars will do
abbrev pub plainly : Particulars
plainly = record { acm = 0; category = 0; indicators = 0; address = 0 ∷ []; buffer = replicate 17 0 }

-- What the host gives: an event on a circuit by its numbers, with particulars. And what else may befall the other circuits: an event that heeds no rule,
-- octets that neither exchange wrote, messages that are lost on the link.
pub data Gift : Type 0 where
  event : (cic kind code detail : ℕ) → Particulars → Gift
  heedless : (cic kind code detail : ℕ) → Particulars → Gift
  foreign : Message → Gift
  losses : (Message → Bool) → Gift

-- what the 23 octets of a message that was read tell: its circuit, and its signal as an event
abbrev pub circuit_in : (fields : List ℕ) → ℕ
circuit_in fields = number_of (get_or fields 0 0 ∷ get_or fields 1 0 ∷ [])

abbrev pub signal_in : (fields : List ℕ) → Option Event
signal_in fields = event_of 1 (get_or fields 2 0) (get_or fields 3 0)

-- own, far: the exchange's own code and the other's; watched: the circuit that is looked at
module _ (own far watched : ℕ) where
  -- an event on a circuit of its table
  abbrev pub steps : List ℕ → (cic : ℕ) → Option Event → Particulars → Effect (List ℕ) Message
  steps table cic e p = record {
    after = (step_in own far table cic e).table;
    sends = writes_all own far (records_in (length table)) cic p (in_order (step_in own far table cic e).answer.sends);
  }

  -- the circuit that is looked at refuses it 13
  abbrev pub refused13 : List ℕ → (cic : ℕ) → Option Event → Bool
  refused13 table cic e = eqb (step_in own far table cic e).answer.refusal 13 && eqb cic watched

  -- a message that arrives is read into 23 octets; one that is refused is dropped, any other is given to the circuit that it names
  abbrev pub reads : List ℕ → Message → Told
  reads table m = read_into own far (records_in (length table)) m (replicate 23 0)

  abbrev pub taking : List ℕ → Told → Effect (List ℕ) Message
  taking table r =
      cond (eqb r.answer 0) (steps table (circuit_in r.buffer) (signal_in r.buffer) plainly) (record { after = table; sends = [] })

  abbrev pub sticking : List ℕ → Told → Bool
  sticking table r = eqb r.answer 0 && refused13 table (circuit_in r.buffer) (signal_in r.buffer)

  -- The host's event: with good particulars, unless the circuit that is looked at refuses it 13. All else may be at any time, but not on that circuit.
  abbrev pub when_gift : List ℕ → Gift → When
  when_gift table (event cic kind code detail p) =
      cond (good p && not (refused13 table cic (event_of kind code detail))) (when_given (event_of kind code detail)) never
  when_gift table (heedless cic kind code detail p) = cond (eqb cic watched) never any_time
  when_gift table (foreign m) = cond (is_about watched m) never any_time
  when_gift table (losses such) = losing_all

  abbrev pub about_gift : Gift → Message → Bool
  about_gift (event cic kind code detail p) m = is_about cic m
  about_gift (heedless cic kind code detail p) m = false
  about_gift (foreign o) m = false
  about_gift (losses such) m = such m && not (is_about watched m)

  abbrev pub gives : List ℕ → Gift → Effect (List ℕ) Message
  gives table (event cic kind code detail p) = steps table cic (event_of kind code detail) p
  gives table (heedless cic kind code detail p) = steps table cic (event_of kind code detail) p
  gives table (foreign m) = record { after = table; sends = m ∷ [] }
  gives table (losses such) = record { after = table; sends = [] }

  abbrev pub exchange_acts : Acts (List ℕ) Message Gift
  exchange_acts = record {
    stuck = λ table m. sticking table (reads table m);
    takes = λ table m. taking table (reads table m);
    when = when_gift;
    about = about_gift;
    gives = gives;
  }

-- WHERE A RUN MAY START

-- a good group that has the circuit
pub record Has (own far cic : ℕ) (table : List ℕ) : Type 0 where
  pub group : bad_group own far (records_in (length table)) ≡ false
  pub circuit : cic < records_in (length table)

-- the circuit's two octets
pub record IdleAt (cic : ℕ) (table : List ℕ) : Type 0 where
  pub state : state_at table cic ≡ 0
  pub flags : flags_at table cic ≡ 0

abbrev pub restart_of : (cic : ℕ) → Happening Gift
restart_of cic = host (event cic 2 10 0 plainly)

-- Both exchanges have the circuit; it is idle at both and none of its messages is on its way, while the other circuits, the ranks, the counters and the
-- other messages are as they please. Or one of them has just restarted it, whatever two legal records they held and whatever was on its way.
pub data LinkStart (own far cic : ℕ) : Exchange → Exchange → Type 0 where
  idle_at_both : (x y : Exchange) → Has own far cic x.holds → Has far own cic y.holds
      → IdleAt cic x.holds → IdleAt cic y.holds → T (silence (is_about cic) x y) → LinkStart own far cic x y
  first_restarted : (x y : Exchange) → Has own far cic x.holds → Has far own cic y.holds
      → T (allowed_at x.holds cic) → T (allowed_at y.holds cic)
      → LinkStart own far cic (turn (exchange_acts own far cic) (restart_of cic) x y).0 (turn (exchange_acts own far cic) (restart_of cic) x y).1
  second_restarted : (x y : Exchange) → Has own far cic x.holds → Has far own cic y.holds
      → T (allowed_at x.holds cic) → T (allowed_at y.holds cic)
      → LinkStart own far cic (turn (exchange_acts far own cic) (restart_of cic) y x).1 (turn (exchange_acts far own cic) (restart_of cic) y x).0

-- two exchanges can come to be such
abbrev pub ExchangesCome : (own far cic : ℕ) → Exchange → Exchange → Type 0
ExchangesCome own far cic = Reached (LinkStart own far cic) (exchange_acts own far cic) (exchange_acts far own cic)

-- WHAT IS CLAIMED

-- Demand 3 over the link: whenever none of the circuit's messages is on its way and neither exchange awaits reset on it, they agree.
unfoldable pub ClaimOver : Type 0
ClaimOver =
    (own far cic : ℕ) (x y : Exchange) → ExchangesCome own far cic x y → T (silence (is_about cic) x y)
    → T (not (awaits_reset (record_at x.holds cic).state)) → T (not (awaits_reset (record_at y.holds cic).state))
    → Agree (end (record_at x.holds cic) []) (end (record_at y.holds cic) [])
