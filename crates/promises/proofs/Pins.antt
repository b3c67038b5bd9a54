-- Laws of the pages that follow from others there. Each is proved on its page by itself, so that a wrong definition is refused at the law that it
-- breaks; here it is proved again from the other, so that the other cannot say less than it says without this file failing.
-- Assumes nothing.
use Rattle.circuit.specs.declared.Event.{Event}
use Rattle.std.specs.Prelude.{◌≡◌, ◌↔◌, List, ◌∷◌, ℕ, suc, ◌%◌, length, Option, Some}
use Rattle.std.proofs.Common.{sym, subst, arith}
use Rattle.circuit.specs.declared.Record.{Record}
use Rattle.circuit.specs.declared.Signal.{Signal}
use Rattle.circuit.specs.Groups.{controls}
use Rattle.circuit.specs.Refusals.{Given}
use Rattle.circuit.proofs.Refusals.{answered}
use Rattle.layout.specs.Layout.{records_in, record_at}
use Rattle.group.specs.Table.{step_in}
use Rattle.reader.specs.Reading.{reading}
use Rattle.tup.specs.Entries.{read_into}
use Rattle.ends.specs.Ends.{End, end, EndsCome}
use Rattle.exchanges.specs.Link.{Message, Exchange, exchange, ExchangesCome}
use Rattle.promises.specs.Demand1.{event_rules, event_refused, reader_rules, read_refused}
use Rattle.promises.specs.Demand3.{Never, never_next}
use Rattle.promises.specs.Demand3Link.{never_at_head}
use Rattle.promises.specs.Requests.{Nonsense, Nonsense.anc, Nonsense.ann, Nonsense.cbk, Nonsense.ran, Nonsense.rlg}

-- `Demand1.event_given` from `event_refused`
event_given : (own far : ℕ) (table : List ℕ) (cic : ℕ) (event : Option Event) (n : ℕ)
    → ((step_in own far table cic event).answer.refusal ≡ suc n) ↔ Given (suc n) (event_rules own far table cic event)
event_given own far table cic event = answered (event_rules own far table cic event) (step_in own far table cic event).answer.refusal (event_refused own far table cic event)

-- `Demand1.read_given` from `read_refused`
read_given : (own far count : ℕ) (xs buffer : List ℕ) (n : ℕ)
    → ((read_into own far count xs buffer).answer % 256 ≡ suc n) ↔ Given (suc n) (reader_rules own far count xs (length buffer))
read_given own far count xs buffer = answered (reader_rules own far count xs (length buffer)) ((read_into own far count xs buffer).answer % 256) (read_refused own far count xs buffer)

-- each signal of nonsense is among those that `Demand3` says never arrive in 1
never : {s : Signal} → Nonsense s → Never s 1
never anc = Never.answer_charged
never ann = Never.answer_free
never cbk = Never.clear_back
never ran = Never.re_answer
never rlg = Never.release_guard {p = 1} (λ e. omega arith) (λ e. omega arith)

-- `Requests.nonsense_never_comes` from `Demand3.never_next`
nonsense_never_comes : (own far cic : ℕ) → (own ≡ far → ⊥)
    → (r : Record) (s : Signal) (w : List Signal) (y : End) → EndsCome (controls own far cic) (controls far own cic) (end r (s ∷ w)) y
    → r.state ≡ 1 → Nonsense s → ⊥
nonsense_never_comes own far cic apart r s w y q one n = never_next own far cic apart r s w y q (subst (Never s) (sym one) (never n))

-- `Requests.nonsense_never_comes_in` from `Demand3Link.never_at_head`
nonsense_never_comes_in : (own far cic : ℕ) (t : List ℕ) (m : Message) (w : List Message) (y : Exchange) → ExchangesCome own far cic (exchange t (m ∷ w)) y
    → let read = reading own far (records_in (length t)) m in
    (s : Signal) → read.refusal ≡ 0 → read.message.circuit.0 ≡ cic → read.message.signal ≡ Some s
    → (record_at t cic).state ≡ 1 → Nonsense s → ⊥
nonsense_never_comes_in own far cic t m w y q s taken on says one n = never_at_head own far cic t m w y q s taken on says (subst (Never s) (sym one) (never n))
