-- The rules of the machine, as they come out for two exchanges over a link: what each thing that can happen leads to.
-- Assumes nothing.
use Rattle.std.specs.Prelude.{Option, Some}
use Rattle.circuit.specs.declared.Event.{Event}
use mathlib.Core.Path.{◌≡◌, refl, subst}
use mathlib.Core.Bool.{Bool, true, false, cond, not, ◌&&◌}
use mathlib.Core.List.{List, [], ◌∷◌, ◌++◌, append-nil}
use Prim.Native.Nat.{ℕ, ◌<◌}
use lib.Dec.{T}
use lib.ListN.{length}
use borrow.Author.Tests.{eq-eqb, ne_eqb}
use Rattle.circuit.specs.declared.Command.TheVariants.{Restart}
use Rattle.circuit.specs.declared.Event.TheVariants.{Ordered}
use Rattle.circuit.specs.Groups.{bad_group}
use Rattle.circuit.proofs.Every.{both, is_true}
use Rattle.codes.specs.Numbers.{event_of}
use Rattle.layout.specs.Layout.{records_in, allowed_at}
use Rattle.group.specs.Table.{step_in}
use Rattle.tup.specs.Entries.{Told}
use Rattle.ends.specs.Machine.{Both, Effect, When, When.any_time, When.in_silence, When.losing_all, When.never, when_given, none, without, acted, Happening.arrives, Happening.host, given, Reached.start, Reached.at_first}
use Rattle.ends.specs.Ends.{in_order}
use Rattle.exchanges.specs.Link.{Message, exchange, is_about, Particulars, good, writes_all, plainly, Gift.event, Gift.heedless, Gift.foreign, Gift.losses, steps, refused13, reads, circuit_in, signal_in, exchange_acts, Has, LinkStart.first_restarted, ExchangesCome}
use Rattle.exchanges.proofs.Carried.{barred}
use Rattle.exchanges.proofs.Arrives.{plainly_good}
use Rattle.exchanges.proofs.Over.{not_thirteen}

module _ (own far cic : ℕ) (t u : List ℕ) (w v : List Message) where
  abbrev Come : Both (List ℕ) Message → Type 0
  Come p = ExchangesCome own far cic p.0 p.1

  -- the first exchange, with its queue, and the second
  abbrev At : List Message → Type 0
  At q = ExchangesCome own far cic (exchange t q) (exchange u v)

  -- a message that arrives
  module _ (m : Message) where
    abbrev read : Told
    read = reads own far cic t m

    -- what it does, if it is accepted
    abbrev done : Effect (List ℕ) Message
    done = steps own far cic t (circuit_in read.buffer) (signal_in read.buffer) plainly

    abbrev by13 : Bool
    by13 = refused13 own far cic t (circuit_in read.buffer) (signal_in read.buffer)

    abbrev Arrived : (accepted by13 : Bool) → Type 0
    Arrived a b = Come (cond (a && b) (exchange t (m ∷ w), exchange u v) (acted (cond a done (record { after = t; sends = [] })) w (exchange u v)))

    pub dropped : (read.answer ≡ 0 → ⊥) → At (m ∷ w) → At w
    dropped refused q = subst (λ (l : List Message). ExchangesCome own far cic (exchange t w) (exchange u l)) (append-nil v)
        (subst (λ (a : Bool). Arrived a by13) (ne_eqb read.answer 0 refused) (at_first q arrives))

    pub taken : read.answer ≡ 0 → let i = circuit_in read.buffer in
        (i ≡ cic → (step_in own far t i (signal_in read.buffer)).answer.refusal ≡ 13 → ⊥)
        → At (m ∷ w) → Come (acted done w (exchange u v))
    taken accepted not13 q = subst (Arrived true) (barred own far cic (circuit_in read.buffer) t (signal_in read.buffer) not13) (subst (λ (a : Bool). Arrived a by13) (eq-eqb read.answer 0 accepted) (at_first q arrives))

  -- an event that the host gives
  module _ (i kind code detail : ℕ) (p : Particulars) (well : T (good p)) (not13 : i ≡ cic → (step_in own far t i (event_of kind code detail)).answer.refusal ≡ 13 → ⊥) where
    abbrev e : Option Event
    e = event_of kind code detail

    abbrev Given : When → Type 0
    Given k = Come (given (exchange_acts own far cic) k (event i kind code detail p) (exchange t w) (exchange u v))

    pub timely : (k : When) → when_given e ≡ k → At w → Given k
    timely k is q = subst Given is (subst (λ (b : Bool). Given (cond b (when_given e) never)) allowed (at_first q (host (event i kind code detail p))))
      where
        allowed : (good p && not (refused13 own far cic t i e)) ≡ true
        allowed = rw (is_true (good p) well, barred own far cic i t e not13) refl

    pub in_quiet : when_given e ≡ in_silence → T (none (is_about i) w) → T (none (is_about i) v) → At w → Come (acted (steps own far cic t i e p) w (exchange u v))
    in_quiet is nw nv q = subst (λ (b : Bool). Come (cond b (acted (steps own far cic t i e p) w (exchange u v)) (exchange t w, exchange u v)))
        (is_true (none (is_about i) w && none (is_about i) v) (both (none (is_about i) w) (none (is_about i) v) nw nv)) (timely in_silence is q)

  -- on another circuit, whenever it comes
  pub heedlessly : (i kind code detail : ℕ) (p : Particulars) → (i ≡ cic → ⊥) → At w → Come (acted (steps own far cic t i (event_of kind code detail) p) w (exchange u v))
  heedlessly i kind code detail p other q = subst (λ (b : Bool). Come (given (exchange_acts own far cic) (cond b never any_time) (heedless i kind code detail p) (exchange t w) (exchange u v)))
      (ne_eqb i cic other) (at_first q (host (heedless i kind code detail p)))

  -- messages of other circuits are lost
  pub lost : (such : Message → Bool) → At w → ExchangesCome own far cic (exchange t (without (λ m. such m && not (is_about cic m)) w)) (exchange u (without (λ m. such m && not (is_about cic m)) v))
  lost such q = subst (λ (l : List Message). ExchangesCome own far cic (exchange t (without (λ m. such m && not (is_about cic m)) w)) (exchange u l)) (append-nil _) (at_first q (host (losses such)))

  -- octets that neither exchange wrote
  pub strangers : (m : Message) → is_about cic m ≡ false → At w → ExchangesCome own far cic (exchange t w) (exchange u (v ++ (m ∷ [])))
  strangers m other q = subst (λ (b : Bool). Come (given (exchange_acts own far cic) (cond b never any_time) (foreign m) (exchange t w) (exchange u v))) other
      (at_first q (host (foreign m)))

-- a restart from any legal record of the circuit
pub restarting : (own far cic : ℕ) (t u : List ℕ) (w v : List Message)
    → bad_group own far (records_in (length t)) ≡ false → cic < records_in (length t) → bad_group far own (records_in (length u)) ≡ false → cic < records_in (length u)
    → T (allowed_at t cic) → T (allowed_at u cic)
    → ExchangesCome own far cic (exchange (step_in own far t cic (event_of 2 10 0)).table (without (is_about cic) w))
    (exchange u (without (is_about cic) v ++ writes_all own far (records_in (length t)) cic plainly (in_order (step_in own far t cic (event_of 2 10 0)).answer.sends)))
unfolding event_of
restarting own far cic t u w v g h g' h' a a' =
    subst (λ (b : Bool). Come own far cic t u w v (given (exchange_acts own far cic) (cond b losing_all never) (event cic 2 10 0 plainly) (exchange t w) (exchange u v))) allowed
    (start (first_restarted (exchange t w) (exchange u v) here (record { group = g'; circuit = h' }) a a'))
  where
    here : Has own far cic t
    here = record { group = g; circuit = h }

    allowed : (good plainly && not (refused13 own far cic t cic (Some (Ordered Restart)))) ≡ true
    allowed = rw (is_true (good plainly) plainly_good, barred own far cic cic t (Some (Ordered Restart)) (λ z. not_thirteen own far cic t here a)) refl
