-- The theorem over the link: what holds of two ends that are reached holds of the circuit's records and messages, at the start and whatever happens.
-- Assumes nothing.
use Rattle.std.specs.Prelude.{Some}
use mathlib.Core.Path.{◌≡◌, refl, sym, ap, ◌∙◌, subst, subst₂}
use mathlib.Core.Bool.{Bool, true, false, cond, not, ◌&&◌, ◌||◌, true≢false, false≢true}
use mathlib.Core.List.{List, [], ◌∷◌, ◌++◌}
use Prim.Native.Nat.{ℕ}
use borrow.Author.Tests.{eq-eqb, lt-leb}
use lib.Dec.{T, eqb, ltb, lit≤}
use lib.ListN.{length}
use Rattle.circuit.specs.declared.Signal.{Signal}
use Rattle.circuit.specs.declared.Command.TheVariants.{Restart}
use Rattle.circuit.specs.declared.Event.TheVariants.{Ordered}
use Rattle.circuit.specs.Records.{plain}
use Rattle.circuit.specs.Groups.{bad_code, bad_group, controls}
use Rattle.circuit.specs.Refusals.{refuse, first_rule}
use Rattle.circuit.proofs.Groups.{one_controls}
use Rattle.circuit.proofs.Every.{left, right, both, is_true}
use Rattle.codes.specs.Headings.{signal_of}
use Rattle.codes.specs.Numbers.{event_of}
use Rattle.layout.specs.Layout.{records_in, record_of, record_at, allowed_at}
use Rattle.step.specs.Refusals.{found_rules}
use Rattle.group.specs.Table.{step_in}
use Rattle.group.specs.Refusals.{refusal_in}
use Rattle.group.proofs.Laws.{refusals}
use Rattle.group.proofs.Valid.{low_flags, valid_at, behind}
use Rattle.reader.specs.Told.{Told as Fields}
use Rattle.reader.specs.Places.{cic_in}
use Rattle.reader.specs.Reading.{fields_of, reading}
use Rattle.ends.specs.Machine.{When.losing_all, When.never, none, silence, given, Happening, turn}
use Rattle.ends.specs.Ends.{end, idle, Agree, unheard as never_heard}
use Rattle.ends.proofs.Machine.{always, mirror}
use Rattle.ends.proofs.Standing.{Holds, changed, idles, restarts}
use Rattle.ends.proofs.Claim.{agreed}
use Rattle.ends.proofs.Heard.{next_heard}
use Rattle.exchanges.specs.Link.{Message, Exchange, is_about, good, plainly, Gift, Gift.event, refused13, exchange_acts, Has, IdleAt, restart_of, LinkStart, LinkStart.idle_at_both, LinkStart.first_restarted, LinkStart.second_restarted, ExchangesCome, ClaimOver}
use Rattle.exchanges.proofs.Sent.{circuit_read, named, heard_in}
use Rattle.exchanges.proofs.Seen.{seen_in, signals, silent}
use Rattle.exchanges.proofs.Carried.{Good, end_at, LinkHolds, HoldsPair, barred}
use Rattle.exchanges.proofs.Arrives.{plainly_good}
use Rattle.exchanges.proofs.Given.{lose, keeps_link}

-- AT THE START

-- a restart frees no circuit, so it is never refused 13
pub not_thirteen : (own far cic : ℕ) (table : List ℕ) → Has own far cic table → T (allowed_at table cic) → (step_in own far table cic (Some (Ordered Restart))).answer.refusal ≡ 13 → ⊥
not_thirteen own far cic table h a e =
    (behind (record_at table cic) (Some (Ordered Restart)) false 13 (lit≤ tt) (sym asked ∙ (sym (refusals own far table cic (Some (Ordered Restart))) ∙ e))).1
  where
    asked : refusal_in own far table cic (Some (Ordered Restart)) ≡ first_rule (found_rules (record_at table cic) (Some (Ordered Restart)) ++ (refuse 13 false ∷ []))
    asked = rw (h.group, lt-leb (records_in (length table)) cic h.circuit, is_true (allowed_at table cic) a) refl

module _ (own far cic : ℕ) where
  idle_there : (table : List ℕ) → IdleAt cic table → record_at table cic ≡ plain 0
  unfolding record_of
  idle_there table i = rw (i.state, i.flags) refl

  good_idle : (table : List ℕ) → Has own far cic table → IdleAt cic table → Good own far cic table
  good_idle table h i = record { has = h; low = rw i.flags (lit≤ tt) }

  good_allowed : (table : List ℕ) → Has own far cic table → T (allowed_at table cic) → Good own far cic table
  good_allowed table h a = record { has = h; low = low_flags table cic a }

start_idle : (own far cic : ℕ) (x y : Exchange) → Has own far cic x.holds → Has far own cic y.holds → IdleAt cic x.holds → IdleAt cic y.holds
    → T (silence (is_about cic) x y) → LinkHolds own far cic x y
start_idle own far cic x y hx hy ix iy t = record {
  first = good_idle own far cic x.holds hx ix;
  second = good_idle far own cic y.holds hy iy;
  ends = subst₂ (Holds (controls own far cic)) (sym ex) (sym ey) (idles (controls own far cic));
}
  where
    ex : end_at own far cic x ≡ idle
    ex = rw (idle_there own far cic x.holds ix, silent own far (records_in (length x.holds)) cic x.coming (left (none (is_about cic) x.coming) _ t)) refl

    ey : end_at far own cic y ≡ idle
    ey = rw (idle_there far own cic y.holds iy, silent far own (records_in (length y.holds)) cic y.coming (right (none (is_about cic) x.coming) _ t)) refl

start_restarted : (own far cic : ℕ) (x y : Exchange) → Has own far cic x.holds → Has far own cic y.holds → T (allowed_at x.holds cic) → T (allowed_at y.holds cic)
    → HoldsPair own far cic (turn (exchange_acts own far cic) (restart_of cic) x y)
unfolding event_of
start_restarted own far cic x y hx hy ax ay = go (refused13 own far cic x.holds cic (Some (Ordered Restart))) refl
  where
    not13 : (step_in own far x.holds cic (Some (Ordered Restart))).answer.refusal ≡ 13 → ⊥
    not13 = not_thirteen own far cic x.holds hx ax

    g : Good own far cic x.holds
    g = good_allowed own far cic x.holds hx ax

    k : Good far own cic y.holds
    k = good_allowed far own cic y.holds hy ay

    done : HoldsPair own far cic (given (exchange_acts own far cic) losing_all (event cic 2 10 0 plainly) x y)
    done = lose own far cic x y g k (Some (Ordered Restart)) plainly plainly_good not13
        (restarts (controls own far cic) (end (record_at x.holds cic) []) (end (record_at y.holds cic) []) (valid_at x.holds cic ax) (valid_at y.holds cic ay))

    go : (r : Bool) → refused13 own far cic x.holds cic (Some (Ordered Restart)) ≡ r
        → HoldsPair own far cic (given (exchange_acts own far cic) (cond (good plainly && not r) losing_all never) (event cic 2 10 0 plainly) x y)
    go true q = absurd (false≢true (sym (barred own far cic cic x.holds (Some (Ordered Restart)) (λ z. not13)) ∙ q))
    go false q = rw (is_true (good plainly) plainly_good) done

-- THE OTHER WAY ROUND

-- two codes of a group are different
pub different : (own far records : ℕ) → bad_group own far records ≡ false → own ≡ far → ⊥
different own far records good same = go (bad_code own) (bad_code far) (eqb own far) (eq-eqb own far same) (eqb records 0 || ltb 4096 records) good
  where
    go : (a b d : Bool) → d ≡ true → (e : Bool) → (a || b || d || e) ≡ false → ⊥
    go true b d t e f = true≢false f
    go false true d t e f = true≢false f
    go false false true t e f = true≢false f
    go false false false t e f = false≢true t

turned_round : (own far cic : ℕ) (x y : Exchange) → LinkHolds own far cic x y → LinkHolds far own cic y x
turned_round own far cic x y h = record {
  first = h.second;
  second = h.first;
  ends = subst (λ (c : Bool). Holds c (end_at far own cic y) (end_at own far cic x))
      (sym (one_controls own far cic (different own far (records_in (length x.holds)) h.first.has.group)))
      (changed (controls own far cic) (end_at own far cic x) (end_at far own cic y) h.ends);
}

-- WHAT HOLDS OF EXCHANGES THAT ARE REACHED

module _ (own far cic : ℕ) where
  started : (x y : Exchange) → LinkStart own far cic x y → LinkHolds own far cic x y
  started x y (idle_at_both p q hx hy ix iy t) = start_idle own far cic p q hx hy ix iy t
  started x y (first_restarted p q hx hy ax ay) = start_restarted own far cic p q hx hy ax ay
  started x y (second_restarted p q hx hy ax ay) =
      turned_round far own cic (turn (exchange_acts far own cic) (restart_of cic) q p).0 (turn (exchange_acts far own cic) (restart_of cic) q p).1 (start_restarted far own cic q p hy hx ay ax)

  keeps_second : (x y : Exchange) (g : Happening Gift) → LinkHolds own far cic x y → LinkHolds own far cic (turn (exchange_acts far own cic) g y x).1 (turn (exchange_acts far own cic) g y x).0
  keeps_second x y g h = turned_round far own cic (turn (exchange_acts far own cic) g y x).0 (turn (exchange_acts far own cic) g y x).1 (keeps_link far own cic y x g (turned_round own far cic x y h))

  pub link_holds : {x y : Exchange} → ExchangesCome own far cic x y → LinkHolds own far cic x y
  link_holds = always (LinkHolds own far cic) started (keeps_link own far cic) keeps_second

-- the two exchanges change places
pub mirror_link : {own far cic : ℕ} {x y : Exchange} → ExchangesCome own far cic x y → ExchangesCome far own cic y x
mirror_link {own} {far} {cic} = mirror turns
  where
    turns : (x y : Exchange) → LinkStart own far cic x y → LinkStart far own cic y x
    turns x y (idle_at_both p q hx hy ix iy t) = idle_at_both q p hy hx iy ix
        (both (none (is_about cic) q.coming) (none (is_about cic) p.coming) (right (none (is_about cic) p.coming) _ t) (left (none (is_about cic) p.coming) _ t))
    turns x y (first_restarted p q hx hy ax ay) = second_restarted q p hy hx ay ax
    turns x y (second_restarted p q hx hy ax ay) = first_restarted q p hy hx ay ax

-- DEMAND 3 OVER THE LINK

pub exchanges_agree : ClaimOver
unfolding ClaimOver
exchanges_agree own far cic x y r t wx wy = record { call = a.call; block_of_first = a.block_of_first; block_of_second = a.block_of_second }
  where
    h : LinkHolds own far cic x y
    h = link_holds own far cic r

    a : Agree (end_at own far cic x) (end_at far own cic y)
    a = agreed (controls own far cic) (end_at own far cic x) (end_at far own cic y) h.ends
        (silent own far (records_in (length x.holds)) cic x.coming (left (none (is_about cic) x.coming) _ t))
        (silent far own (records_in (length y.holds)) cic y.coming (right (none (is_about cic) x.coming) _ t)) wx wy

-- the message at the head of the queue, if it is the circuit's: its signal is none that never arrives there
pub head_heard : (own far cic : ℕ) (table : List ℕ) (m : Message) (rest : List Message) (y : Exchange) → ExchangesCome own far cic (record { holds = table; coming = m ∷ rest }) y
    → let r = reading own far (records_in (length table)) m in
    (s : Signal) → r.refusal ≡ 0 → r.message.circuit.0 ≡ cic → r.message.signal ≡ Some s → T (not (never_heard (record_at table cic).state s))
head_heard own far cic table m rest y q s z is says =
    next_heard (controls own far cic) (end_at own far cic (record { holds = table; coming = m ∷ rest })) (end_at far own cic y) (link_holds own far cic q).ends s
    (signals own far (records_in (length table)) cic rest) (ap (λ (l : List Signal). l ++ signals own far (records_in (length table)) cic rest) seen)
  where
    f : Fields
    f = fields_of own far (records_in (length table)) m

    seen : seen_in own far (records_in (length table)) cic m ≡ s ∷ []
    seen = ap (λ (b : Bool). cond b (heard_in f) []) (eq-eqb (cic_in m) cic (sym (circuit_read own far (records_in (length table)) m z) ∙ is))
        ∙ ap (λ (b : Bool). cond b (named (signal_of f.heading f.acm)) []) (eq-eqb f.refusal 0 z)
        ∙ ap named says
