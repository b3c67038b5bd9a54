-- An event at one exchange, carried to the circuit's two ends: on the circuit it is the step of its end there, and beside it it changes neither of them. What
-- holds of two ends that are reached is kept so by either.
-- Assumes nothing.
use Rattle.std.specs.Prelude.{Option}
use Rattle.circuit.specs.declared.Event.{Event}
use mathlib.Core.Path.{◌≡◌, refl, sym, ap, ◌∙◌, subst}
use mathlib.Core.Bool.{Bool, true, false, ◌&&◌, and-false}
use mathlib.Core.List.{List, ◌++◌, append-nil}
use Prim.Native.Nat.{ℕ, ◌≤◌}
use borrow.Author.Tests.{eq-eqb, ne_eqb, eqb-true, eqb-false}
use lib.Dec.{T, eqb}
use lib.ListN.{length}
use Rattle.circuit.specs.declared.Record.{Record}
use Rattle.circuit.specs.declared.Signal.{Signal}
use Rattle.circuit.specs.declared.Sends.{Sends}
use Rattle.circuit.specs.declared.Outcome.{Outcome}
use Rattle.circuit.specs.Groups.{controls}
use Rattle.layout.specs.Layout.{Held, records_in, flags_at, record_of, record_at, put}
use Rattle.layout.proofs.Laws.{flags_low, put_flags, ranked_flags}
use Rattle.step.specs.Step.{step_found}
use Rattle.group.specs.Table.{step_in}
use Rattle.group.proofs.Laws.{Carries, by_cases, others, keeps_length, is_step}
use Rattle.ends.specs.Machine.{Both, acted}
use Rattle.ends.specs.Ends.{End, end, in_order, does}
use Rattle.ends.proofs.Words.{heard, heard_more}
use Rattle.ends.proofs.Standing.{Holds, same_words}
use Rattle.exchanges.specs.Link.{Message, Exchange, Particulars, good, writes_all, steps, refused13, Has}
use Rattle.exchanges.proofs.Seen.{signals, signals_more, sent_beside, sent_here}

-- a table of a good group that has the circuit, with flags there
pub record Good (own far cic : ℕ) (table : List ℕ) : Type 0 where
  pub has : Has own far cic table
  pub low : flags_at table cic ≤ 15

-- the circuit's end of an exchange
abbrev pub end_at : (own far cic : ℕ) → Exchange → End
end_at own far cic x = end (record_at x.holds cic) (signals own far (records_in (length x.holds)) cic x.coming)

pub record LinkHolds (own far cic : ℕ) (x y : Exchange) : Type 0 where
  pub first : Good own far cic x.holds
  pub second : Good far own cic y.holds
  pub ends : Holds (controls own far cic) (end_at own far cic x) (end_at far own cic y)

abbrev pub HoldsPair : (own far cic : ℕ) → Both (List ℕ) Message → Type 0
HoldsPair own far cic p = LinkHolds own far cic p.0 p.1

-- A TABLE STAYS GOOD

module _ (own far cic : ℕ) (table : List ℕ) (g : Good own far cic table) (i : ℕ) (e : Option Event) where
  low_here : flags_at (step_in own far table cic e).table cic ≤ 15
  low_here =
      by_cases own far table cic e (λ s. flags_at s.table cic ≤ 15) g.low g.low (λ n h. g.low)
      (λ h l a f. rw (put_flags table cic o.after h) (flags_low o.after))
      (λ h l a f k. rw (ranked_flags (put table cic o.after) cic cic _, put_flags table cic o.after h) (flags_low o.after))
    where
      o : Outcome
      o = step_found (controls own far cic) (record_at table cic) e

  still_low : flags_at (step_in own far table i e).table cic ≤ 15
  still_low = go (eqb i cic) refl
    where
      go : (b : Bool) → eqb i cic ≡ b → flags_at (step_in own far table i e).table cic ≤ 15
      go true q = rw (eqb-true i cic q) low_here
      go false q = subst (λ (h : Held). h.flags ≤ 15) (sym (others own far table i e cic (λ z. eqb-false i cic q (sym z))).held) g.low

  stepped : Good own far cic (step_in own far table i e).table
  stepped = record {
    has = record { group = rw (keeps_length own far table i e) g.has.group; circuit = rw (keeps_length own far table i e) g.has.circuit };
    low = still_low;
  }

-- REFUSED 13

-- on the circuit: what is not barred is not refused 13
pub not_barred : (own far cic : ℕ) (table : List ℕ) (e : Option Event) → refused13 own far cic table cic e ≡ false → (step_in own far table cic e).answer.refusal ≡ 13 → ⊥
not_barred own far cic table e q = eqb-false (step_in own far table cic e).answer.refusal 13 (go (eqb (step_in own far table cic e).answer.refusal 13) q)
  where
    go : (b : Bool) → (b && eqb cic cic) ≡ false → b ≡ false
    go true q = sym (eq-eqb cic cic refl) ∙ q
    go false q = refl

-- on any circuit: nothing is barred but what that one refuses 13
pub barred : (own far cic i : ℕ) (table : List ℕ) (e : Option Event) → (i ≡ cic → (step_in own far table i e).answer.refusal ≡ 13 → ⊥) → refused13 own far cic table i e ≡ false
barred own far cic i table e not13 = go (eqb i cic) refl
  where
    go : (b : Bool) → eqb i cic ≡ b → (eqb (step_in own far table i e).answer.refusal 13 && b) ≡ false
    go true q = rw (ne_eqb (step_in own far table i e).answer.refusal 13 (not13 (eqb-true i cic q))) refl
    go false q = and-false (eqb (step_in own far table i e).answer.refusal 13)

-- AN EVENT ON THE CIRCUIT, AND ONE BESIDE IT

module _ (own far cic : ℕ) (table u : List ℕ) (g : Good own far cic table) (k : Good far own cic u) where
  abbrev pub c : Bool
  c = controls own far cic

  abbrev pub mine : List Message → List Signal
  mine = signals own far (records_in (length table)) cic

  abbrev pub theirs : List Message → List Signal
  theirs = signals far own (records_in (length u)) cic

  -- what the two ends come to
  abbrev pub EndsActed : Option Event → (w v : List Signal) → Type 0
  EndsActed e w v = Holds c (end (does c (record_at table cic) e).after w) (end (record_at u cic) (v ++ in_order (does c (record_at table cic) e).sends))

  -- what the exchanges come to, with w and v still on their way
  abbrev pub Acted : (i : ℕ) → Option Event → Particulars → (w v : List Message) → Type 0
  Acted i e p w v = HoldsPair own far cic (acted (steps own far cic table i e p) w (record { holds = u; coming = v }))

  -- another table of the same length, with this record at the circuit
  stored : (after : List ℕ) → length after ≡ length table → (r : Record) → record_at after cic ≡ r → (w : List Message) (v : List Signal)
      → Holds c (end r (mine w)) (end (record_at u cic) v) → Holds c (end_at own far cic (record { holds = after; coming = w })) (end (record_at u cic) v)
  stored after long r is w v h =
      subst (λ (n : ℕ). Holds c (end (record_at after cic) (signals own far (records_in n) cic w)) (end (record_at u cic) v)) (sym long)
      (subst (λ (r : Record). Holds c (end r (mine w)) (end (record_at u cic) v)) (sym is) h)

  pub on_it : (e : Option Event) (p : Particulars) (w v : List Message) → T (good p) → ((step_in own far table cic e).answer.refusal ≡ 13 → ⊥)
      → EndsActed e (mine w) (theirs v) → Acted cic e p w v
  unfolding does
  on_it e p w v gp not13 i = record {
    first = stepped own far cic table g cic e;
    second = k;
    ends = stored (step_in own far table cic e).table (keeps_length own far table cic e) o.after s.stored w (theirs (v ++ sending (step_in own far table cic e).answer.sends))
        (subst (λ (q : Sends). Holds c (end o.after (mine w)) (end (record_at u cic) (theirs (v ++ sending q)))) (sym s.sends)
        (same_words c o.after (mine w) (record_at u cic) (theirs v ++ in_order o.sends) (theirs (v ++ sending o.sends)) more i));
  }
    where
      o : Outcome
      o = step_found c (record_at table cic) e

      s : Carries cic o (step_in own far table cic e)
      s = is_step own far table cic e g.has.group g.has.circuit g.low not13

      sending : Sends → List Message
      sending q = writes_all own far (records_in (length table)) cic p (in_order q)

      more : heard (theirs v ++ in_order o.sends) ≡ heard (theirs (v ++ sending o.sends))
      more = sym (ap heard (signals_more far own (records_in (length u)) cic v (sending o.sends)) ∙ heard_more (theirs v) (theirs (sending o.sends))
          ∙ ap (λ (l : List ℕ). heard (theirs v) ++ l) (sent_here far own (records_in (length u)) cic (records_in (length table)) g.has.group g.has.circuit k.has.group k.has.circuit p gp (in_order o.sends))
          ∙ sym (heard_more (theirs v) (in_order o.sends)))

  pub beside_it : (i : ℕ) → (i ≡ cic → ⊥) → (e : Option Event) (p : Particulars) (w v : List Message)
      → Holds c (end (record_at table cic) (mine w)) (end (record_at u cic) (theirs v)) → Acted i e p w v
  beside_it i other e p w v h = record {
    first = stepped own far cic table g i e;
    second = k;
    ends = stored (step_in own far table i e).table (keeps_length own far table i e) (record_at table cic) unchanged w (theirs (v ++ sent))
        (subst (λ (q : List Signal). Holds c (end (record_at table cic) (mine w)) (end (record_at u cic) q)) (sym nothing) h);
  }
    where
      unchanged : record_at (step_in own far table i e).table cic ≡ record_at table cic
      unchanged = ap (λ (h : Held). record_of h.state h.flags) (others own far table i e cic (λ z. other (sym z))).held

      sent : List Message
      sent = writes_all own far (records_in (length table)) i p (in_order (step_in own far table i e).answer.sends)

      nothing : theirs (v ++ sent) ≡ theirs v
      nothing = signals_more far own (records_in (length u)) cic v sent
          ∙ rw (sent_beside far own (records_in (length u)) cic (records_in (length table)) i other p (in_order (step_in own far table i e).answer.sends)) (append-nil (theirs v))
