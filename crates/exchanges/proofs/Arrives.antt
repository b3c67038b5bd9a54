-- A message that arrives at an exchange: about the circuit it is a signal that arrives at its end, or none; about another, or refused, it is nothing.
-- Assumes nothing.
use Rattle.std.specs.Prelude.{Option, Some, None}
use Rattle.circuit.specs.declared.Event.{Event}
use mathlib.Core.Path.{◌≡◌, refl, sym, ap, ◌∙◌, subst}
use mathlib.Core.Bool.{Bool, true, false, cond}
use mathlib.Core.List.{List, [], ◌∷◌, ◌++◌, append-nil}
use Prim.Native.Nat.{ℕ, ◌^◌, ◌<◌, ◌≤◌}
use native.Mathlib.Omega.{arith}
use borrow.Author.Tests.{eq-eqb, ne_eqb, eqb-true, eqb-false, leb-false}
use lib.Dec.{T, eqb, leb, le→leb, lit≤}
use lib.ListN.{length, replicate}
use Rattle.circuit.specs.declared.Record.{Record}
use Rattle.circuit.specs.declared.Signal.{Signal}
use Rattle.circuit.specs.Groups.{controls}
use Rattle.circuit.specs.Refusals.{Clear}
use Rattle.circuit.proofs.Refusals.{clear}
use Rattle.circuit.proofs.Every.{is_true}
use Rattle.codes.specs.Headings.{signal_of}
use Rattle.codes.specs.Numbers.{detail_fits, arrives as named-event, event_of}
use Rattle.words.specs.Octets.{number_of, over}
use Rattle.words.proofs.Octets.{number_back}
use Rattle.layout.specs.Layout.{records_in, record_at}
use Rattle.group.specs.Table.{step_in}
use Rattle.reader.specs.Told.{Told as Fields}
use Rattle.formats.specs.Format.{ACM}
use Rattle.formats.specs.Messages.{format_of, is_acm}
use Rattle.formats.proofs.Format.{got_fits}
use Rattle.formats.proofs.ByHeading.{acm_most}
use Rattle.reader.specs.Places.{cic_in, heading_in, field_by}
use Rattle.formats.specs.Octets.{short}
use Rattle.reader.specs.Reading.{read_rules, fields_of}
use Rattle.reader.proofs.Faults.{read_refusal, read_fields}
use Rattle.writer.specs.Writing.{bad_address}
use Rattle.tup.specs.Entries.{fields_octets, packed_refusal, Told}
use Rattle.tup.proofs.Entries.{refuses, fills}
use Rattle.ends.specs.Machine.{acted, arrival, Happening.arrives, Happening.host}
use Rattle.ends.specs.Ends.{end, in_order, does}
use Rattle.ends.proofs.Standing.{Holds, keeps}
use Rattle.exchanges.specs.Link.{Message, Exchange, is_about, good, plainly, steps, refused13, reads, circuit_in, taking, sticking, exchange_acts}
use Rattle.exchanges.proofs.Sent.{below, circuit_read, named, heard_in}
use Rattle.exchanges.proofs.Seen.{seen_in, signals}
use Rattle.exchanges.proofs.Carried.{end_at, LinkHolds, HoldsPair, EndsActed, on_it, beside_it, not_barred}

pub plainly_good : T (good plainly)
unfolding good bad_address short
plainly_good = tt

-- an accepted message is of a circuit of the group
of_group : (own far count : ℕ) (m : Message) → (fields_of own far count m).refusal ≡ 0 → cic_in m < count
of_group own far count m z = leb-false count (cic_in m) tests.1.1.1.1.1.1.1.1.1.0
  where
    tests : Clear (read_rules own far count m)
    tests = clear (read_rules own far count m) tt (sym (read_refusal own far count m) ∙ z)

-- what the reader answers: the refusal, or the fields in 23 octets
module _ (own far watched : ℕ) (table : List ℕ) (m : Message) where
  abbrev f : Fields
  f = fields_of own far (records_in (length table)) m

  by_reading : (P : Told → Type 0) → ((answer : ℕ) → (answer ≡ 0 → ⊥) → (f.refusal ≡ 0 → ⊥) → P (record { answer = answer; buffer = replicate 23 0 }))
      → (f.refusal ≡ 0 → P (record { answer = 0; buffer = over (fields_octets f) (replicate 23 0) })) → P (reads own far watched table m)
  by_reading P other taken = go (eqb f.refusal 0) refl
    where
      go : (b : Bool) → eqb f.refusal 0 ≡ b → P (reads own far watched table m)
      go true e = let z = eqb-true f.refusal 0 e in
          subst P (sym (fills own far (records_in (length table)) m (replicate 23 0) f refl z (lit≤ tt))) (taken z)
      go false e = let z = eqb-false f.refusal 0 e in
          subst P (sym (refuses own far (records_in (length table)) m (replicate 23 0) f refl z)) (other (packed_refusal f.refusal f.place) (λ y. z (omega arith)) z)

  -- the fields of an accepted message are an event's numbers: the detail is an ACM's octet, or 0
  fitting : f.refusal ≡ 0 → detail_fits f.heading f.acm ≡ true
  fitting e =
      subst (λ (g : Fields). detail_fits g.heading g.acm ≡ true) (sym (read_fields own far (records_in (length table)) m (sym (read_refusal own far (records_in (length table)) m) ∙ e)))
      (by_acm (is_acm (heading_in m)) refl most)
    where
      octet : ℕ
      octet = field_by (format_of (heading_in m)) ACM m

      most : octet ≤ cond (is_acm (heading_in m)) 63 0
      most = subst (λ (k : ℕ). octet ≤ k) (acm_most (heading_in m)) ((got_fits (format_of (heading_in m)) (number_of m)).fields ACM)

      by_acm : (b : Bool) → is_acm (heading_in m) ≡ b → octet ≤ cond b 63 0 → detail_fits (heading_in m) octet ≡ true
      by_acm true e h = let l : octet ≤ 255 = omega arith in rw (is_true (leb octet 255) (le→leb octet 255 l), e) refl
      by_acm false e h = let z : octet ≡ 0 = omega arith in rw (z, e) refl

module _ (own far cic : ℕ) where
  -- the two ends, when a signal arrives that a message names, or none
  heard_step : (r : Record) (n : Option Signal) (w : List Signal) (t : Record) (v : List Signal) → Holds (controls own far cic) (end r (named n ++ w)) (end t v)
      → Holds (controls own far cic) (end (does (controls own far cic) r (named-event n)).after w) (end t (v ++ in_order (does (controls own far cic) r (named-event n)).sends))
  heard_step r (Some s) w t v i = keeps (controls own far cic) (end r (s ∷ w)) (end t v) arrives i
  heard_step r None w t v i = keeps (controls own far cic) (end r w) (end t v) (host None) i

  module _ (table : List ℕ) (m : Message) (rest : List Message) (y : Exchange) (h : LinkHolds own far cic (record { holds = table; coming = m ∷ rest }) y) where
    abbrev n : ℕ
    n = records_in (length table)

    abbrev F : Fields
    F = fields_of own far n m

    abbrev Arrived : Told → Type 0
    Arrived r = HoldsPair own far cic (cond (sticking own far cic table r) (record { holds = table; coming = m ∷ rest }, y) (acted (taking own far cic table r) rest y))

    -- its message is gone, and nobody heard anything in it
    unheard : seen_in own far n cic m ≡ [] → Holds (controls own far cic) (end (record_at table cic) (signals own far n cic rest)) (end_at far own cic y)
    unheard e = subst (λ (l : List Signal). Holds (controls own far cic) (end (record_at table cic) (l ++ signals own far n cic rest)) (end_at far own cic y)) e h.ends

    dropped : (answer : ℕ) → (answer ≡ 0 → ⊥) → (F.refusal ≡ 0 → ⊥) → Arrived (record { answer = answer; buffer = replicate 23 0 })
    dropped answer y₀ z = rw (ne_eqb answer 0 y₀) (record {
      first = h.first;
      second = h.second;
      ends = subst (λ (l : List Message). Holds (controls own far cic) (end (record_at table cic) (signals own far n cic rest)) (end_at far own cic (record { holds = y.holds; coming = l })))
          (sym (append-nil y.coming)) (unheard (by_about (is_about cic m)));
    })
      where
        nothing : heard_in F ≡ []
        nothing = ap (λ (b : Bool). cond b (named (signal_of F.heading F.acm)) []) (ne_eqb F.refusal 0 z)

        by_about : (b : Bool) → cond b (heard_in F) [] ≡ []
        by_about true = nothing
        by_about false = refl

    module _ (z : F.refusal ≡ 0) where
      abbrev e : Option Event
      e = event_of 1 F.heading F.acm

      is_named : e ≡ named-event (signal_of F.heading F.acm)
      unfolding event_of
      is_named = ap (λ (b : Bool). cond b (named-event (signal_of F.heading F.acm)) None) (fitting own far cic table m z)

      hears : is_about cic m ≡ true → seen_in own far n cic m ≡ named (signal_of F.heading F.acm)
      hears a = ap (λ (b : Bool). cond b (heard_in F) []) a ∙ ap (λ (b : Bool). cond b (named (signal_of F.heading F.acm)) []) (eq-eqb F.refusal 0 z)

      -- the circuit that it names
      on_circuit : is_about cic m ≡ true → ((step_in own far table cic e).answer.refusal ≡ 13 → ⊥)
          → HoldsPair own far cic (acted (steps own far cic table cic e plainly) rest y)
      on_circuit a not13 = on_it own far cic table y.holds h.first h.second e plainly rest y.coming plainly_good not13
          (subst (λ (e : Option Event). EndsActed own far cic table y.holds h.first h.second e (signals own far n cic rest) (signals far own (records_in (length y.holds)) cic y.coming)) (sym is_named)
          (heard_step (record_at table cic) (signal_of F.heading F.acm) (signals own far n cic rest) (record_at y.holds cic) _
          (subst (λ (l : List Signal). Holds (controls own far cic) (end (record_at table cic) (l ++ signals own far n cic rest)) (end_at far own cic y)) (hears a) h.ends)))

      stepping : (not13 : Bool) → refused13 own far cic table (cic_in m) e ≡ not13
          → HoldsPair own far cic (cond not13 (record { holds = table; coming = m ∷ rest }, y) (acted (steps own far cic table (cic_in m) e plainly) rest y))
      stepping true q = h
      stepping false q = go (is_about cic m) refl
        where
          go : (b : Bool) → is_about cic m ≡ b → HoldsPair own far cic (acted (steps own far cic table (cic_in m) e plainly) rest y)
          go true a = subst (λ (i : ℕ). HoldsPair own far cic (acted (steps own far cic table i e plainly) rest y)) (sym (eqb-true (cic_in m) cic a))
              (on_circuit a (not_barred own far cic table e (subst (λ (i : ℕ). refused13 own far cic table i e ≡ false) (eqb-true (cic_in m) cic a) q)))
          go false a = beside_it own far cic table y.holds h.first h.second (cic_in m) (eqb-false (cic_in m) cic a) e plainly rest y.coming
              (unheard (ap (λ (b : Bool). cond b (heard_in F) []) a))

      -- the circuit comes back from its two octets
      circuit : circuit_in (over (fields_octets F) (replicate 23 0)) ≡ cic_in m
      circuit = number_back 2 F.circuit.0 low ∙ circuit_read own far n m z
        where
          low : F.circuit.0 < 256 ^ 2
          low = let a : F.circuit.0 ≡ cic_in m = circuit_read own far n m z in let b : cic_in m < 4096 = below own far n (cic_in m) h.first.has.group (of_group own far n m z) in omega arith

      taken : Arrived (record { answer = 0; buffer = over (fields_octets F) (replicate 23 0) })
      taken = subst (λ (i : ℕ). HoldsPair own far cic (cond (refused13 own far cic table i e) (record { holds = table; coming = m ∷ rest }, y) (acted (steps own far cic table i e plainly) rest y)))
          (sym circuit) (stepping (refused13 own far cic table (cic_in m) e) refl)

    arrived : Arrived (reads own far cic table m)
    arrived = by_reading own far cic table m Arrived dropped taken

  pub keeps_arrival : (table : List ℕ) (q : List Message) (y : Exchange) → LinkHolds own far cic (record { holds = table; coming = q }) y → HoldsPair own far cic (arrival (exchange_acts own far cic) table q y)
  keeps_arrival table [] y h = h
  keeps_arrival table (m ∷ rest) y h = arrived table m rest y h
