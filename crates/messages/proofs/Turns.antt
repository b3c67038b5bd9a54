-- One message of a list: its share of the text, from what the functions that are called for it ensure; and where a run of messages stops.
-- Assumes nothing.
use mathlib.Core.Path.{◌≡◌, refl, ap, sym, subst, ◌∙◌}
use mathlib.Core.Bool.{Bool, true, false, cond}
use mathlib.Core.List.{List, [], ◌∷◌}
use Prim.Native.Nat.{ℕ, ◌+◌, ◌≤◌, ◌<◌}
use Rattle.std.specs.Prelude.{Some, Ok, Err}
use native.Mathlib.Omega.{arith}
use lib.Dec.{ltb}
use lib.Seq.{length-take-le}
use lib.ListN.{length, drop, length-append, length-drop}
use borrow.Author.Tests.{le-ltb, ltb-true, ltb-false, ne_eqb}
use Rattle.words.specs.Octets.{number_of, over}
use Rattle.formats.specs.Format.{COUNT, content_in}
use Rattle.formats.specs.Messages.{format_of, has_signals}
use Rattle.formats.proofs.Format as format
use Rattle.formats.proofs.ByHeading.{count_most}
use Rattle.reader.specs.Told.{Told, told, no_codes}
use Rattle.names.specs.Refusal.{number_of as refusal_of}
use Rattle.names.proofs.Once.{number_above_0}
use Rattle.reader.specs.declared.Fault.{Fault}
use Rattle.reader.specs.declared.Fields.{Fields}
use Rattle.reader.specs.Faults.{Fault as Judged, fault}
use Rattle.reader.specs.Places.{heading_in}
use Rattle.reader.specs.Reading.{fields_in, judged, read_faults, fields_of}
use Rattle.text.specs.Lines.{refused_line}
use Rattle.text.specs.Writing.{Printed, in_room, line_room}
use Rattle.text.proofs.Numbers.{by_test}
use Rattle.records.specs.Records.{octet}
use Rattle.records.proofs.Items.{never}
use Rattle.parts.specs.declared.Running.{Running}
use Rattle.parts.specs.Whole.{Ahead.Takes, Stateless, no_state}
use Rattle.parts.specs.Feed.{Share, no_share, share_of, starts_none}
use Rattle.parts.specs.Way.{Lands}
use Rattle.parts.proofs.Turns.{some_turn}
use Rattle.messages.specs.Listing.{read_line, message_line, message_in, fields_at, ahead_in}
use Rattle.messages.proofs.Laws.{by_message, is_whole}

-- ---- the reader answers no more address signals than it has places for

judged_count : (faults : List Judged) (f : Told) → f.count ≤ length f.address → (judged faults f).count ≤ length (judged faults f).address
judged_count [] f h = h
judged_count (fault n found place ∷ faults) f h = by_test found (λ e. rw e (omega arith)) (λ e. rw e (judged_count faults f h))

fifteen : (b : Bool) (n : ℕ) → n ≤ cond b 15 0 → n ≤ 15
fifteen true n h = h
fifteen false n h = omega arith

places : (x : List ℕ) → 15 ≤ length (over x no_codes)
places x = rw (length-append, length-drop) (omega arith)

fields_count : (h : ℕ) (xs : List ℕ) → (fields_in h xs).count ≤ length (fields_in h xs).address
fields_count h xs =
    let c = content_in (format_of h) xs in
    let few : c.says COUNT ≤ 15 = fifteen (has_signals h) _ (subst (λ (k : ℕ). c.says COUNT ≤ k) (count_most h) ((format.got_fits (format_of h) (number_of xs)).fields COUNT)) in
    omega (arith, places c.signals)

pub few_signals : (own far records : ℕ) (xs : List ℕ) → let f = fields_of own far records xs in f.count ≤ length f.address
unfolding fields_of
few_signals own far records xs = judged_count (read_faults own far records xs) (fields_in (heading_in xs) xs) (fields_count (heading_in xs) xs)

-- the line of what is refused
pub refused_is : (ordinal : ℕ) (e : Fault) → message_line ordinal (told (Err e)) ≡ refused_line ordinal (refusal_of e.refusal) e.place
unfolding message_line
refused_is ordinal e = rw (ne_eqb (refusal_of e.refusal) 0 (number_above_0 e.refusal))

-- and of what is read
pub read_is : (ordinal : ℕ) (f : Fields) → message_line ordinal (told (Ok f)) ≡ read_line ordinal (told (Ok f))
unfolding message_line
read_is ordinal f = refl

-- ---- a message's turn

pub not_there : (r : Running) (s : List ℕ) → length s < 1 + octet s 0 → share_of (ahead_in r s) no_state ≡ no_share no_state
not_there r s h = by_message r s (λ z q. rw q) (λ z q. rw q) (λ l q. absurd (omega arith))

pub there : (s : List ℕ) → (length s < 1 + octet s 0 → true ≡ false) → 1 + octet s 0 ≤ length s
there s none = by_test (ltb (length s) (1 + octet s 0)) (λ e. never (let y = none (ltb-true _ _ e) in cc)) (λ e. ltb-false _ _ e)

module _ (r : Running) (s room room' octets : List ℕ) (n : ℕ) where
  abbrev had : Share Stateless
  had = share_of (Takes (1 + octet s 0) (message_line r.next (fields_at r s)) no_state) no_state

  pub message_lands : 1 + octet s 0 ≤ length s
      → octets ≡ message_in s
      → line_room ≤ length room
      → Printed room (in_room room (message_line r.next (fields_of r.group.codes.own.0 r.group.codes.far.0 r.group.circuits octets))) n room'
      → Lands (share_of (ahead_in r s) no_state) room (Some (record { taken = 1 + length octets; written = n })) no_state room'
  message_lands l o h p =
      let k : length octets ≡ octet s 0 = ap length o ∙ length-take-le (octet s 0) (drop 1 s) (rw length-drop (omega arith)) in
      let is : in_room room (message_line r.next (fields_of r.group.codes.own.0 r.group.codes.far.0 r.group.circuits octets)) ≡ message_line r.next (fields_at r s) =
      rw (le-ltb (length room) line_room h, o) in
      rw (is_whole r s l) (record { answers = rw (p.count, is, k) (sym (some_turn had (λ z. omega arith))); leaves = refl; writes = rw (p.room, is) })

-- a list never meets what is no message
pub always_one : (r : Running) (s : List ℕ) → false ≡ starts_none (ahead_in r s)
always_one r s = by_message r s (λ h q. rw q) (λ h q. rw q) (λ l q. rw q)
