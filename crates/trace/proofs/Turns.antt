-- One event of a replay: its share of the text and of the table, from what the functions that are called for it ensure.
-- Assumes nothing.
use mathlib.Core.Path.{◌≡◌, refl, ap, sym, ◌∙◌}
use mathlib.Core.Bool.{Bool, true, false, cond}
use mathlib.Core.List.{List, ◌++◌}
use Prim.Native.Nat.{ℕ, ◌-◌, ◌≤◌}
use native.Mathlib.Nat.{zero-add}
use native.Mathlib.Omega.{arith}
use Rattle.std.specs.Prelude.{Some, None}
use Rattle.std.proofs.lemmas.Option.{none-some}
use lib.ListN.{length, take, drop}
use lib.Dec.{eqb}
use borrow.Author.Tests.{le-ltb, eqb-true}
use borrow.Rule.Slice.PartMut.{mid_of, put_mid, same_len_mid}
use Rattle.codes.specs.Numbers.{event_of}
use Rattle.answers.specs.Answers.{Answer, Unpacked}
use Rattle.group.specs.Table.{Step, step_in}
use Rattle.text.specs.declared.Line.{Line}
use Rattle.text.specs.Lines.{line}
use Rattle.words.specs.Octets.{over}
use Rattle.text.specs.Writing.{Printed, in_room, line_room}
use Rattle.records.specs.declared.Recorded.{Recorded}
use Rattle.records.specs.declared.Item.{Item}
use Rattle.records.specs.declared.Item.TheVariants.{Event}
use Rattle.records.specs.Records.{octets_of, item, behind}
use Rattle.records.proofs.Items.{whole, behind_event}
use Rattle.parts.specs.declared.Running.{Running}
use Rattle.parts.specs.declared.Turn.{Turn}
use Rattle.parts.specs.declared.Stage.TheVariants.{Runs, Cut}
use Rattle.parts.specs.Feed.{Share, share_of, share_at, share, starts_none}
use Rattle.parts.specs.Way.{Lands, Ran}
use Rattle.parts.proofs.Turns.{some_turn}
use Rattle.parts.proofs.Rooms.{mid_length, put_back}
use Rattle.parts.proofs.Loop.{Sofar, back_stopped}
use Rattle.trace.specs.Replay.{happens, line_of, event_text, ahead_of, replaying}
use Rattle.trace.specs.Way.{word_line}
use Rattle.trace.proofs.Events.{lawful}

-- the line of the number that an answer is
of_word : (ordinal circuit w : ℕ) (a : Answer) → Unpacked w a → word_line ordinal circuit w ≡ line_of ordinal circuit a
of_word ordinal circuit w a u = rw (u.refusal, u.state, u.flags, u.ind, u.first, u.second)

module _ (r : Running) (table part : List ℕ) (e : Recorded) (here : item part ≡ Event e) (w : ℕ) (l : Line) (table' room room' : List ℕ) (n o : ℕ) where
  abbrev does : Step
  does = step_in r.group.codes.own.0 r.group.codes.far.0 table e.circuit (event_of e.kind e.code e.detail)

  abbrev had : Share (List ℕ)
  had = share_of (ahead_of (Event e) r table) table

  -- the reader stands behind the event's record
  further : o ≡ behind part 0 → o ≡ octets_of e.kind
  further p = p ∙ behind_event part 0 e here ∙ zero-add (octets_of e.kind)

  pub event_lands : Unpacked w does.answer
      → table' ≡ does.table
      → l ≡ word_line r.next e.circuit w
      → line_room ≤ length room
      → Printed room (in_room room (line l)) n room'
      → o ≡ behind part 0
      → Lands (share_of (ahead_of (item part) r table) table) room (Some (record { taken = o; written = n })) table' room'
  unfolding happens
  event_lands u t k h p q =
      let x : l ≡ line_of r.next e.circuit does.answer = k ∙ of_word r.next e.circuit w does.answer u in
      let is : in_room room (line l) ≡ event_text r table e = rw (le-ltb (length room) line_room h, x) in
      let some : had.taken ≡ 0 → ⊥ = λ z. omega (arith, (whole part e here).some) in
      rw here (record { answers = rw (p.count, is, further q) (sym (some_turn had some)); leaves = t; writes = rw (p.room, is) })

-- a turn that takes nothing had nothing to take, and the table and the room are as that leaves them
pub nothing_taken : (h : Share (List ℕ)) (room table' room' : List ℕ) → Lands h room None table' room' → (h.taken ≡ 0) × (table' ≡ h.state) × (room' ≡ over h.text room)
nothing_taken h room table' room' l = (go (eqb h.taken 0) refl l.answers, l.leaves, l.writes)
  where
    had_turn : Turn
    had_turn = record { taken = h.taken; written = length h.text }

    go : (b : Bool) → eqb h.taken 0 ≡ b → None ≡ cond b None (Some had_turn) → h.taken ≡ 0
    go true e a = eqb-true _ _ e
    go false e a = absurd (none-some _ a)

-- what is left of the part and of the room from a place on
abbrev pub left : List ℕ → ℕ → List ℕ
left xs at = mid_of at (length xs - at) xs

-- what such a turn leaves before what was read, wherever the run stands: it is where it was, and table and room are as that turn's share has them
pub record Stays (i : Item) (r : Running) (table room : List ℕ) (out : ℕ) (table' room' : List ℕ) : Type 0 where
  pub taken : (share_at (ahead_of i r table) r table (length room - out)).taken ≡ 0
  pub leaves : table' ≡ (share_at (ahead_of i r table) r table (length room - out)).state
  pub writes : room' ≡ take out room ++ over (share_at (ahead_of i r table) r table (length room - out)).text (drop out room)
  pub keeps_table : length table' ≡ length table
  pub keeps_room : length room' ≡ length room

module _ (i : Item) (r : Running) (table room : List ℕ) (out : ℕ) {table' ys : List ℕ} (l : Lands (share_at (ahead_of i r table) r table (length (left room out))) (left room out) None table' ys)
    (tk : length table' ≡ length table) (yk : length ys ≡ length (left room out)) where
  had_in : share_at (ahead_of i r table) r table (length (left room out)) ≡ share_at (ahead_of i r table) r table (length room - out)
  had_in = ap (share_at (ahead_of i r table) r table) (mid_length room out)

  pub stays : Stays i r table room out table' (put_mid out (length room - out) room ys)
  stays =
      let n = nothing_taken _ _ _ _ l in
      record {
        taken = sym (ap (λ (h : Share (List ℕ)). h.taken) had_in) ∙ n.0;
        leaves = l.leaves ∙ ap (λ (h : Share (List ℕ)). h.state) had_in;
        writes = put_back room out (share_at (ahead_of i r table) r table (length room - out)).text ys (l.writes ∙ ap (λ (h : Share (List ℕ)). over h.text (left room out)) had_in);
        keeps_table = tk;
        keeps_room = same_len_mid out (length room - out) room ys yk;
      }

-- and it ends the run: that stops where it stands, at `at` of the part with `out` of the room written, and the trace is cut there if what stands
-- there is no event
pub turn_over : (r : Running) (table part room : List ℕ) (at out : ℕ) {table' ys : List ℕ} → Lands (share replaying r table (left part at) (length (left room out))) (left room out) None table' ys
    → length table' ≡ length table
    → length ys ≡ length (left room out)
    → Stays (item (left part at)) r table room out table' (put_mid out (length room - out) room ys)
    × ((r₀ : Running) (table₀ room₀ : List ℕ) → Sofar replaying r₀ table₀ part room₀ r table room at out
    → (none : Bool) → ((r : Running) (t : List ℕ) → none ≡ starts_none (ahead_of (item (left part at)) r t))
    → Ran replaying r₀ table₀ part room₀ (record { taken = at; written = out; stage = cond none (Cut r.next) (Runs r) }) table' (put_mid out (length room - out) room ys))
turn_over r table part room at out l tk yk = (stays (item (left part at)) r table room out l tk yk, λ r₀ table₀ room₀ u none n. back_stopped lawful u l yk none refl n)
