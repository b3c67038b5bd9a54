-- The state of a loop that makes a run of records: where it starts, what a record changes, and what it comes to.
-- Assumes nothing.
use mathlib.Core.Path.{◌≡◌, refl, ap, sym, subst, ◌∙◌}
use mathlib.Core.Bool.{Bool, cond}
use mathlib.Core.List.{List, ◌++◌, append-nil}
use Prim.Native.Nat.{ℕ, ◌+◌, ◌-◌, ◌≤◌, ◌<◌}
use native.Mathlib.Nat.{add-zero, zero-add, sub-zero}
use native.Mathlib.Omega.{arith}
use lib.Dec.{eqb}
use Rattle.std.specs.Prelude.{Option, Some, None}
use lib.ListN.{length, take, drop, length-append, length-drop}
use lib.Seq.{length-take-le, drop-drop}
use borrow.Rule.Slice.PartMut.{mid_of, put_mid, same_len_mid}
use Rattle.words.specs.Octets.{over}
use Rattle.words.specs.Words.{largest}
use Rattle.parts.specs.declared.Running.{Running}
use Rattle.parts.specs.declared.Stage.TheVariants.{Runs, Cut}
use Rattle.parts.specs.declared.Turn.{Turn}
use Rattle.parts.specs.Whole.{Ahead, Takes, NoRecord, Partial, AtEnd, Making, Lawful, onward}
use Rattle.parts.specs.Feed.{Part, Share, no_share, share, stage_at, starts_none, stops, behind, run}
use Rattle.parts.specs.Way.{Lands, Ran}
use Rattle.parts.proofs.Rooms.{fits_room, up_to, from, mid_all, mid_length, put_back, written_in}
use Rattle.parts.proofs.Turns.{goes_onward, Took, took, none_taken}
use Rattle.parts.proofs.Runs.{shared, run_stops, run_goes, twice}

-- where the loop of a run stands: `at` octets are taken and `out` are written, and the run from here is what is left of the whole
pub record Sofar {T : Type 0} (w : Making T) (r₀ : Running) (t₀ : T) (part room₀ : List ℕ) (r : Running) (t : T) (room : List ℕ) (at out : ℕ) : Type 0 where
  pub at_in : at ≤ length part
  pub out_in : out ≤ length room₀
  pub room_kept : length room ≡ length room₀
  pub behind_out : drop out room ≡ drop out room₀
  pub left : run w r₀ t₀ part (length room₀) ≡ behind at (take out room) (run w r t (drop at part) (length room₀ - out))

pub first : {T : Type 0} (w : Making T) (r : Running) (t : T) (part room : List ℕ) → Sofar w r t part room r t room 0 0
first w r t part room = record {
  at_in = omega arith;
  out_in = omega arith;
  room_kept = refl;
  behind_out = refl;
  left = simp (sub-zero, zero-add);
}

-- what stands ahead has its share, whose text is put into the room
module _ {T : Type 0} {w : Making T} (law : Lawful w) {r₀ : Running} {t₀ : T} {part room₀ : List ℕ} {r : Running} {t : T} {room : List ℕ} {at out : ℕ} (u : Sofar w r₀ t₀ part room₀ r t room at out) (room' : List ℕ)
    (writes : room' ≡ take out room ++ over (share w r t (drop at part) (length room - out)).text (drop out room)) (keeps : length room' ≡ length room) where
  abbrev h : Share T
  h = share w r t (drop at part) (length room - out)

  abbrev whole : Part T
  whole = run w r₀ t₀ part (length room₀)

  out_fits : out ≤ length room
  out_fits = omega (arith, u.out_in, u.room_kept)

  left : whole ≡ behind at (take out room) (run w r t (drop at part) (length room - out))
  left = u.left ∙ ap (λ (n : ℕ). behind at (take out room) (run w r t (drop at part) (n - out))) (sym u.room_kept)

  text_fits : length h.text ≤ length (drop out room)
  text_fits =
      fits_room h.text (drop out room)
      (omega (arith, keeps, ap length writes, length-append (take out room) (over h.text (drop out room)), length-take-le out room out_fits, length-drop out room))

  -- a record was taken: the state holds behind it
  module _ (p : h.taken ≡ 0 → ⊥) where
    taken_fits : h.taken ≤ length part - at
    taken_fits = rw length-drop at (shared law r t (drop at part) (length room - out)).fits

    left_over : length room - out - length h.text ≡ length room₀ - (out + length h.text)
    left_over = omega (arith, u.room_kept)

    pub nearer : length part - (at + h.taken) < length part - at
    nearer = omega (arith, taken_fits, u.at_in, p)

    pub again : Sofar w r₀ t₀ part room₀ (onward r) h.state room' (at + h.taken) (out + length h.text)
    again = record {
      at_in = omega (arith, u.at_in, taken_fits);
      out_in = omega (arith, u.out_in, u.room_kept, text_fits, length-drop out room);
      room_kept = keeps ∙ u.room_kept;
      behind_out = rw writes (from room h.text (drop out room) out out_fits ∙ ap (drop (length h.text)) u.behind_out ∙ drop-drop (length h.text) out room₀);
      left =
          rw (writes, up_to room h.text (drop out room) out out_fits, ← drop-drop h.taken at part, ← left_over)
          (left ∙ ap (behind at (take out room)) (run_goes law r t (drop at part) (length room - out) p)
          ∙ twice at h.taken (take out room) h.text (run w (onward r) h.state (drop h.taken (drop at part)) (length room - out - length h.text)));
    }

  -- none was taken
  module _ (z : h.taken ≡ 0) where
    nothing_had : h ≡ no_share t
    nothing_had = (shared law r t (drop at part) (length room - out)).none z

    out_length : length (take out room) ≡ out
    out_length = length-take-le out room out_fits

    whole_is : whole ≡ behind at (take out room) (stops w r t (drop at part))
    whole_is = left ∙ ap (behind at (take out room)) (run_stops law r t (drop at part) (length room - out) z)

    room_is : room' ≡ take out room ++ drop out room
    room_is = writes ∙ ap (λ (k : Share T). take out room ++ over k.text (drop out room)) nothing_had

    pub stopped : Ran w r₀ t₀ part room₀ (record { taken = at; written = out; stage = stage_at (w.ahead r t (drop at part)) r }) h.state room'
    unfolding stops
    stopped = record {
      answers = rw whole_is (simp (append-nil, add-zero, out_length));
      leaves = rw whole_is (ap (λ (k : Share T). k.state) nothing_had);
      writes = rw (whole_is, room_is, append-nil, out_length, u.behind_out);
      within = (u.at_in, u.out_in);
    }

stage_by : {T : Type 0} (a : Ahead T) (r : Running) → stage_at a r ≡ cond (starts_none a) (Cut r.next) (Runs r)
stage_by (Takes taken text after) r = refl
stage_by NoRecord r = refl
stage_by Partial r = refl
stage_by AtEnd r = refl

-- the same where a function is lent the part and the room from their places on, and lands on the share of what stands there
module _ {T : Type 0} {w : Making T} (law : Lawful w) {r₀ : Running} {t₀ : T} {part room₀ : List ℕ} {r : Running} {t : T} {room : List ℕ} {at out : ℕ} (u : Sofar w r₀ t₀ part room₀ r t room at out)
    {o : Option Turn} {t' : T} {ys : List ℕ} (l : Lands (share w r t (mid_of at (length part - at) part) (length (mid_of out (length room - out) room))) (mid_of out (length room - out) room) o t' ys)
    (k : length ys ≡ length (mid_of out (length room - out) room)) where
  abbrev had : Share T
  had = share w r t (drop at part) (length room - out)

  had_in : share w r t (mid_of at (length part - at) part) (length (mid_of out (length room - out) room)) ≡ had
  had_in = rw (mid_all part at, mid_length room out)

  landed : Lands had (mid_of out (length room - out) room) o t' ys
  landed = subst (λ (h : Share T). Lands h (mid_of out (length room - out) room) o t' ys) had_in l

  abbrev back : List ℕ
  back = put_mid out (length room - out) room ys

  back_writes : back ≡ take out room ++ over had.text (drop out room)
  back_writes = put_back room out had.text ys landed.writes

  back_keeps : length back ≡ length room
  back_keeps = same_len_mid out (length room - out) room ys k

  -- a record was taken
  module _ {turn : Turn} (e : o ≡ Some turn) where
    is : Took had turn
    is = took had landed.answers e

    pub back_within : (at + turn.taken ≤ length part) × (out + turn.written ≤ length room)
    back_within = (
      omega (arith, is.taken, u.at_in, (shared law r t (drop at part) (length room - out)).fits, length-drop at part),
      omega (arith, is.written, u.out_in, u.room_kept, written_in room out had.text ys landed.writes k),
    )

    pub back_onward : cond (eqb r.next largest) r (onward r) ≡ onward r
    back_onward = goes_onward (w.ahead r t (drop at part)) r t (length room - out) is.some

    pub back_nearer : length part - (at + turn.taken) < length part - at
    back_nearer = rw is.taken (nearer law u back back_writes back_keeps is.some)

    pub back_again : Sofar w r₀ t₀ part room₀ (onward r) t' back (at + turn.taken) (out + turn.written)
    back_again = rw (is.taken, is.written, landed.leaves) (again law u back back_writes back_keeps is.some)

  -- none was taken, and whether what stands there is no record says where the run stops
  module _ (none : Bool) (e : o ≡ None) (n : (r : Running) (t : T) → none ≡ starts_none (w.ahead r t (mid_of at (length part - at) part))) where
    stage_is : stage_at (w.ahead r t (drop at part)) r ≡ cond none (Cut r.next) (Runs r)
    stage_is =
        stage_by (w.ahead r t (drop at part)) r
        ∙ ap (λ (b : Bool). cond b (Cut r.next) (Runs r)) (sym (n r t ∙ ap (λ (s : List ℕ). starts_none (w.ahead r t s)) (mid_all part at)))

    pub back_stopped : Ran w r₀ t₀ part room₀ (record { taken = at; written = out; stage = cond none (Cut r.next) (Runs r) }) t' back
    back_stopped = rw (landed.leaves, ← stage_is) (stopped law u back back_writes back_keeps (none_taken had landed.answers e))
