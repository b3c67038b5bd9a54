-- The group at the start of a file: each case of `begins` from the tests that lead to it.
-- Assumes nothing.
use mathlib.Core.Path.{◌≡◌, refl}
use mathlib.Core.Bool.{true, false}
use mathlib.Core.List.{List}
use mathlib.Core.Logic.{◌⊎◌, inl, inr}
use Prim.Native.Nat.{ℕ, ◌≤◌, ◌<◌}
use native.Mathlib.Omega.{arith}
use lib.Dec.{ltb}
use lib.ListN.{length}
use borrow.Author.Tests.{lt-ltb, le-ltb}
use Rattle.text.proofs.Numbers.{by_test}
use Rattle.text.specs.Lines.{group_line, bad_group_line}
use Rattle.text.specs.Writing.{Printed, in_room, line_room}
use Rattle.words.specs.Octets.{over}
use Rattle.records.specs.declared.Group.{Group}
use Rattle.parts.specs.declared.Stage.{Stage}
use Rattle.parts.specs.declared.Stage.TheVariants.{Start, Bad, Runs, Cut}
use Rattle.parts.specs.declared.Fed.{Fed}
use Rattle.records.specs.Records.{octets_of, own_in, far_in, circuits_in, group_in, refused_start}
use Rattle.parts.specs.Whole.{Making, no_state}
use Rattle.parts.specs.Feed.{Part, Within, answer_of, stays, begins, fed, last_line}
use Rattle.parts.proofs.Rooms.{fits_room}

-- an answer and the room after it are those of a part
abbrev pub Begun : {T : Type 0} → Fed → List ℕ → List ℕ → List ℕ → Part T → Type 0
Begun a s room room₀ p = (a ≡ answer_of p) × ((room ≡ over p.text room₀) × Within a s room₀)

module _ (s room : List ℕ) where
  pub too_few : length s < octets_of 0 → Begun (answer_of (stays Start no_state)) s room room (begins no_state s (length room))
  unfolding begins
  too_few h = rw (lt-ltb (length s) (octets_of 0) h) (refl, (refl, (omega arith, omega arith)))

  pub is_refused : octets_of 0 ≤ length s → refused_start s ≡ true → Begun (answer_of (stays Bad no_state)) s room room (begins no_state s (length room))
  unfolding begins
  is_refused h e = rw (le-ltb (length s) (octets_of 0) h, e) (refl, (refl, (omega arith, omega arith)))

  pub no_line : octets_of 0 ≤ length s → refused_start s ≡ false → length room < line_room → Begun (answer_of (stays Start no_state)) s room room (begins no_state s (length room))
  unfolding begins
  no_line h e l = rw (le-ltb (length s) (octets_of 0) h, e, lt-ltb (length room) line_room l) (refl, (refl, (omega arith, omega arith)))

module _ (s room room' : List ℕ) (g : Group) (n o : ℕ) where
  pub opens : octets_of 0 ≤ length s → refused_start s ≡ false → line_room ≤ length room
      → g ≡ group_in s
      → Printed room (in_room room (group_line g.codes.own.0 g.codes.far.0 g.circuits)) n room'
      → o ≡ octets_of 0
      → length room' ≡ length room
      → Begun (record { taken = o; written = n; stage = Runs (record { group = g; next = 1 }) }) s room' room (begins no_state s (length room))
  unfolding begins
  opens h e l g_is p q k =
      let x = group_line g.codes.own.0 g.codes.far.0 g.circuits in
      let w : in_room room x ≡ group_line (own_in s) (far_in s) (circuits_in s) = rw (le-ltb (length room) line_room l, g_is) in
      rw (le-ltb (length s) (octets_of 0) h, e, le-ltb (length room) line_room l) (rw (p.count, w, q, g_is), (rw (p.room, w), (omega (arith, q), omega (arith, p.count, fits_room (in_room room x) room (rw p.room at k)))))

-- whatever state goes along, the group leaves it as it was
module _ {T : Type 0} where
  abbrev beside : {U : Type 0} → T → Part U → Part T
  beside state p = record { taken = p.taken; text = p.text; stage = p.stage; state = state }

  any_state : (state : T) (s : List ℕ) (n : ℕ) → begins state s n ≡ beside state (begins no_state s n)
  unfolding begins
  any_state state s n =
      by_test (ltb (length s) (octets_of 0)) (λ e. simp e) (λ e. by_test (refused_start s) (λ f. simp (e, f)) (λ f. by_test (ltb n line_room) (λ g. simp (e, f, g)) (λ g. simp (e, f, g))))

  pub begun_in : (state : T) (s room₀ : List ℕ) (n : ℕ) {a : Fed} {room : List ℕ} → Begun a s room room₀ (begins no_state s n)
      → (a ≡ answer_of (begins state s n)) × ((state ≡ (begins state s n).state) × ((room ≡ over (begins state s n).text room₀) × Within a s room₀))
  begun_in state s room₀ n q = rw (any_state state s n) (q.0, (refl, q.1))

-- and the last line where no good group came
pub last_bad : (stage : Stage) (rest : List ℕ) → (stage ≡ Start) ⊎ (stage ≡ Bad) → last_line stage rest ≡ bad_group_line
unfolding last_line
last_bad stage rest = elim [ inl e ↦ rw e | inr e ↦ rw e ]

-- where the text is over, nothing is taken
module _ {T : Type 0} (w : Making T) (stage : Stage) (state : T) (s room : List ℕ) where
  abbrev same : Type 0
  same =
      let p = fed w stage state s (length room) in
      (answer_of (stays stage no_state) ≡ answer_of p) × ((state ≡ p.state) × (room ≡ over p.text room))

  pub stays_there : (stage ≡ Bad) ⊎ ((next : ℕ) × (stage ≡ Cut next)) → same
  unfolding fed
  stays_there = elim [ inl e ↦ rw e (refl, (refl, refl)) | inr e ↦ rw e.1 (refl, (refl, refl)) ]
