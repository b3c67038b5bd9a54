-- The program's way through an event on a record of two octets: calls and marks put together, what the marks send before what the call sends; and
-- what the step of such a record answers. The contracts of this crate cite it; no promise leans on it, since `Tables` in proofs/ shows that it comes
-- to the printed tables, and the contract of `group::step` speaks of those.
-- Assumes nothing.
use Rattle.std.specs.Prelude.{Bool, true, false, cond, ◌&&◌, ℕ, eqb, Option, Some, None}
use Rattle.circuit.specs.declared.Signal.{Signal}
use Rattle.circuit.specs.declared.Signal.TheVariants.{Iam, Acm, Anc, Ann, Cbk, Clf, Ran, Rlg, Blo, Bla, Ubl, Uba, Rsc, Fail}
use Rattle.circuit.specs.declared.Event.{Event}
use Rattle.circuit.specs.declared.Event.TheVariants.{Arrives, Ordered, RunsOut}
use Rattle.circuit.specs.declared.Outcome.{Outcome}
use Rattle.answers.specs.Answers.{Answer, refusal, word}
use Rattle.layout.specs.Layout.{flags_of, record_of, allowed}
use Rattle.step.specs.Step.{step_found}
use Rattle.marks.specs.declared.Marked.{Marked}
use Rattle.marks.specs.Flags.{own}
use Rattle.marks.specs.Way.{kept_out, on_marks}
use Rattle.calls.specs.declared.Call.{Call}
use Rattle.calls.specs.Calls.{on_call}
use Rattle.commands.specs.Way.{refused, command_way, timer_way}

abbrev pub is_iam : Signal → Bool
is_iam Iam = true
is_iam (Acm octet) = false
is_iam Anc = false
is_iam Ann = false
is_iam Cbk = false
is_iam Clf = false
is_iam Ran = false
is_iam Rlg = false
is_iam Blo = false
is_iam Bla = false
is_iam Ubl = false
is_iam Uba = false
is_iam Rsc = false
is_iam (Fail f) = false

-- the marks keep an IAM out of an idle circuit with own block
abbrev pub marks_part : (state flags : ℕ) → Signal → Marked
marks_part s f sig = cond (is_iam sig && (eqb s 0 && own f)) (kept_out f) (on_marks f sig)

-- what the marks send goes first
abbrev pub together : Marked → Call → ℕ
together m c =
    cond (eqb m.sends 0) (word 0 c.ind c.state m.flags c.sends 0)
    (word 0 c.ind c.state m.flags m.sends c.sends)

-- a signal that goes no further than the marks is discarded
abbrev pub behind_marks : (c : Bool) → (state : ℕ) → Signal → Marked → ℕ
behind_marks c s sig m = cond m.stops (word 0 7 s m.flags m.sends 0) (together m (on_call c s sig))

abbrev pub signal_way : (c : Bool) → (state flags : ℕ) → Signal → ℕ
signal_way c s f sig = behind_marks c s sig (marks_part s f sig)

abbrev pub event_way : (c : Bool) → (state flags : ℕ) → Event → ℕ
event_way c s f (Arrives sig) = signal_way c s f sig
event_way c s f (Ordered k) = command_way s f k
event_way c s f (RunsOut t) = timer_way s f t

abbrev pub found_way : (c : Bool) → (state flags : ℕ) → Option Event → ℕ
found_way c s f (Some e) = event_way c s f e
found_way c s f None = refused 3 s f

-- an outcome by its numbers
abbrev pub shown : Outcome → Answer
shown o = record { refusal = o.refusal; state = o.after.state; flags = flags_of o.after; sends = o.sends; ind = o.ind }

-- 12: two octets that are no record are shown as they stand
unfoldable pub answer_to : (c : Bool) → (state flags : ℕ) → Option Event → Answer
answer_to c s f event = cond (allowed s f) (shown (step_found c (record_of s f) event)) (refusal 12 s f)
