-- Each event is read back from its numbers, and no other numbers are read as it.
-- Assumes nothing.
use Rattle.std.specs.Prelude.{Option, Some, None}
use mathlib.Core.Path.{◌≡◌, refl, sym, ap, ◌∙◌, subst}
use mathlib.Core.Bool.{Bool, true, false, cond, ◌&&◌, ◌||◌}
use mathlib.Core.List.{List, [], ◌∷◌}
use Prim.Native.Nat.{ℕ, ◌≤◌}
use native.Mathlib.Omega.{arith}
use lib.Dec.{T, eqb, leb}
use borrow.Author.Tests.{le-leb, eqb-true}
use Rattle.circuit.specs.declared.Failure.{Failure}
use Rattle.circuit.specs.declared.Failure.TheVariants.{Sec, Cgc, Nnc, Adi, Cfl, Ssb, Unn, Los, Sst}
use Rattle.circuit.specs.declared.AddressType.TheVariants.{Plain, Charge, NoCharge, Payphone}
use Rattle.circuit.specs.declared.Charging.TheVariants.{Charged, Free}
use Rattle.circuit.specs.declared.Signal.{Signal}
use Rattle.circuit.specs.declared.Signal.TheVariants.{Iam, Acm, Anc, Ann, Cbk, Clf, Ran, Rlg, Blo, Bla, Ubl, Uba, Rsc, Fail}
use Rattle.circuit.specs.declared.Command.{Command}
use Rattle.circuit.specs.declared.Command.TheVariants.{Seize, Release, AddressComplete, Answer, ClearBack, ReAnswer, FailCall, Block, Unblock, Restart}
use Rattle.circuit.specs.declared.Timer.{Timer}
use Rattle.circuit.specs.declared.Timer.TheVariants.{AddressWait, AnswerWait, IncomingHangUp, Repeat, OneMinute, BlockRepeat}
use Rattle.circuit.specs.declared.Event.{Event}
use Rattle.circuit.specs.declared.Event.TheVariants.{Arrives, Ordered, RunsOut}
use Rattle.codes.specs.Headings.{failure_heading, heading_of, octet_of, among_failures, failure_of, failing, among, signal_of}
use Rattle.codes.specs.Numbers.{refusal_of, bare, arrives, signal_event, complete, answer, fail_with, command_event, timer_event, event_of}
use Rattle.codes.specs.Back.{of_signal, of_command, of_timer, numbers_of, OneOctet}

signal_back : (s : Signal) → octet_of s ≤ 255 → event_of (of_signal s).0 (of_signal s).1 (of_signal s).2 ≡ Some (Arrives s)
unfolding event_of
signal_back Iam h = refl
signal_back (Acm octet) h = simp (le-leb octet 255 h)
signal_back Anc h = refl
signal_back Ann h = refl
signal_back Cbk h = refl
signal_back Clf h = refl
signal_back Ran h = refl
signal_back Rlg h = refl
signal_back Blo h = refl
signal_back Bla h = refl
signal_back Ubl h = refl
signal_back Uba h = refl
signal_back Rsc h = refl
signal_back (Fail Sec) h = refl
signal_back (Fail Cgc) h = refl
signal_back (Fail Nnc) h = refl
signal_back (Fail Adi) h = refl
signal_back (Fail Cfl) h = refl
signal_back (Fail Ssb) h = refl
signal_back (Fail Unn) h = refl
signal_back (Fail Los) h = refl
signal_back (Fail Sst) h = refl

command_back : (k : Command) → event_of (of_command k).0 (of_command k).1 (of_command k).2 ≡ Some (Ordered k)
unfolding event_of
command_back Seize = refl
command_back Release = refl
command_back (AddressComplete Plain false) = refl
command_back (AddressComplete Plain true) = refl
command_back (AddressComplete Charge false) = refl
command_back (AddressComplete Charge true) = refl
command_back (AddressComplete NoCharge false) = refl
command_back (AddressComplete NoCharge true) = refl
command_back (AddressComplete Payphone false) = refl
command_back (AddressComplete Payphone true) = refl
command_back (Answer Charged) = refl
command_back (Answer Free) = refl
command_back ClearBack = refl
command_back ReAnswer = refl
command_back (FailCall Sec) = refl
command_back (FailCall Cgc) = refl
command_back (FailCall Nnc) = refl
command_back (FailCall Adi) = refl
command_back (FailCall Cfl) = refl
command_back (FailCall Ssb) = refl
command_back (FailCall Unn) = refl
command_back (FailCall Los) = refl
command_back (FailCall Sst) = refl
command_back Block = refl
command_back Unblock = refl
command_back Restart = refl

timer_back : (t : Timer) → event_of (of_timer t).0 (of_timer t).1 (of_timer t).2 ≡ Some (RunsOut t)
unfolding event_of
timer_back AddressWait = refl
timer_back AnswerWait = refl
timer_back IncomingHangUp = refl
timer_back Repeat = refl
timer_back OneMinute = refl
timer_back BlockRepeat = refl

-- each event is read back from its numbers
pub event_back : (e : Event) → OneOctet e → event_of (numbers_of e).0 (numbers_of e).1 (numbers_of e).2 ≡ Some e
event_back (Arrives s) h = signal_back s h
event_back (Ordered k) h = command_back k
event_back (RunsOut t) h = timer_back t

-- ---- no other numbers are read as an event

-- numbers that name an event are not missing
found : {P : Type 0} (e : Event) → None ≡ Some e → P
found e h = absurd (let z : ◌≡◌ {A = ℕ} 3 0 = ap refusal_of h in omega arith)

-- an event that is found is the one found
abbrev event : Event → Option Event → Event
event other (Some e) = e
event other None = other

same : (d e : Event) → Some d ≡ Some e → d ≡ e
same d e h = ap (event d) h

-- a number is the one that is asked for, or the rest of the list answers
asked : {P : Type 0} (n m : ℕ) {x y z : Option Event} → cond (eqb n m) x y ≡ z → (n ≡ m → x ≡ z → P) → (y ≡ z → P) → P
asked {P} n m {x} {y} {z} h here rest = go (eqb n m) refl h
  where
    go : (b : Bool) → eqb n m ≡ b → cond b x y ≡ z → P
    go true e k = here (eqb-true n m e) k
    go false e k = rest k

abbrev Numbered : (kind code detail : ℕ) → Event → Type 0
Numbered kind code detail e = numbers_of e ≡ (kind, code, detail)

-- an event with no detail
of_bare : (kind code detail : ℕ) (d e : Event) → numbers_of d ≡ (kind, code, 0) → bare detail d ≡ Some e → Numbered kind code detail e
of_bare kind code detail d e n h =
    asked detail 0 h
    (λ z k. ap numbers_of (sym (same d e k)) ∙ n ∙ ap (λ (m : ℕ). (kind, code, m)) (sym z))
    (λ k. found e k)

-- a failure and its heading
abbrev failure : Failure → Option Failure → Failure
failure other (Some f) = f
failure other None = other

no_failure : {P : Type 0} (f : Failure) → None ≡ Some f → P
no_failure f h = absurd (subst T (ap is h) tt)
  where
    is : Option Failure → Bool
    is (Some f) = false
    is None = true

failure_has : (heading : ℕ) (fs : List Failure) (f : Failure) → among_failures heading fs ≡ Some f → failure_heading f ≡ heading
failure_has heading [] f h = no_failure f h
failure_has heading (g ∷ fs) f h = go (eqb heading (failure_heading g)) refl (failure_has heading fs f) h
  where
    go : (b : Bool) → eqb heading (failure_heading g) ≡ b → (among_failures heading fs ≡ Some f → failure_heading f ≡ heading) → cond b (Some g) (among_failures heading fs) ≡ Some f → failure_heading f ≡ heading
    go true e rest k = ap failure_heading (sym (ap (failure g) k)) ∙ sym (eqb-true heading (failure_heading g) e)
    go false e rest k = rest k

-- a signal that is known has the heading, and its octet is the one that was given or 0
abbrev signal : Signal → Option Signal → Signal
signal other (Some s) = s
signal other None = other

unknown : {P : Type 0} (s : Signal) → None ≡ Some s → P
unknown s h = absurd (subst T (ap is h) tt)
  where
    is : Option Signal → Bool
    is (Some s) = false
    is None = true

failing_has : (heading : ℕ) (n : Option Failure) (s : Signal) → failure_of heading ≡ n → failing n ≡ Some s → (heading_of s ≡ heading) × (octet_of s ≡ 0)
failing_has heading (Some f) s e h =
    let q : Fail f ≡ s = ap (signal (Fail f)) h in
    (ap heading_of (sym q) ∙ failure_has heading (Sec ∷ Cgc ∷ Nnc ∷ Adi ∷ Cfl ∷ Ssb ∷ Unn ∷ Los ∷ Sst ∷ []) f e, ap octet_of (sym q))
failing_has heading None s e h = unknown s h

heading_has : (heading : ℕ) (ss : List Signal) (s : Signal) → among heading ss ≡ Some s → heading_of s ≡ heading
heading_has heading [] s h = (failing_has heading (failure_of heading) s refl h).0
heading_has heading (t ∷ ss) s h = go (eqb heading (heading_of t)) refl (heading_has heading ss s) h
  where
    go : (x : Bool) → eqb heading (heading_of t) ≡ x → (among heading ss ≡ Some s → heading_of s ≡ heading) → cond x (Some t) (among heading ss) ≡ Some s → heading_of s ≡ heading
    go true e rest k = let q : t ≡ s = ap (signal t) k in ap heading_of (sym q) ∙ sym (eqb-true heading (heading_of t) e)
    go false e rest k = rest k

-- all signals of a list have an octet of 0
data Bare : List Signal → Type 0 where
  none : Bare []
  one : {s : Signal} {ss : List Signal} → octet_of s ≡ 0 → Bare ss → Bare (s ∷ ss)

octet_has : (heading : ℕ) (ss : List Signal) → Bare ss → (s : Signal) → among heading ss ≡ Some s → octet_of s ≡ 0
octet_has heading [] b s h = (failing_has heading (failure_of heading) s refl h).1
octet_has heading (t ∷ ss) (one z b) s h = go (eqb heading (heading_of t)) (octet_has heading ss b s) h
  where
    go : (x : Bool) → (among heading ss ≡ Some s → octet_of s ≡ 0) → cond x (Some t) (among heading ss) ≡ Some s → octet_of s ≡ 0
    go true rest k = let q : t ≡ s = ap (signal t) k in ap octet_of (sym q) ∙ z
    go false rest k = rest k

plain : Bare (Iam ∷ Acm 0 ∷ Anc ∷ Ann ∷ Cbk ∷ Clf ∷ Ran ∷ Rlg ∷ Blo ∷ Bla ∷ Ubl ∷ Uba ∷ Rsc ∷ [])
plain = one refl (one refl (one refl (one refl (one refl (one refl (one refl (one refl (one refl (one refl (one refl (one refl (one refl none))))))))))))

-- a heading that is read as a signal, or as a failure, is its own
pub heading_is : (heading octet : ℕ) (s : Signal) → signal_of heading octet ≡ Some s → heading_of s ≡ heading
heading_is heading octet s h = heading_has heading (Iam ∷ Acm octet ∷ Anc ∷ Ann ∷ Cbk ∷ Clf ∷ Ran ∷ Rlg ∷ Blo ∷ Bla ∷ Ubl ∷ Uba ∷ Rsc ∷ []) s h

pub failure_is : (heading : ℕ) (f : Failure) → failure_of heading ≡ Some f → failure_heading f ≡ heading
failure_is heading f h = failure_has heading (Sec ∷ Cgc ∷ Nnc ∷ Adi ∷ Cfl ∷ Ssb ∷ Unn ∷ Los ∷ Sst ∷ []) f h

-- and each is read back from its heading
pub failure_named : (f : Failure) → failure_of (failure_heading f) ≡ Some f
failure_named Sec = refl
failure_named Cgc = refl
failure_named Nnc = refl
failure_named Adi = refl
failure_named Cfl = refl
failure_named Ssb = refl
failure_named Unn = refl
failure_named Los = refl
failure_named Sst = refl

pub signal_named : (s : Signal) → signal_of (heading_of s) (octet_of s) ≡ Some s
signal_named Iam = refl
signal_named (Acm octet) = refl
signal_named Anc = refl
signal_named Ann = refl
signal_named Cbk = refl
signal_named Clf = refl
signal_named Ran = refl
signal_named Rlg = refl
signal_named Blo = refl
signal_named Bla = refl
signal_named Ubl = refl
signal_named Uba = refl
signal_named Rsc = refl
signal_named (Fail Sec) = refl
signal_named (Fail Cgc) = refl
signal_named (Fail Nnc) = refl
signal_named (Fail Adi) = refl
signal_named (Fail Cfl) = refl
signal_named (Fail Ssb) = refl
signal_named (Fail Unn) = refl
signal_named (Fail Los) = refl
signal_named (Fail Sst) = refl

-- a signal that arrives by a name
arrived : (n : Option Signal) (e : Event) → arrives n ≡ Some e → (P : Event → Type 0) → ((s : Signal) → n ≡ Some s → P (Arrives s)) → P e
arrived (Some s) e h P go = subst P (same (Arrives s) e h) (go s refl)
arrived None e h P go = found e h

of_signals : (code detail : ℕ) (e : Event) → signal_event code detail ≡ Some e → Numbered 1 code detail e
of_signals code detail e h = go (leb detail 255) (eqb code 0x14) refl (eqb detail 0) refl h
  where
    acm : code ≡ 0x14 → arrives (signal_of code detail) ≡ Some e → Numbered 1 code detail e
    acm c k =
        let q : arrives (signal_of 0x14 detail) ≡ Some e = subst (λ (n : ℕ). arrives (signal_of n detail) ≡ Some e) c k in
        ap numbers_of (sym (same (Arrives (Acm detail)) e q)) ∙ ap (λ (n : ℕ). (1, n, detail)) (sym c)

    bare_one : detail ≡ 0 → arrives (signal_of code detail) ≡ Some e → Numbered 1 code detail e
    bare_one z k =
        let q : arrives (signal_of code 0) ≡ Some e = subst (λ (n : ℕ). arrives (signal_of code n) ≡ Some e) z k in
        arrived (signal_of code 0) e q (λ d. Numbered 1 code detail d) (λ s known.
        ap (λ (n : ℕ). (1, n, octet_of s)) (heading_is code 0 s known)
        ∙ ap (λ (n : ℕ). (1, code, n)) (octet_has code (Iam ∷ Acm 0 ∷ Anc ∷ Ann ∷ Cbk ∷ Clf ∷ Ran ∷ Rlg ∷ Blo ∷ Bla ∷ Ubl ∷ Uba ∷ Rsc ∷ []) plain s known ∙ sym z))

    go : (low a : Bool) → eqb code 0x14 ≡ a → (z : Bool) → eqb detail 0 ≡ z → cond (low && (a || z)) (arrives (signal_of code detail)) None ≡ Some e → Numbered 1 code detail e
    go true true p z q k = acm (eqb-true code 0x14 p) k
    go true false p true q k = bare_one (eqb-true detail 0 q) k
    go true false p false q k = found e k
    go false a p z q k = found e k

-- address complete, answer and fail have details of their own
detailed : (code detail : ℕ) (n : ℕ) (d e : Event) → numbers_of d ≡ (2, code, n) → detail ≡ n → Some d ≡ Some e → Numbered 2 code detail e
detailed code detail n d e w z k = ap numbers_of (sym (same d e k)) ∙ w ∙ ap (λ (m : ℕ). (2, code, m)) (sym z)

of_complete : (detail : ℕ) (e : Event) → complete detail ≡ Some e → Numbered 2 3 detail e
of_complete detail e h =
    asked detail 0 h (λ z k. detailed 3 detail 0 (Ordered (AddressComplete Plain false)) e refl z k) (λ h.
    asked detail 1 h (λ z k. detailed 3 detail 1 (Ordered (AddressComplete Charge false)) e refl z k) (λ h.
    asked detail 2 h (λ z k. detailed 3 detail 2 (Ordered (AddressComplete NoCharge false)) e refl z k) (λ h.
    asked detail 3 h (λ z k. detailed 3 detail 3 (Ordered (AddressComplete Payphone false)) e refl z k) (λ h.
    asked detail 4 h (λ z k. detailed 3 detail 4 (Ordered (AddressComplete Plain true)) e refl z k) (λ h.
    asked detail 5 h (λ z k. detailed 3 detail 5 (Ordered (AddressComplete Charge true)) e refl z k) (λ h.
    asked detail 6 h (λ z k. detailed 3 detail 6 (Ordered (AddressComplete NoCharge true)) e refl z k) (λ h.
    asked detail 7 h (λ z k. detailed 3 detail 7 (Ordered (AddressComplete Payphone true)) e refl z k) (λ h. found e h))))))))

of_answer : (detail : ℕ) (e : Event) → answer detail ≡ Some e → Numbered 2 4 detail e
of_answer detail e h =
    asked detail 0 h (λ z k. detailed 4 detail 0 (Ordered (Answer Charged)) e refl z k) (λ h.
    asked detail 1 h (λ z k. detailed 4 detail 1 (Ordered (Answer Free)) e refl z k) (λ h. found e h))

of_failure : (detail : ℕ) (n : Option Failure) (e : Event) → failure_of detail ≡ n → fail_with n ≡ Some e → Numbered 2 7 detail e
of_failure detail (Some f) e n h =
    detailed 7 detail (failure_heading f) (Ordered (FailCall f)) e refl (sym (failure_is detail f n)) h
of_failure detail None e n h = found e h

-- the code of a command or a timer is the one that was asked for
coded : (kind code detail n : ℕ) (e : Event) → code ≡ n → Numbered kind n detail e → Numbered kind code detail e
coded kind code detail n e z h = h ∙ ap (λ (m : ℕ). (kind, m, detail)) (sym z)

of_commands : (code detail : ℕ) (e : Event) → command_event code detail ≡ Some e → Numbered 2 code detail e
of_commands code detail e h =
    asked code 1 h (λ z k. coded 2 code detail 1 e z (of_bare 2 1 detail (Ordered Seize) e refl k)) (λ h.
    asked code 2 h (λ z k. coded 2 code detail 2 e z (of_bare 2 2 detail (Ordered Release) e refl k)) (λ h.
    asked code 3 h (λ z k. coded 2 code detail 3 e z (of_complete detail e k)) (λ h.
    asked code 4 h (λ z k. coded 2 code detail 4 e z (of_answer detail e k)) (λ h.
    asked code 5 h (λ z k. coded 2 code detail 5 e z (of_bare 2 5 detail (Ordered ClearBack) e refl k)) (λ h.
    asked code 6 h (λ z k. coded 2 code detail 6 e z (of_bare 2 6 detail (Ordered ReAnswer) e refl k)) (λ h.
    asked code 7 h (λ z k. coded 2 code detail 7 e z (of_failure detail (failure_of detail) e refl k)) (λ h.
    asked code 8 h (λ z k. coded 2 code detail 8 e z (of_bare 2 8 detail (Ordered Block) e refl k)) (λ h.
    asked code 9 h (λ z k. coded 2 code detail 9 e z (of_bare 2 9 detail (Ordered Unblock) e refl k)) (λ h.
    asked code 10 h (λ z k. coded 2 code detail 10 e z (of_bare 2 10 detail (Ordered Restart) e refl k)) (λ h. found e h))))))))))

of_timers : (code detail : ℕ) (e : Event) → timer_event code detail ≡ Some e → Numbered 3 code detail e
of_timers code detail e h =
    asked code 1 h (λ z k. coded 3 code detail 1 e z (of_bare 3 1 detail (RunsOut AddressWait) e refl k)) (λ h.
    asked code 2 h (λ z k. coded 3 code detail 2 e z (of_bare 3 2 detail (RunsOut AnswerWait) e refl k)) (λ h.
    asked code 3 h (λ z k. coded 3 code detail 3 e z (of_bare 3 3 detail (RunsOut IncomingHangUp) e refl k)) (λ h.
    asked code 4 h (λ z k. coded 3 code detail 4 e z (of_bare 3 4 detail (RunsOut Repeat) e refl k)) (λ h.
    asked code 5 h (λ z k. coded 3 code detail 5 e z (of_bare 3 5 detail (RunsOut OneMinute) e refl k)) (λ h.
    asked code 6 h (λ z k. coded 3 code detail 6 e z (of_bare 3 6 detail (RunsOut BlockRepeat) e refl k)) (λ h. found e h))))))

-- numbers that are read as an event are the event's own
pub numbers_back : (kind code detail : ℕ) (e : Event) → event_of kind code detail ≡ Some e → numbers_of e ≡ (kind, code, detail)
unfolding event_of
numbers_back kind code detail e h =
    asked kind 1 h (λ z k. of 1 z (of_signals code detail e k)) (λ h.
    asked kind 2 h (λ z k. of 2 z (of_commands code detail e k)) (λ h.
    asked kind 3 h (λ z k. of 3 z (of_timers code detail e k)) (λ h. found e h)))
  where
    of : (n : ℕ) → kind ≡ n → Numbered n code detail e → Numbered kind code detail e
    of n z k = k ∙ ap (λ (m : ℕ). (m, code, detail)) (sym z)
