-- Every valid record and every event, as finite lists: a test that is computed at each of them holds of all.
-- Assumes nothing.
use Rattle.std.specs.Prelude.{Option, Some, None}
use Rattle.circuit.specs.declared.Event.{Event}
use mathlib.Core.Bool.{Bool, true, false, ◌&&◌}
use mathlib.Core.List.{List, [], ◌∷◌}
use mathlib.Core.Path.{◌≡◌, refl}
use Prim.Native.Nat.{ℕ, zero, suc, suc-le-suc}
use lib.Dec.{T, leb, leb→le}
use lib.ListN.{get_or}
use Rattle.circuit.specs.declared.Record.{Record}
use Rattle.circuit.specs.declared.Failure.{Failure}
use Rattle.circuit.specs.declared.Failure.TheVariants.{Sec, Cgc, Nnc, Adi, Cfl, Ssb, Unn, Los, Sst}
use Rattle.circuit.specs.declared.AddressType.{AddressType}
use Rattle.circuit.specs.declared.AddressType.TheVariants.{Plain, Charge, NoCharge, Payphone}
use Rattle.circuit.specs.declared.Charging.TheVariants.{Charged, Free}
use Rattle.circuit.specs.declared.Signal.{Signal}
use Rattle.circuit.specs.declared.Signal.TheVariants.{Iam, Acm, Anc, Ann, Cbk, Clf, Ran, Rlg, Blo, Bla, Ubl, Uba, Rsc, Fail}
use Rattle.circuit.specs.declared.Command.{Command}
use Rattle.circuit.specs.declared.Command.TheVariants.{Seize, Release, AddressComplete, Answer, ClearBack, ReAnswer, FailCall, Block, Unblock, Restart}
use Rattle.circuit.specs.declared.Timer.{Timer}
use Rattle.circuit.specs.declared.Timer.TheVariants.{AddressWait, AnswerWait, IncomingHangUp, Repeat, OneMinute, BlockRepeat}
use Rattle.circuit.specs.declared.Event.TheVariants.{Arrives, Ordered, RunsOut}
use Rattle.circuit.specs.Records.{rec, valid}
use Rattle.circuit.specs.Rows.{first}
use Rattle.circuit.specs.Every.{implies, each_below}
use Rattle.circuit.proofs.Every.{left, right, then, each_bool, at_bool, at_below}
use Rattle.step.specs.Step.{step, step_found}
use Rattle.ends.specs.Ends.{does}
use Rattle.ends.proofs.Words.{word, words, all_in, has, at_has}

-- valid records

module _ (f : Record → Bool) where
  abbrev at_flags : ℕ → Bool → Bool → Bool → Bool → Bool
  at_flags s own far bla uba = let r = rec s own far bla uba in implies (valid r) (f r)

  abbrev each_flags : ℕ → Bool
  each_flags s = each_bool (λ own. each_bool (λ far. each_bool (λ bla. each_bool (at_flags s own far bla))))

  abbrev pub each_record : Bool
  each_record = each_below 13 each_flags

  -- one flag after another
  pub at_record : T each_record → (r : Record) → T (valid r) → T (f r)
  at_record t r v = then (valid r) (f r) d v
    where
      s : ℕ
      s = r.state

      at : T (each_flags s)
      at = at_below 13 each_flags t s (suc-le-suc (leb→le s 12 (left (leb s 12) _ v)))

      a : T (each_bool (λ far. each_bool (λ bla. each_bool (at_flags s r.own far bla))))
      a = at_bool (λ own. each_bool (λ far. each_bool (λ bla. each_bool (at_flags s own far bla)))) at r.own

      b : T (each_bool (λ bla. each_bool (at_flags s r.own r.far bla)))
      b = at_bool (λ far. each_bool (λ bla. each_bool (at_flags s r.own far bla))) a r.far

      c : T (each_bool (at_flags s r.own r.far r.bla))
      c = at_bool (λ bla. each_bool (at_flags s r.own r.far bla)) b r.bla

      d : T (at_flags s r.own r.far r.bla r.uba)
      d = at_bool (at_flags s r.own r.far r.bla) c r.uba

-- signals: a word by one signal that has it

abbrev pub said : ℕ → Signal
said k = get_or (Iam ∷ Acm 0 ∷ Anc ∷ Cbk ∷ Ran ∷ Fail Sec ∷ Clf ∷ Rlg ∷ Rsc ∷ Blo ∷ Ubl ∷ Bla ∷ Uba ∷ []) k Iam

-- the particulars of a signal, and whether an answer is charged, change nothing
pub alike : (c : Bool) (r : Record) (x : Signal) → does c r (Some (Arrives x)) ≡ does c r (Some (Arrives (said (word x))))
unfolding does step_found step first
alike c r Iam = refl
alike c r (Acm octet) = refl
alike c r Anc = refl
alike c r Ann = refl
alike c r Cbk = refl
alike c r Ran = refl
alike c r (Fail f) = refl
alike c r Clf = refl
alike c r Rlg = refl
alike c r Rsc = refl
alike c r Blo = refl
alike c r Ubl = refl
alike c r Bla = refl
alike c r Uba = refl

-- what the host can give: commands with their details, timers, and numbers that name neither

abbrev ordered : Command → Option Event
ordered k = Some (Ordered k)

abbrev complete : AddressType → Bool → Option Event
complete t free = ordered (AddressComplete t free)

abbrev failing : Failure → Option Event
failing f = ordered (FailCall f)

abbrev runs_out : Timer → Option Event
runs_out t = Some (RunsOut t)

abbrev pub host_events : List (Option Event)
host_events =
    None
    ∷ ordered Seize ∷ ordered Release ∷ ordered ClearBack ∷ ordered ReAnswer ∷ ordered Block ∷ ordered Unblock ∷ ordered Restart
    ∷ ordered (Answer Charged) ∷ ordered (Answer Free)
    ∷ complete Plain true ∷ complete Plain false ∷ complete Charge true ∷ complete Charge false
    ∷ complete NoCharge true ∷ complete NoCharge false ∷ complete Payphone true ∷ complete Payphone false
    ∷ failing Sec ∷ failing Cgc ∷ failing Nnc ∷ failing Adi ∷ failing Cfl ∷ failing Ssb ∷ failing Unn ∷ failing Los ∷ failing Sst
    ∷ runs_out AddressWait ∷ runs_out AnswerWait ∷ runs_out IncomingHangUp ∷ runs_out Repeat ∷ runs_out OneMinute ∷ runs_out BlockRepeat
    ∷ []

at_place : (f : Option Event → Bool) (l : List (Option Event)) (n : ℕ) → T (f None) → T (all_in f l) → T (f (get_or l n None))
at_place f [] n h t = h
at_place f (x ∷ l) zero h t = left (f x) (all_in f l) t
at_place f (x ∷ l) (suc n) h t = at_place f l n h (right (f x) (all_in f l) t)

module _ (f : Option Event → Bool) (t : T (all_in f host_events)) where
  place : (n : ℕ) → T (f (get_or host_events n None))
  place n = at_place f host_events n (left (f None) _ t) t

  at_failure : (g : Failure) → T (f (failing g))
  at_failure Sec = place 18
  at_failure Cgc = place 19
  at_failure Nnc = place 20
  at_failure Adi = place 21
  at_failure Cfl = place 22
  at_failure Ssb = place 23
  at_failure Unn = place 24
  at_failure Los = place 25
  at_failure Sst = place 26

  at_complete : (a : AddressType) (free : Bool) → T (f (complete a free))
  at_complete Plain true = place 10
  at_complete Plain false = place 11
  at_complete Charge true = place 12
  at_complete Charge false = place 13
  at_complete NoCharge true = place 14
  at_complete NoCharge false = place 15
  at_complete Payphone true = place 16
  at_complete Payphone false = place 17

  at_command : (k : Command) → T (f (Some (Ordered k)))
  at_command Seize = place 1
  at_command Release = place 2
  at_command ClearBack = place 3
  at_command ReAnswer = place 4
  at_command Block = place 5
  at_command Unblock = place 6
  at_command Restart = place 7
  at_command (Answer Charged) = place 8
  at_command (Answer Free) = place 9
  at_command (AddressComplete a free) = at_complete a free
  at_command (FailCall g) = at_failure g

  at_timer : (k : Timer) → T (f (Some (RunsOut k)))
  at_timer AddressWait = place 27
  at_timer AnswerWait = place 28
  at_timer IncomingHangUp = place 29
  at_timer Repeat = place 30
  at_timer OneMinute = place 31
  at_timer BlockRepeat = place 32

  -- a test that asks nothing of signals, which the host does not give
  pub at_host_event : ((x : Signal) → T (f (Some (Arrives x)))) → (e : Option Event) → T (f e)
  at_host_event k (Some (Arrives x)) = k x
  at_host_event k (Some (Ordered o)) = at_command o
  at_host_event k (Some (RunsOut o)) = at_timer o
  at_host_event k None = place 0

-- both: p at every word that arrives, q at what the host gives, in either role with every valid record
pub is_word : (x : Signal) → T (has (word x) words)
is_word Iam = tt
is_word (Acm octet) = tt
is_word Anc = tt
is_word Ann = tt
is_word Cbk = tt
is_word Ran = tt
is_word (Fail f) = tt
is_word Clf = tt
is_word Rlg = tt
is_word Rsc = tt
is_word Blo = tt
is_word Ubl = tt
is_word Bla = tt
is_word Uba = tt

module _ (p : Bool → Record → ℕ → Bool) (q : Bool → Record → Option Event → Bool) where
  abbrev pub every_event : Bool → Record → Bool
  every_event c r = all_in (p c r) words && all_in (q c r) host_events

  abbrev pub everywhere : Bool
  everywhere = each_bool (λ c. each_record (every_event c))

  module _ (t : T everywhere) (c : Bool) (r : Record) (v : T (valid r)) where
    here : T (every_event c r)
    here = at_record (every_event c) (at_bool (λ c. each_record (every_event c)) t c) r v

    pub at_word : (x : Signal) → T (p c r (word x))
    at_word x = at_has (p c r) words (word x) (is_word x) (left (all_in (p c r) words) _ here)

    pub at_host : ((x : Signal) → T (q c r (Some (Arrives x)))) → (e : Option Event) → T (q c r e)
    at_host k e = at_host_event (q c r) (right (all_in (p c r) words) _ here) k e
