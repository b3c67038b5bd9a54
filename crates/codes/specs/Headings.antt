-- The heading octets of the signals, H0 + 16 · H1 (Q.723; docs/RULES.md, "Events and answers").
-- Assumes nothing.
use Rattle.std.specs.Prelude.{cond, List, [], ◌∷◌, ℕ, eqb, Option, Some, None}
use Rattle.circuit.specs.declared.Failure.{Failure}
use Rattle.circuit.specs.declared.Failure.TheVariants.{Sec, Cgc, Nnc, Adi, Cfl, Ssb, Unn, Los, Sst}
use Rattle.circuit.specs.declared.Signal.{Signal}
use Rattle.circuit.specs.declared.Signal.TheVariants.{Iam, Acm, Anc, Ann, Cbk, Clf, Ran, Rlg, Blo, Bla, Ubl, Uba, Rsc, Fail}
use Rattle.circuit.specs.declared.Sends.{Sends}
use Rattle.circuit.specs.declared.Sends.TheVariants.{Nothing, One, Two}

abbrev pub failure_heading : Failure → ℕ
failure_heading Sec = 0x15
failure_heading Cgc = 0x25
failure_heading Nnc = 0x35
failure_heading Adi = 0x45
failure_heading Cfl = 0x55
failure_heading Ssb = 0x65
failure_heading Unn = 0x75
failure_heading Los = 0x85
failure_heading Sst = 0x95

abbrev pub heading_of : Signal → ℕ
heading_of Iam = 0x11
heading_of (Acm octet) = 0x14
heading_of Anc = 0x16
heading_of Ann = 0x26
heading_of Cbk = 0x36
heading_of Clf = 0x46
heading_of Ran = 0x56
heading_of Rlg = 0x17
heading_of Blo = 0x27
heading_of Bla = 0x37
heading_of Ubl = 0x47
heading_of Uba = 0x57
heading_of Rsc = 0x77
heading_of (Fail f) = failure_heading f

-- ACM's octet; no other signal has one
abbrev pub octet_of : Signal → ℕ
octet_of Iam = 0
octet_of (Acm octet) = octet
octet_of Anc = 0
octet_of Ann = 0
octet_of Cbk = 0
octet_of Clf = 0
octet_of Ran = 0
octet_of Rlg = 0
octet_of Blo = 0
octet_of Bla = 0
octet_of Ubl = 0
octet_of Uba = 0
octet_of Rsc = 0
octet_of (Fail f) = 0

-- the failure among these that has the heading
abbrev pub among_failures : ℕ → List Failure → Option Failure
among_failures heading [] = None
among_failures heading (f ∷ fs) = cond (eqb heading (failure_heading f)) (Some f) (among_failures heading fs)

abbrev pub failure_of : ℕ → Option Failure
failure_of heading = among_failures heading (Sec ∷ Cgc ∷ Nnc ∷ Adi ∷ Cfl ∷ Ssb ∷ Unn ∷ Los ∷ Sst ∷ [])

abbrev pub failing : Option Failure → Option Signal
failing (Some f) = Some (Fail f)
failing None = None

-- the signal among these that has the heading, and where there is none, the failure that has it
abbrev pub among : ℕ → List Signal → Option Signal
among heading [] = failing (failure_of heading)
among heading (s ∷ ss) = cond (eqb heading (heading_of s)) (Some s) (among heading ss)

-- the signal of a heading, an ACM with the octet given
abbrev pub signal_of : ℕ → ℕ → Option Signal
signal_of heading octet = among heading (Iam ∷ Acm octet ∷ Anc ∷ Ann ∷ Cbk ∷ Clf ∷ Ran ∷ Rlg ∷ Blo ∷ Bla ∷ Ubl ∷ Uba ∷ Rsc ∷ [])

-- what a heading was read as, by its number: the heading, 0 where no failure or no signal has it
abbrev pub named_failure : Option Failure → ℕ
named_failure (Some f) = failure_heading f
named_failure None = 0

abbrev pub named : Option Signal → ℕ
named (Some s) = heading_of s
named None = 0

-- the headings of what is sent, 0 for none
abbrev pub first_heading : Sends → ℕ
first_heading Nothing = 0
first_heading (One s) = heading_of s
first_heading (Two s t) = heading_of s

abbrev pub second_heading : Sends → ℕ
second_heading Nothing = 0
second_heading (One s) = 0
second_heading (Two s t) = heading_of t
