-- An answer whose fields are octets comes back from its number.
-- Assumes nothing.
use Prim.Native.Nat.{◌<◌}
use native.Mathlib.Omega.{arith}
use Rattle.circuit.specs.declared.Failure.{Failure}
use Rattle.circuit.specs.declared.Failure.TheVariants.{Sec, Cgc, Nnc, Adi, Cfl, Ssb, Unn, Los, Sst}
use Rattle.circuit.specs.declared.Signal.{Signal}
use Rattle.circuit.specs.declared.Signal.TheVariants.{Iam, Acm, Anc, Ann, Cbk, Clf, Ran, Rlg, Blo, Bla, Ubl, Uba, Rsc, Fail}
use Rattle.circuit.specs.declared.Sends.{Sends}
use Rattle.circuit.specs.declared.Sends.TheVariants.{Nothing, One, Two}
use Rattle.codes.specs.Headings.{failure_heading, heading_of, first_heading, second_heading}
use Rattle.answers.specs.Answers.{Answer, packed, Unpacked}

failure_octet : (f : Failure) → failure_heading f < 256
failure_octet Sec = omega arith
failure_octet Cgc = omega arith
failure_octet Nnc = omega arith
failure_octet Adi = omega arith
failure_octet Cfl = omega arith
failure_octet Ssb = omega arith
failure_octet Unn = omega arith
failure_octet Los = omega arith
failure_octet Sst = omega arith

heading_octet : (s : Signal) → heading_of s < 256
heading_octet Iam = omega arith
heading_octet (Acm octet) = omega arith
heading_octet Anc = omega arith
heading_octet Ann = omega arith
heading_octet Cbk = omega arith
heading_octet Clf = omega arith
heading_octet Ran = omega arith
heading_octet Rlg = omega arith
heading_octet Blo = omega arith
heading_octet Bla = omega arith
heading_octet Ubl = omega arith
heading_octet Uba = omega arith
heading_octet Rsc = omega arith
heading_octet (Fail f) = failure_octet f

first_octet : (s : Sends) → first_heading s < 256
first_octet Nothing = omega arith
first_octet (One s) = heading_octet s
first_octet (Two s t) = heading_octet s

second_octet : (s : Sends) → second_heading s < 256
second_octet Nothing = omega arith
second_octet (One s) = omega arith
second_octet (Two s t) = heading_octet t

pub unpacked : (a : Answer) → a.refusal < 256 → a.ind < 256 → a.state < 256 → a.flags < 256 → Unpacked (packed a) a
unpacked a hn hi hs hf =
    let x = first_octet a.sends in
    let y = second_octet a.sends in
    record { refusal = omega arith; ind = omega arith; state = omega arith; flags = omega arith; first = omega arith; second = omega arith }
