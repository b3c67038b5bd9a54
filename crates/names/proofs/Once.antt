-- No two refusals have one number, and none has 0.
-- Assumes nothing.
use Rattle.std.proofs.Common.{◌≡◌, refl, sym, ap, ◌∙◌, ℕ, cond}
use lib.Dec.{eqb}
use Rattle.names.specs.declared.Refusal.{Refusal}
use Rattle.names.specs.declared.Refusal.TheVariants.{NoSuchGroup, NoSuchCircuit, NoSuchEvent, FarBlocked, CommandNotAllowed, TimerNotRunning, WrongLength, WrongLabel, NoSuchHeading, WrongAddress, OutputTooShort, BadRecord, CounterFull, NoCircuit, ShortNumber}
use Rattle.names.specs.Refusal.{number_of}

-- the refusal of a number, and one of them where there is none
numbered : ℕ → Refusal
numbered n =
    cond (eqb n 1) NoSuchGroup
    (cond (eqb n 2) NoSuchCircuit
    (cond (eqb n 3) NoSuchEvent
    (cond (eqb n 4) FarBlocked
    (cond (eqb n 5) CommandNotAllowed
    (cond (eqb n 6) TimerNotRunning
    (cond (eqb n 7) WrongLength
    (cond (eqb n 8) WrongLabel
    (cond (eqb n 9) NoSuchHeading
    (cond (eqb n 10) WrongAddress
    (cond (eqb n 11) OutputTooShort
    (cond (eqb n 12) BadRecord
    (cond (eqb n 13) CounterFull
    (cond (eqb n 14) NoCircuit
    ShortNumber)))))))))))))

back : (r : Refusal) → numbered (number_of r) ≡ r
unfolding numbered
back NoSuchGroup = refl
back NoSuchCircuit = refl
back NoSuchEvent = refl
back FarBlocked = refl
back CommandNotAllowed = refl
back TimerNotRunning = refl
back WrongLength = refl
back WrongLabel = refl
back NoSuchHeading = refl
back WrongAddress = refl
back OutputTooShort = refl
back BadRecord = refl
back CounterFull = refl
back NoCircuit = refl
back ShortNumber = refl

pub number_once : (r t : Refusal) → number_of r ≡ number_of t → r ≡ t
number_once r t e = sym (back r) ∙ ap numbered e ∙ back t

pub number_above_0 : (r : Refusal) → number_of r ≡ 0 → ⊥
number_above_0 NoSuchGroup e = cc e
number_above_0 NoSuchCircuit e = cc e
number_above_0 NoSuchEvent e = cc e
number_above_0 FarBlocked e = cc e
number_above_0 CommandNotAllowed e = cc e
number_above_0 TimerNotRunning e = cc e
number_above_0 WrongLength e = cc e
number_above_0 WrongLabel e = cc e
number_above_0 NoSuchHeading e = cc e
number_above_0 WrongAddress e = cc e
number_above_0 OutputTooShort e = cc e
number_above_0 BadRecord e = cc e
number_above_0 CounterFull e = cc e
number_above_0 NoCircuit e = cc e
number_above_0 ShortNumber e = cc e
