-- What the program does to the marks: which flags are legal, and what the signals BLO, UBL, BLA, UBA and RSC and the commands block and unblock do to
-- them and send. The contracts of this crate cite it; no promise leans on it, since `step` shows that with the calls it comes to the printed tables.
-- Assumes nothing.
use Rattle.std.specs.Prelude.{Bool, true, false, not, cond, ◌&&◌, ◌||◌, ℕ, eqb, leb}
use Rattle.circuit.specs.declared.Signal.{Signal}
use Rattle.circuit.specs.declared.Signal.TheVariants.{Iam, Acm, Anc, Ann, Cbk, Clf, Ran, Rlg, Blo, Bla, Ubl, Uba, Rsc, Fail}
use Rattle.marks.specs.declared.Marked.{Marked}
use Rattle.marks.specs.Flags.{flags, own, far, bla, uba}

-- 4 needs 1; 8 needs 1 absent; 4 and 8 never together
abbrev pub legal : ℕ → Bool
legal f = leb f 15 && ((not (bla f) || own f) && ((not (uba f) || not (own f)) && not (bla f && uba f)))

-- in state 12 only 2 may be set
abbrev pub legal_in_reset : ℕ → Bool
legal_in_reset f = eqb f 0 || eqb f 2

-- what is done to the flags, what is sent for it (its heading, 0 for none), and whether the signal goes no further
abbrev pub marked : (flags sends : ℕ) → Bool → Marked
marked f sends stops = record { flags = f; sends = sends; stops = stops }

-- block: set 1 and 4, clear 8
abbrev pub blocked : ℕ → ℕ
blocked f = flags true (far f) true false

-- unblock: set 8, clear 1 and 4
abbrev pub unblocked : ℕ → ℕ
unblocked f = flags false (far f) false true

-- a call that own block keeps out: BLO, set 4; the call is discarded
abbrev pub kept_out : ℕ → Marked
kept_out f = marked (flags (own f) (far f) true (uba f)) 0x27 true

-- RSC clears flag 2 and, with own block, sends BLO and sets 4
abbrev pub reset : ℕ → Marked
reset f = marked (flags (own f) false (own f || bla f) (uba f)) (cond (own f) 0x27 0) false

-- BLO sets flag 2 and is answered BLA, UBL clears it and is answered UBA; BLA clears 4, UBA clears 8, and where they are not awaited they are
-- discarded; no other signal touches the marks
abbrev pub on_marks : ℕ → Signal → Marked
on_marks f Iam = marked f 0 false
on_marks f (Acm octet) = marked f 0 false
on_marks f Anc = marked f 0 false
on_marks f Ann = marked f 0 false
on_marks f Cbk = marked f 0 false
on_marks f Clf = marked f 0 false
on_marks f Ran = marked f 0 false
on_marks f Rlg = marked f 0 false
on_marks f Blo = marked (flags (own f) true (bla f) (uba f)) 0x37 false
on_marks f Bla = marked (flags (own f) (far f) false (uba f)) 0 (not (bla f))
on_marks f Ubl = marked (flags (own f) false (bla f) (uba f)) 0x57 false
on_marks f Uba = marked (flags (own f) (far f) (bla f) false) 0 (not (uba f))
on_marks f Rsc = reset f
on_marks f (Fail g) = marked f 0 false
