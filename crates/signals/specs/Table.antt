-- Document 01's table "Signals that arrive", its rows in the printed order, and the row that T-03 added.
-- Assumes nothing.
use Rattle.std.specs.Prelude.{Bool, true, false, not, ◌||◌, List, [], ◌∷◌, ℕ}
use Rattle.circuit.specs.declared.Record.{Record}
use Rattle.circuit.specs.declared.Signal.{Signal}
use Rattle.circuit.specs.declared.Signal.TheVariants.{Iam, Acm, Anc, Ann, Cbk, Clf, Ran, Rlg, Blo, Bla, Ubl, Uba, Rsc, Fail}
use Rattle.circuit.specs.declared.Sends.{Sends}
use Rattle.circuit.specs.declared.Sends.TheVariants.{Nothing, One, Two}
use Rattle.circuit.specs.declared.Row.{Row}
use Rattle.circuit.specs.declared.Outcome.{Outcome}
use Rattle.circuit.specs.Records.{rec, to, set_far, set_bla, set_uba}
use Rattle.circuit.specs.Rows.{row, first, discarded}

-- RSC, before its row, clears flag 2 and, with own block, sends BLO and sets 4
abbrev pub reset : Record → Record
reset r = rec r.state r.own false (r.own || r.bla) r.uba

abbrev pub blo_first : Bool → Sends → Sends
blo_first false sends = sends
blo_first true Nothing = One Blo
blo_first true (One s) = Two Blo s
blo_first true (Two s t) = Two s t

-- a row of RSC, with what comes before it: the states, what the row sends, the new state, the indication
abbrev pub rsc_row : Record → ℕ → ℕ → Sends → ℕ → ℕ → Row
rsc_row r low high sends new ind = row low high true (blo_first r.own sends) (to (reset r) new) ind

-- T-03, nonsense before address complete: an answer, clear-back, re-answer or release-guard signal in 1 sends CLF, goes to 5, indication 6
abbrev pub nonsense : Record → Row
nonsense r = row 1 1 true (One Clf) (to r 5) 6

-- The table. c: our end controls the circuit ("c"; "n" is not c). r: the record when the signal arrives.
-- A row: the states from .. to, its condition, what is sent, the new record, the indication.
abbrev pub table : (c : Bool) (r : Record) → Signal → List Row
table c r Iam =
    row 0 0 (not r.own) Nothing (to r 6) 1
    ∷ row 0 0 r.own (One Blo) (set_bla (to r 0) true) 7
    ∷ row 1 1 (not c) Nothing (to r 6) 9
    ∷ row 5 5 (not c) Nothing (to r 6) 1
    ∷ []
table c r (Acm octet) =
    row 1 1 true Nothing (to r 2) 2
    ∷ []
table c r Anc =
    row 2 2 true Nothing (to r 3) 3
    ∷ nonsense r
    ∷ []
table c r Ann =
    row 2 2 true Nothing (to r 3) 3
    ∷ nonsense r
    ∷ []
table c r Cbk =
    row 3 3 true Nothing (to r 4) 4
    ∷ nonsense r
    ∷ []
table c r Ran =
    row 4 4 true Nothing (to r 3) 3
    ∷ nonsense r
    ∷ []
table c r (Fail f) =
    row 1 4 true (One Clf) (to r 5) 10
    ∷ []
table c r Clf =
    row 0 0 true (One Rlg) (to r 0) 0
    ∷ row 1 1 (not c) (One Rlg) (to r 0) 6
    ∷ row 5 5 (not c) (One Rlg) (to r 0) 5
    ∷ row 6 11 true (One Rlg) (to r 0) 5
    ∷ row 12 12 true (One Rlg) (to r 0) 5
    ∷ []
table c r Rlg =
    row 5 5 true Nothing (to r 0) 5
    ∷ row 12 12 true Nothing (to r 0) 5
    ∷ nonsense r
    ∷ []
table c r Rsc =
    rsc_row r 0 0 (One Rlg) 0 0
    ∷ rsc_row r 1 1 (One Clf) 5 6
    ∷ rsc_row r 2 4 (One Clf) 5 10
    ∷ rsc_row r 5 5 Nothing 5 7
    ∷ rsc_row r 6 11 (One Rlg) 0 5
    ∷ rsc_row r 12 12 (One Rlg) 12 0
    ∷ []
table c r Blo =
    row 1 1 true (Two Bla Clf) (set_far (to r 5) true) 6
    ∷ row 0 12 true (One Bla) (set_far r true) 0
    ∷ []
table c r Ubl =
    row 0 12 true (One Uba) (set_far r false) 0
    ∷ []
table c r Bla =
    row 0 12 r.bla Nothing (set_bla r false) 0
    ∷ []
table c r Uba =
    row 0 12 r.uba Nothing (set_uba r false) 0
    ∷ []

-- What a signal that arrives does: the first row that fits. Every pair not in the table changes and sends nothing, indication 7.
abbrev pub on_signal : (c : Bool) (r : Record) → Signal → Outcome
on_signal c r s = first r.state (table c r s) (discarded r)
