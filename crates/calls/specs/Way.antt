-- The order in which the program's table has the signals. The contract of a private function cites it; no promise leans on it.
-- Assumes nothing.
use Rattle.std.specs.Prelude.{ℕ}
use Rattle.circuit.specs.declared.Signal.{Signal}
use Rattle.circuit.specs.declared.Signal.TheVariants.{Iam, Acm, Anc, Ann, Cbk, Clf, Ran, Rlg, Blo, Bla, Ubl, Uba, Rsc, Fail}

abbrev pub column_of : Signal → ℕ
column_of Iam = 0
column_of (Acm octet) = 1
column_of Anc = 2
column_of Ann = 3
column_of Cbk = 4
column_of Clf = 5
column_of Ran = 6
column_of Rlg = 7
column_of Blo = 8
column_of Bla = 9
column_of Ubl = 10
column_of Uba = 11
column_of Rsc = 12
column_of (Fail f) = 13
