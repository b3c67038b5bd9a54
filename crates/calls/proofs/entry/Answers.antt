-- What the check leaves of the proof that `calls::entry` meets its contract: the rule, computed at each column.
-- Assumes nothing.
use Rattle.std.proofs.Common.{[]}
use lib.Dec.{T}
use lib.ListN.{get_or}
use Rattle.circuit.specs.declared.Signal.{Signal}
use Rattle.circuit.specs.declared.Signal.TheVariants.{Iam, Acm, Anc, Ann, Cbk, Clf, Ran, Rlg, Blo, Bla, Ubl, Uba, Rsc, Fail}
use Rattle.circuit.specs.Every.{each_below}
use Rattle.circuit.specs.Rows.{first}
use Rattle.calls.specs.declared.TheConstants.{CALLS}
use Rattle.calls.specs.Calls.{meaning, on_call}
use Rattle.calls.specs.Way.{column_of}
use Rattle.calls.proofs.Rule.{right_at, at_place}
use Rattle.calls.proofs.entry.Goals as goal

ruled : (sig : Signal) → T (each_below 26 (right_at sig (get_or CALLS (column_of sig) [])))
unfolding first meaning on_call
ruled Iam = tt
ruled (Acm octet) = tt
ruled Anc = tt
ruled Ann = tt
ruled Cbk = tt
ruled Clf = tt
ruled Ran = tt
ruled Rlg = tt
ruled Blo = tt
ruled Bla = tt
ruled Ubl = tt
ruled Uba = tt
ruled Rsc = tt
ruled (Fail f) = tt

pub returns : goal.returns
returns c = rw (c.from.ensures, c.from-2.ensures, c.column_of.ensures) (at_place CALLS ruled c.args.con c.args.state c.args.s c.requires)
