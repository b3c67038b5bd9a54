-- What the check leaves of the proof that `parts::feed` meets its contract.
-- Assumes nothing.
use mathlib.Core.Path.{◌∙◌}
use native.Mathlib.Omega.{arith}
use Rattle.parts.specs.Feed.{fed}
use Rattle.parts.proofs.Opening.{begun_in, stays_there}
use Rattle.parts.proofs.feed.Goals as goal

pub returns-in-Start : goal.returns-in-Start
unfolding fed
returns-in-Start g c =
    let a = c.args in
    let e = c.begin.ensures in
    let b = begun_in (g.K.Kind.state_in a.lent.now) a.part.now a.room.now _ (e.answers, (e.writes, e.within)) in
    rw c.in-Start.is (record { answers = b.0; leaves = b.1.0; writes = b.1.1.0; within = b.1.1.1 })

pub returns-in-Runs : goal.returns-in-Runs
unfolding fed
returns-in-Runs g c = let e = c.run.ensures in rw c.in-Runs.is (record { answers = e.answers; leaves = e.leaves; writes = e.writes; within = e.within })

pub returns-in-Bad : goal.returns-in-Bad
returns-in-Bad g c =
    let a = c.args in
    let b = stays_there g.K.Kind.making a.stage (g.K.Kind.state_in a.lent.now) a.part.now a.room.now c.in-Bad.is in
    record { answers = c.stay.ensures ∙ b.0; leaves = b.1.0; writes = b.1.1; within = rw c.stay.ensures (omega arith, omega arith) }
