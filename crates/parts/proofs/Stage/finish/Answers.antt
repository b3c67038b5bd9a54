-- What the check leaves of the proof that `parts::Stage::finish` meets its contract.
-- Assumes nothing.
use Rattle.parts.specs.Feed.{last_line}
use Rattle.parts.proofs.Opening.{last_bad}
use Rattle.parts.proofs.Stage.finish.Goals as goal

pub returns-in-Start-clause-printed : goal.returns-in-Start-clause-printed
returns-in-Start-clause-printed c = rw (last_bad c.args.self c.args.rest.now c.in-Start.is) c.bad_group_line.ensures

pub returns-in-Cut-clause-printed : goal.returns-in-Cut-clause-printed
unfolding last_line
returns-in-Cut-clause-printed c = rw c.in-Cut.is c.cut_line.ensures
