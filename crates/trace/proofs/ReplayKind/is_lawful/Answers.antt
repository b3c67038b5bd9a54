-- What the check leaves of the proof that `trace::ReplayKind::is_lawful` meets its contract.
-- Assumes nothing.
use Rattle.trace.proofs.Events.{lawful}
use Rattle.trace.proofs.ReplayKind.is_lawful.Goals as goal

pub returns : goal.returns
returns c = lawful
