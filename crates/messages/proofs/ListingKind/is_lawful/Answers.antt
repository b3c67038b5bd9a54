-- What the check leaves of the proof that `messages::ListingKind::is_lawful` meets its contract.
-- Assumes nothing.
use Rattle.messages.proofs.Laws.{lawful}
use Rattle.messages.proofs.ListingKind.is_lawful.Goals as goal

pub returns : goal.returns
returns c = lawful
