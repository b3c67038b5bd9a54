-- What the check leaves of the proof that `messages::ListingKind::starts_none` meets its contract.
-- Assumes nothing.
use Rattle.messages.proofs.Turns.{always_one}
use Rattle.messages.proofs.ListingKind.starts_none.Goals as goal

pub returns : goal.returns
returns c = λ r t. always_one r c.args._part.now
