-- What the check leaves of the proof that `formats::above_fifteen` meets its contract.
-- Assumes nothing.
use Rattle.std.proofs.Common.{◌<◌, ◌≤◌, rules, tests}
use Rattle.std.proofs.lemmas.Iterator.{cases_from_any, YieldsList-from_slice}
use Rattle.formats.proofs.Signals.{above}
use Rattle.formats.proofs.above_fifteen.Goals as goal

pub returns : goal.returns
returns c = above c.args.address.now c.any.result (cases_from_any _ _ _ (λ x. 15 < x) (λ x. x ≤ 15) c.any.ensures.ran (YieldsList-from_slice c.args.address.now cc) (λ x q k. search (rules, tests)) (λ x q k. search (rules, tests)))
