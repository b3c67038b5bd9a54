-- What the check leaves of the proof that `replay_cases::main` meets its contract.
-- Assumes nothing.
use Rattle.std.proofs.Common.{rules, arith, ◌^◌, ◌≤◌, length}
use Rattle.std.proofs.lemmas.Iterator.{YieldsList-from_slice}
use Rattle.std.proofs.lemmas.Iterator.Adapters.{fits_from_length, at_most_from_yields_List}
use Rattle.replay_cases.proofs.main.Goals as goal

pub sum-wrong-requires-clause-fits : goal.sum-wrong-requires-clause-fits
sum-wrong-requires-clause-fits c =
    let few : length c.iter.result.rest.now ≤ 18 = search rules in
    fits_from_length _ _ 18 (2 ^ 64) (at_most_from_yields_List (YieldsList-from_slice c.iter.result.rest.now cc) few) c.map.ensures.closure (omega arith) (λ x r q k. search rules)
