-- What the check leaves of the proof that `formats::few_signals` meets its contract.
-- Assumes nothing.
use Rattle.std.proofs.Common.{ℕ, ltb, eqb, not, rules, tests, ap, ◌∙◌}
use Rattle.std.proofs.lemmas.Iterator.{YieldsList-from_slice, YieldsList-from_take}
use Rattle.std.proofs.lemmas.Iterator.Consumers.{YieldsList-from_filter, YieldsList-at, count_from_yields_List}
use Rattle.formats.proofs.Few.{four}
use Rattle.formats.proofs.few_signals.Goals as goal

pub returns : goal.returns
returns c =
    ap (λ (n : ℕ). ltb n 4) (count_from_yields_List c.take.result c.count.result c.count.ensures.ran
    (YieldsList-from_take 4 (YieldsList-at c.take.ensures.source (YieldsList-from_filter _ (λ x. not (eqb x 15)) (YieldsList-from_slice c.args.address.now cc) c.filter.ensures.closure (λ x r q k. search (rules, tests)))) c.take.ensures.count))
    ∙ four c.args.address.now
