-- What the check leaves of the proof that `step::step` meets its contract.
-- Assumes nothing.
use Rattle.std.proofs.Common.{sym, ◌∙◌, rules}
use Rattle.step.proofs.Tables.{refuses_bad, answers_good}
use Rattle.step.proofs.step.Goals as goal

pub returns-then-not-allowed : goal.returns-then-not-allowed
returns-then-not-allowed c =
    let a = c.args in
    let both = refuses_bad _ a.con a.held.state a.held.flags _ (sym c.allowed.ensures ∙ c.if-not-allowed.true) (search rules) (search rules) (rw c.from.ensures at c.refused.ensures) in
    record { packs = both.0; unpacks = both.1 }

pub returns : goal.returns
returns c =
    let a = c.args in
    let both = answers_good _ a.con a.held.state a.held.flags _ (sym c.allowed.ensures ∙ c.if-not-allowed.false) (search rules) (search rules) c.on_found.ensures in
    rw (← c.event_of.ensures) (record { packs = both.0; unpacks = both.1 })
