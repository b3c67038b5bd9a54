-- What the check leaves of the proof that `records::behind_at` meets its contract.
-- Assumes nothing.
use Rattle.std.proofs.Common.{sym}
use mathlib.Core.Path.{◌∙◌}
use native.Mathlib.Omega.{arith}
use Rattle.records.proofs.Items.{behind_event, behind_none, event_within}
use Rattle.records.proofs.behind_at.Goals as goal

pub overflow_add-result : goal.overflow_add-result
overflow_add-result c =
    omega (arith, event_within c.args.s.now c.args.at _ (sym c.in-Event.ensures), c.octets_of.ensures)

pub returns-in-Event : goal.returns-in-Event
returns-in-Event c = rw c.octets_of.ensures (sym (behind_event _ _ _ (sym c.in-Event.ensures)))

pub returns-in_default : goal.returns-in_default
returns-in_default c = sym (behind_none _ _ (λ e q. c.in_default.not-Event e (c.item_at.ensures ∙ q)))
