-- What the check leaves of the proof that `records::item_at` meets its contract.
-- Assumes nothing.
use Rattle.std.proofs.Common.{ap, sym}
use mathlib.Core.Path.{◌∙◌}
use native.Mathlib.Omega.{arith}
use borrow.Author.Tests.{ltb-false}
use Rattle.records.specs.declared.Item.TheVariants.{Event}
use Rattle.records.proofs.Items.{got, no_event_kind, event_kind, ends_at, no_event_at, short_at, event_at}
use Rattle.records.proofs.item_at.Goals as goal

pub returns-in_default : goal.returns-in_default
returns-in_default c = let l = rw c.in_default.is at c.get.ensures.lookup in sym (ends_at _ _ (ltb-false _ _ (sym l.0)))

pub returns-then-kind-eq-GROUP : goal.returns-then-kind-eq-GROUP
returns-then-kind-eq-GROUP c =
    let l = got c.args.s.now c.args.at c.in-Some.ensures.lookup.0 c.in-Some.ensures.lookup.1 in
    sym (no_event_at _ _ l.0 (rw l.1 at (no_event_kind _ c.then-kind-eq-GROUP.either)))

pub returns-then-s-at : goal.returns-then-s-at
returns-then-s-at c =
    let l = got c.args.s.now c.args.at c.in-Some.ensures.lookup.0 c.in-Some.ensures.lookup.1 in
    sym (short_at _ _ l.0 (rw l.1 at (event_kind _ c.if-kind-eq-GROUP.false c.if-kind-gt-TIMER.false)) (rw (← l.1) (omega (arith, c.octets_of.ensures))))

pub returns : goal.returns
returns c =
    let l = got c.args.s.now c.args.at c.in-Some.ensures.lookup.0 c.in-Some.ensures.lookup.1 in
    ap Event c.recorded_at.ensures ∙ sym (event_at _ _ l.0 (rw l.1 at (event_kind _ c.if-kind-eq-GROUP.false c.if-kind-gt-TIMER.false)) (rw (← l.1) (omega (arith, c.octets_of.ensures))))
