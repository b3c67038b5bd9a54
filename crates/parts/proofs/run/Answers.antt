-- What the check leaves of the proof that `parts::run` meets its contract.
-- Assumes nothing.
use mathlib.Core.Path.{◌∙◌}
use mathlib.Core.Bool.{true, false}
use native.Mathlib.Omega.{arith}
use Rattle.parts.proofs.Loop.{back_within, back_onward, back_nearer, back_again, back_stopped}
use Rattle.parts.proofs.run.Goals as goal

pub overflow_add-at : goal.overflow_add-at
overflow_add-at g c =
    let o = c.one in
    omega (arith, (back_within c.is_lawful.ensures c.loop-t.invariant o.ensures o.auto.room c.in-Some.is).0)

pub loop-t-smaller : goal.loop-t-smaller
loop-t-smaller g c =
    let o = c.one in
    back_nearer c.is_lawful.ensures c.loop-t.invariant o.ensures o.auto.room c.in-Some.is

pub loop-t-preserved : goal.loop-t-preserved
loop-t-preserved g c =
    let law = c.is_lawful.ensures in
    let u = c.loop-t.invariant in
    let o = c.one in
    rw (c.onward-here.ensures ∙ back_onward law u o.ensures o.auto.room c.in-Some.is) (back_again law u o.ensures o.auto.room c.in-Some.is)

pub returns-then-starts_none : goal.returns-then-starts_none
returns-then-starts_none g c =
    let o = c.one in
    back_stopped c.is_lawful.ensures c.loop-t.invariant o.ensures o.auto.room true c.in_default.is c.if-starts_none.ensures

pub returns-else-starts_none : goal.returns-else-starts_none
returns-else-starts_none g c =
    let o = c.one in
    back_stopped c.is_lawful.ensures c.loop-t.invariant o.ensures o.auto.room false c.in_default.is c.if-starts_none.ensures
