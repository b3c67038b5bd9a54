-- What the check leaves of the proof that `select::ours_from` meets its contract.
-- Assumes nothing.
use Rattle.std.proofs.Common.{refl, sym, ◌∙◌, arith}
use borrow.Author.Tests.{eq-eqb}
use Rattle.select.proofs.Searching.{free_at, rank_is, ours_busy, ours_new, ours_stay, ours_end, stop_here}
use Rattle.select.proofs.ours_from.Goals.{then-at-best, else-at-best, else-loop-i-test, then-loop-i-test+then-not-free+else-records-i-gt2, then-loop-i-test+else-not-free+else-at-eq0+else-records-i-gt2-2}
use Rattle.select.proofs.ours_from.Goals as goal

pub loop-i-init : goal.loop-i-init
loop-i-init c = record { parity = refl; within = c.requires.records_bound.2; led = c.requires.led }

pub loop-i-preserved-then-not-free : goal.loop-i-preserved-then-not-free
loop-i-preserved-then-not-free c =
    ours_busy _ _ c.loop-i.invariant (free_at _ _ _ c.requires.records_bound.0 c.loop-i-test.true c.stored_at-at.ensures c.if-not-free.ensures)

pub returns-then-at-eq0 : goal.returns-then-at-eq0
returns-then-at-eq0 c =
    let all = c.requires.records_bound.0 in let h = c.loop-i-test.true in let i = c.loop-i.invariant in let e = c.stored_at-at.ensures in
    stop_here _ _ i.led.on _ h (free_at _ _ _ all h e c.if-not-free.ensures) (eq-eqb _ _ i.parity) (sym (rank_is _ _ _ all h e) ∙ c.if-at-eq0.true)

pub loop-i-preserved : goal.loop-i-preserved
loop-i-preserved c =
    let all = c.requires.records_bound.0 in let h = c.loop-i-test.true in let e = c.stored_at-at.ensures in
    let is = free_at _ _ _ all h e c.if-not-free.ensures in
    elim c.if-at-best.branch [
      | then-at-best w ↦ rw w.best-is (ours_new _ _ c.loop-i.invariant h is _ (rank_is _ _ _ all h e) c.if-at-eq0.false w.if-at-best.true)
      | else-at-best w ↦ rw w.best-is (ours_stay _ _ c.loop-i.invariant h is _ (rank_is _ _ _ all h e) c.if-at-eq0.false w.if-at-best.false)
    ]

pub returns : goal.returns
returns c =
    let all = c.requires.records_bound.0 in let i = c.loop-i.invariant in
    elim c.loop-i-test.branch [
      | else-loop-i-test w ↦ rw w.best-is (ours_end _ _ i w.loop-i-test.false)
      | then-loop-i-test+then-not-free+else-records-i-gt2 w ↦
          rw w.best-is (ours_end _ _ (ours_busy _ _ i (free_at _ _ _ all w.loop-i-test.true w.stored_at-at.ensures w.if-not-free.ensures)) (omega arith))
      | then-loop-i-test+else-not-free+else-at-eq0+else-records-i-gt2-2 w ↦
          let h = w.loop-i-test.true in let e = w.stored_at-at.ensures in
          let is = free_at _ _ _ all h e w.if-not-free.ensures in
          elim w.if-at-best.branch [
            | then-at-best v ↦ rw (w.best-is, v.best-is) (ours_end _ _ (ours_new _ _ i h is _ (rank_is _ _ _ all h e) w.if-at-eq0.false v.if-at-best.true) (omega arith))
            | else-at-best v ↦ rw (w.best-is, v.best-is) (ours_end _ _ (ours_stay _ _ i h is _ (rank_is _ _ _ all h e) w.if-at-eq0.false v.if-at-best.false) (omega arith))
          ]
    ]
