-- What the check leaves of the proof that `select::search` meets its contract.
-- Assumes nothing.
use Rattle.std.proofs.Common.{refl, ◌≡◌, sym, ◌∙◌, arith}
use borrow.Author.Tests.{eq-eqb, ne_eqb}
use Rattle.select.proofs.Searching.{scan_theirs, scan_theirs_stay, scan_first, none_behind, bad_behind, judged, free_at, rank_is, no_stop, scan_busy, scan_bad, scan_end, scan_start, stop_here, every_second, same_parity, all_good}
use Rattle.select.proofs.search.Goals.{then-released_later, else-released_later}
use Rattle.select.proofs.search.Goals as goal

pub loop-i-init : goal.loop-i-init
loop-i-init c = rw (eq-eqb c.args.records c.args.records refl) (scan_start _ _)

pub returns-then-not-allowed : goal.returns-then-not-allowed
returns-then-not-allowed c =
    let h = c.loop-i-test.true in scan_bad _ _ _ _ h (judged _ _ _ c.requires.0 h c.stored_at-at.ensures c.if-not-allowed.ensures)

pub loop-i-preserved-then-not-free : goal.loop-i-preserved-then-not-free
loop-i-preserved-then-not-free c =
    let all = c.requires.0 in let h = c.loop-i-test.true in let e = c.stored_at-at.ensures in
    scan_busy _ _ c.loop-i.invariant (judged _ _ _ all h e c.if-not-allowed.ensures) (free_at _ _ _ all h e c.if-not-free.ensures)

pub returns-then-not-allowed_from : goal.returns-then-not-allowed_from
returns-then-not-allowed_from c =
    let all = c.requires.0 in let h = c.loop-i-test.true in
    bad_behind _ _ c.loop-i.invariant all h (judged _ _ _ all h c.stored_at-at.ensures c.if-not-allowed.ensures) (sym c.if-not-allowed_from.ensures)

pub returns-then-at-eq0 : goal.returns-then-at-eq0
returns-then-at-eq0 c =
    let all = c.requires.0 in let h = c.loop-i-test.true in let e = c.stored_at-at.ensures in let s = c.loop-i.invariant in
    let ok = judged _ _ _ all h e c.if-not-allowed.ensures in
    stop_here _ _ (no_stop _ _ s) _ h (free_at _ _ _ all h e c.if-not-free.ensures) (eq-eqb _ _ c.if-i-first.true) (sym (rank_is _ _ _ all h e) ∙ c.if-at-eq0.true)
    ∙ all_good _ _ _ (none_behind _ _ s all h ok (sym c.if-not-allowed_from.ensures))

pub ours_from-requires-clause-led : goal.ours_from-requires-clause-led
ours_from-requires-clause-led c =
    let all = c.requires.0 in let h = c.loop-i-test.true in let e = c.stored_at-at.ensures in
    let ok = judged _ _ _ all h e c.if-not-allowed.ensures in let par = c.if-i-first.true in
    rw (same_parity _ _ par)
    (every_second _ _ par (scan_first _ _ c.loop-i.invariant ok (free_at _ _ _ all h e c.if-not-free.ensures) _ (rank_is _ _ _ all h e) (eq-eqb _ _ par) c.if-at-eq0.false))

pub returns-then-i-first : goal.returns-then-i-first
returns-then-i-first c =
    let all = c.requires.0 in let h = c.loop-i-test.true in
    let ok = judged _ _ _ all h c.stored_at-at.ensures c.if-not-allowed.ensures in
    rw (same_parity _ _ c.if-i-first.true) at c.ours_from.ensures
    ∙ all_good _ _ _ (none_behind _ _ c.loop-i.invariant all h ok (sym c.if-not-allowed_from.ensures))

pub loop-i-preserved : goal.loop-i-preserved
loop-i-preserved c =
    let h = c.loop-i-test.true in let below : c.loop-i.i ≡ c.args.records → ⊥ = λ d. omega (arith, d, h) in
    let all = c.requires.0 in let e = c.stored_at-at.ensures in let s = c.loop-i.invariant in
    let ok = judged _ _ _ all h e c.if-not-allowed.ensures in
    let is = free_at _ _ _ all h e c.if-not-free.ensures in
    let con = ne_eqb _ _ c.if-i-first.false in
    elim c.if-released_later.branch [
      | then-released_later w ↦ rw (w.theirs-is, ne_eqb c.loop-i.i c.args.records below) (scan_theirs _ _ s ok is _ (rank_is _ _ _ all h e) con (sym w.if-released_later.ensures))
      | else-released_later w ↦ rw w.theirs-is (scan_theirs_stay _ _ s ok is _ (rank_is _ _ _ all h e) con (sym w.if-released_later.ensures))
    ]

pub returns : goal.returns
returns c =
    let end : c.loop-i.i ≡ c.args.records = omega arith in
    c.conclude.ensures ∙ scan_end _ _ _ (rw end at c.loop-i.invariant)
