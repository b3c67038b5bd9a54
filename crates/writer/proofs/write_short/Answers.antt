-- What the check leaves of the proof that `writer::write_short` meets its contract.
-- Assumes nothing.
use Rattle.std.proofs.Common.{◌≡◌, sym, ap, ◌∙◌}
use Rattle.words.specs.Octets.{over}
use Rattle.writer.specs.Way.{short_octets, outcome}
use Rattle.writer.proofs.Writes.{short_tight, short_put, put_if, put_else}
use Rattle.writer.proofs.write_short.Goals.{then-m-eq-ACM, else-m-eq-ACM}
use Rattle.writer.proofs.write_short.Goals as goal

pub returns-then-out-fixed : goal.returns-then-out-fixed
returns-then-out-fixed c = sym (short_tight _ _ _ _ c.requires.1 (rw c.requires.3 at c.if-out-fixed.true))

pub returns : goal.returns
returns c =
    let put : c.if-m-eq-ACM.out ≡ over (short_octets c.args.label c.args.m.heading c.args.m.acm) c.args.out.now =
    elim c.if-m-eq-ACM.branch [
      | then-m-eq-ACM w ↦ w.out-is ∙ w.put_acm.ensures ∙ put_if _ _ _ _ w.if-m-eq-ACM.true
      | else-m-eq-ACM w ↦ w.out-is ∙ w.put_plain.ensures ∙ put_else _ _ _ _ w.if-m-eq-ACM.false
    ] in
    ap (outcome _) put ∙ rw c.requires.3 (sym (short_put _ _ _ _ c.requires.1 (rw c.requires.3 at c.if-out-fixed.false)))
