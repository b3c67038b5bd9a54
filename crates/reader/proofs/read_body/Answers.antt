-- What the check leaves of the proof that `reader::read_body` meets its contract.
-- Assumes nothing.
use Rattle.std.proofs.Common.{sym, ◌∙◌}
use Rattle.reader.proofs.Bodies.{looked_none, looked_long, looked_beyond, looked_acm, looked_plain}
use Rattle.reader.proofs.read_body.Goals as goal

pub returns-in_default : goal.returns-in_default
returns-in_default c = c.new.ensures ∙ sym (looked_none _ _ _ (λ i. (c.type_inv.octets i).fits) c.if-heading-eq-IAM.false (sym (rw c.from.ensures at c.fixed_length.ensures) ∙ c.in_default.is))

pub returns-then-octets-fixed : goal.returns-then-octets-fixed
returns-then-octets-fixed c =
    c.wrong_length.ensures ∙ sym (looked_long _ _ _ (λ i. (c.type_inv.octets i).fits) c.if-heading-eq-IAM.false _ (sym (rw c.from.ensures at c.fixed_length.ensures) ∙ c.in-Some.is) c.if-octets-fixed.true)

pub returns-then-records-circuit : goal.returns-then-records-circuit
returns-then-records-circuit c =
    c.new-then-records-circuit.ensures
    ∙ sym (looked_beyond _ _ _ (λ i. (c.type_inv.octets i).fits) c.if-heading-eq-IAM.false _ (sym (rw c.from.ensures at c.fixed_length.ensures) ∙ c.in-Some.is) c.if-octets-fixed.false _ c.requires.1 c.if-records-circuit.true)

pub returns-then-heading-eq-ACM : goal.returns-then-heading-eq-ACM
returns-then-heading-eq-ACM c =
    sym (looked_acm _ _ _ (λ i. (c.type_inv.octets i).fits) c.if-heading-eq-IAM.false _ (sym (rw c.from.ensures at c.fixed_length.ensures) ∙ c.in-Some.is) c.if-octets-fixed.false _ c.requires.1 c.if-records-circuit.false c.if-heading-eq-ACM.true)

pub returns-else-heading-eq-ACM : goal.returns-else-heading-eq-ACM
returns-else-heading-eq-ACM c =
    sym (looked_plain _ _ _ (λ i. (c.type_inv.octets i).fits) c.if-heading-eq-IAM.false _ (sym (rw c.from.ensures at c.fixed_length.ensures) ∙ c.in-Some.is) c.if-octets-fixed.false _ c.requires.1 c.if-records-circuit.false c.if-heading-eq-ACM.false)
