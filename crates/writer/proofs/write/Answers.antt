-- What the check leaves of the proof that `writer::write` meets its contract.
-- Assumes nothing.
use borrow.Author.Tests.{ne_eqb}
use Rattle.std.proofs.Common.{◌≡◌, Some, None, Err, rules, sym, ◌∙◌}
use Rattle.names.specs.declared.Refusal.TheVariants.{NoSuchHeading}
use Rattle.writer.specs.Writing.{said_by}
use Rattle.writer.proofs.Writes.{answer_of, buffer_of, no_group, no_circuit, no_heading, no_field, an_iam_lem, no_iam}
use Rattle.writer.proofs.Tests.{by_limits, fitting, fitting_iam}
use Rattle.formats.proofs.Lengths.{no_length, a_length}
use Rattle.writer.proofs.write.Goals as goal

pub returns-then-bad_group : goal.returns-then-bad_group
returns-then-bad_group c =
    let e = no_group _ _ _ _ _ (sym c.if-bad_group.ensures) in
    record { answers = answer_of e; leaves = buffer_of e }

pub returns-then-m-gt-LAST_CIC : goal.returns-then-m-gt-LAST_CIC
returns-then-m-gt-LAST_CIC c =
    let e = no_circuit _ _ _ _ _ (sym c.if-bad_group.ensures) c.if-m-gt-LAST_CIC.true in
    record { answers = answer_of e; leaves = buffer_of e }

pub returns-in_err-fixed : goal.returns-in_err-fixed
returns-in_err-fixed c =
    let none : c.fixed_length.result ≡ None = search rules in
    let is : c.from_residual.result ≡ Err NoSuchHeading = search rules in
    let e = no_heading _ _ _ _ _ (sym c.if-bad_group.ensures) c.if-m-gt-LAST_CIC.false (no_length c.args.m.heading (sym c.fixed_length.ensures ∙ none)) in
    record { answers = rw is (answer_of e); leaves = buffer_of e }

pub returns-then-too_large : goal.returns-then-too_large
returns-then-too_large c =
    let some : c.fixed_length.result ≡ Some c.in_ok-fixed.fixed = search rules in
    let heading = (a_length c.args.m.heading _ (sym c.fixed_length.ensures ∙ some)).0 in
    let e = no_field _ _ _ _ _ (sym c.if-bad_group.ensures) c.if-m-gt-LAST_CIC.false heading (sym (by_limits (said_by c.args.m)) ∙ sym c.if-too_large.ensures) in
    record { answers = answer_of e; leaves = buffer_of e }

pub write_iam-requires : goal.write_iam-requires
write_iam-requires c = fitting_iam _ (sym (by_limits (said_by c.args.m)) ∙ sym c.if-too_large.ensures) c.if-m-eq-IAM.true

pub returns-then-m-eq-IAM : goal.returns-then-m-eq-IAM
returns-then-m-eq-IAM c =
    let some : c.fixed_length.result ≡ Some c.in_ok-fixed.fixed = search rules in
    let heading = (a_length c.args.m.heading _ (sym c.fixed_length.ensures ∙ some)).0 in
    let fits = sym (by_limits (said_by c.args.m)) ∙ sym c.if-too_large.ensures in
    let e = an_iam_lem _ _ _ _ _ (sym c.if-bad_group.ensures) c.if-m-gt-LAST_CIC.false heading fits c.if-m-eq-IAM.true ∙ sym (rw c.label_to-label.ensures at c.write_iam.ensures) in
    record { answers = answer_of e; leaves = buffer_of e }

pub write_short-requires : goal.write_short-requires
write_short-requires c =
    let some : c.fixed_length.result ≡ Some c.in_ok-fixed.fixed = search rules in
    let heading = a_length c.args.m.heading _ (sym c.fixed_length.ensures ∙ some) in
    let fits = fitting _ (sym (by_limits (said_by c.args.m)) ∙ sym c.if-too_large.ensures) in
    (heading.0, ne_eqb _ _ c.if-m-eq-IAM.false, fits.0, heading.1)

pub returns : goal.returns
returns c =
    let some : c.fixed_length.result ≡ Some c.in_ok-fixed.fixed = search rules in
    let heading = (a_length c.args.m.heading _ (sym c.fixed_length.ensures ∙ some)).0 in
    let fits = sym (by_limits (said_by c.args.m)) ∙ sym c.if-too_large.ensures in
    let e = no_iam _ _ _ _ _ (sym c.if-bad_group.ensures) c.if-m-gt-LAST_CIC.false heading fits c.if-m-eq-IAM.false ∙ sym (rw c.label_to-label.ensures at c.write_short.ensures) in
    record { answers = answer_of e; leaves = buffer_of e }
