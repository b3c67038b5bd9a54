-- What the check leaves of the proof that `reader::read_fields` meets its contract.
-- Assumes nothing.
use Rattle.std.proofs.Common.{ℕ, ◌<◌, get_or, sym, ap, ◌∙◌}
use Rattle.std.proofs.lemmas.Option.{cond_some}
use Rattle.formats.proofs.Lengths.{missing}
use Rattle.reader.proofs.Bodies.{bad_group_lem, cut, stray, ours_read, stray_if}
use Rattle.reader.specs.Told.{refused}
use Rattle.reader.proofs.read_fields.Goals as goal

pub returns-then-bad_group : goal.returns-then-bad_group
returns-then-bad_group c = c.new.ensures ∙ sym (bad_group_lem _ _ _ _ (sym c.bad_group.ensures ∙ c.if-bad_group.true))

pub returns-then-octets-lt-PLAIN_OCTETS : goal.returns-then-octets-lt-PLAIN_OCTETS
returns-then-octets-lt-PLAIN_OCTETS c =
    c.wrong_length.ensures
    ∙ sym (cut _ _ _ _ (sym c.bad_group.ensures ∙ c.if-bad_group.false) c.if-octets-lt-PLAIN_OCTETS.true)

pub returns-in-Some : goal.returns-in-Some
returns-in-Some c =
    let xs = c.args.octets.now in
    let known : (i : ℕ) → get_or xs i 0 < 256 = λ i. (c.type_inv.octets i).fits in
    let there = cond_some _ _ _ (sym (stray_if _ xs known c.number-label.ensures _ _) ∙ sym c.stray_octet.ensures ∙ c.in-Some.is) in
    c.new-in-Some.ensures
    ∙ ap (refused 8) (sym there.1)
    ∙ sym (stray _ _ _ xs (sym c.bad_group.ensures ∙ c.if-bad_group.false) c.if-octets-lt-PLAIN_OCTETS.false there.0)

pub returns : goal.returns
returns c =
    let xs = c.args.octets.now in
    let known : (i : ℕ) → get_or xs i 0 < 256 = λ i. (c.type_inv.octets i).fits in
    c.read_body.ensures
    ∙ sym (ours_read _ _ _ xs (sym c.bad_group.ensures ∙ c.if-bad_group.false) c.if-octets-lt-PLAIN_OCTETS.false (missing _ _ (sym (stray_if _ xs known c.number-label.ensures _ _) ∙ sym c.stray_octet.ensures ∙ c.in_default.is)) known)
