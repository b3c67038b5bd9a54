-- What the check leaves of the proof that `writer::write_iam` meets its contract.
-- Assumes nothing.
use Rattle.std.proofs.Common.{◌≡◌, length, arith, sym}
use Rattle.formats.specs.Messages.{half}
use Rattle.writer.proofs.Writes.{iam_spoilt, iam_short, iam_tight, iam_put_lem}
use Rattle.writer.proofs.write_iam.Goals as goal

pub returns-then-bad_address : goal.returns-then-bad_address
returns-then-bad_address c = sym (iam_spoilt _ _ _ _ _ (sym c.if-bad_address.ensures))

pub returns-then-short : goal.returns-then-short
returns-then-short c =
    let ordered = sym c.if-bad_address.ensures in
    sym (iam_short _ _ _ _ _ ordered (sym c.if-short.ensures))

pub returns-then-out-need : goal.returns-then-out-need
returns-then-out-need c =
    let ordered = sym c.if-bad_address.ensures in
    let enough = sym c.if-short.ensures in
    let is : c.div_ceil-need.result ≡ half (length c.args.m.address.now) = omega (arith, c.div_ceil-need.ensures) in
    sym (iam_tight _ _ _ _ _ ordered enough (rw is at c.if-out-need.true))

pub returns : goal.returns
returns c =
    let ordered = sym c.if-bad_address.ensures in
    let enough = sym c.if-short.ensures in
    let is : c.div_ceil-need.result ≡ half (length c.args.m.address.now) = omega (arith, c.div_ceil-need.ensures) in
    rw is (sym (iam_put_lem _ _ _ _ _ ordered enough (rw is at c.if-out-need.false) _ _ (rw c.from.ensures at c.put_iam.ensures) c.put_pairs.ensures))
