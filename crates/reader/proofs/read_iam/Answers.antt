-- What the check leaves of the proof that `reader::read_iam` meets its contract.
-- Assumes nothing.
use Rattle.std.proofs.Common.{sym, ◌∙◌}
use Rattle.reader.proofs.Bodies.{of_two, iam_cut, empty, too_long, Spelt, spoilt, too_few, no_circuit, read_whole}
use Rattle.reader.proofs.read_iam.Goals as goal

pub returns-then-octets-lt-IAM_OCTETS : goal.returns-then-octets-lt-IAM_OCTETS
returns-then-octets-lt-IAM_OCTETS c = c.wrong_length.ensures ∙ sym (iam_cut _ _ c.if-octets-lt-IAM_OCTETS.true)

pub returns-then-count-eq0 : goal.returns-then-count-eq0
returns-then-count-eq0 c =
    c.new.ensures
    ∙ sym (empty _ _ (λ i. (c.type_inv.octets i).fits) _ (c.from-word.ensures ∙ c.from_le_bytes.ensures ∙ of_two _ _) c.if-octets-lt-IAM_OCTETS.false c.if-count-eq0.true)

pub returns-then-octets-count : goal.returns-then-octets-count
returns-then-octets-count c =
    c.wrong_length-then-octets-count.ensures
    ∙ sym (too_long _ _ (λ i. (c.type_inv.octets i).fits) _ (c.from-word.ensures ∙ c.from_le_bytes.ensures ∙ of_two _ _) c.if-octets-lt-IAM_OCTETS.false c.if-count-eq0.false c.if-octets-count.true)

pub returns-in-Some : goal.returns-in-Some
returns-in-Some c =
    let spelt : Spelt c.args.octets.now c.from-word.result c.codes_in-address.result = record {
      octets = λ i. (c.type_inv.octets i).fits;
      word = c.from-word.ensures ∙ c.from_le_bytes.ensures ∙ of_two _ _;
      nine = c.if-octets-lt-IAM_OCTETS.false;
      some = c.if-count-eq0.false;
      long = c.if-octets-count.false;
      signals = c.codes_in-address.ensures;
    } in
    c.new-in-Some.ensures ∙ sym (spoilt _ _ _ _ spelt _ (sym c.first_bad.ensures ∙ c.in-Some.is))

pub returns-then-short : goal.returns-then-short
returns-then-short c =
    let spelt : Spelt c.args.octets.now c.from-word.result c.codes_in-address.result = record {
      octets = λ i. (c.type_inv.octets i).fits;
      word = c.from-word.ensures ∙ c.from_le_bytes.ensures ∙ of_two _ _;
      nine = c.if-octets-lt-IAM_OCTETS.false;
      some = c.if-count-eq0.false;
      long = c.if-octets-count.false;
      signals = c.codes_in-address.ensures;
    } in
    c.new-then-short.ensures ∙ sym (too_few _ _ _ _ spelt (sym c.first_bad.ensures ∙ c.in_default.is) _ c.short.ensures c.if-short.true)

pub returns-then-records-circuit : goal.returns-then-records-circuit
returns-then-records-circuit c =
    let spelt : Spelt c.args.octets.now c.from-word.result c.codes_in-address.result = record {
      octets = λ i. (c.type_inv.octets i).fits;
      word = c.from-word.ensures ∙ c.from_le_bytes.ensures ∙ of_two _ _;
      nine = c.if-octets-lt-IAM_OCTETS.false;
      some = c.if-count-eq0.false;
      long = c.if-octets-count.false;
      signals = c.codes_in-address.ensures;
    } in
    c.new-then-records-circuit.ensures
    ∙ sym (no_circuit _ _ _ _ spelt (sym c.first_bad.ensures ∙ c.in_default.is) _ c.short.ensures c.if-short.false (rw c.requires at c.if-records-circuit.true))

pub returns : goal.returns
returns c =
    let spelt : Spelt c.args.octets.now c.from-word.result c.codes_in-address.result = record {
      octets = λ i. (c.type_inv.octets i).fits;
      word = c.from-word.ensures ∙ c.from_le_bytes.ensures ∙ of_two _ _;
      nine = c.if-octets-lt-IAM_OCTETS.false;
      some = c.if-count-eq0.false;
      long = c.if-octets-count.false;
      signals = c.codes_in-address.ensures;
    } in
    sym (read_whole _ _ _ _ spelt (sym c.first_bad.ensures ∙ c.in_default.is) _ c.short.ensures c.if-short.false c.args.circuit c.requires c.if-records-circuit.false)
