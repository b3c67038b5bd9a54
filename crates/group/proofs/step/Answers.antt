-- What the check leaves of the proof that `group::step` meets its contract.
-- Assumes nothing.
use Rattle.std.proofs.Common.{◌≡◌, ◌||◌, true, refl, sym, arith, length}
use Rattle.circuit.specs.Groups.{bad_codes}
use Rattle.codes.specs.Numbers.{event_of}
use Rattle.layout.specs.Way.{bad_length}
use Rattle.group.specs.Table.{step_in}
use Rattle.group.proofs.Cases.{no_group, no_circuit, in_group}
use Rattle.group.proofs.Lands.{nothing, bad_by_codes, bad_by_length, good_group, has_not, has}
use Rattle.group.proofs.step.Goals.{then-are_bad-via-then-are_bad, then-are_bad-via-else-are_bad+then-bad_length}
use Rattle.group.proofs.step.Goals as goal

pub returns-then-are_bad : goal.returns-then-are_bad
returns-then-are_bad c =
    let a = c.args in let own = a.codes.own.0 in let far = a.codes.far.0 in let event = event_of a.numbers.kind a.numbers.code a.numbers.detail in
    let is : (bad_codes own far || bad_length (length a.table.now)) ≡ true = elim c.then-are_bad.branch [
      | then-are_bad-via-then-are_bad w ↦ bad_by_codes (bad_codes own far) (length a.table.now) (sym w.if-are_bad.ensures)
      | then-are_bad-via-else-are_bad+then-bad_length w ↦ bad_by_length (bad_codes own far) (length a.table.now) (sym w.if-bad_length.ensures)
    ] in
    let e = nothing 1 c.refused.result (step_in own far a.table.now a.cic.0 event) a.table.now _ (omega arith)
    (no_group own far a.table.now a.cic.0 event is) (rw c.from.ensures at c.refused.ensures) refl in
    record { packs = e.0; unpacks = e.1.0; leaves = e.1.1 }

pub returns-then-ends_before : goal.returns-then-ends_before
returns-then-ends_before c =
    let a = c.args in let own = a.codes.own.0 in let far = a.codes.far.0 in let event = event_of a.numbers.kind a.numbers.code a.numbers.detail in
    let whole = sym c.if-bad_length.ensures in
    let e = nothing 2 c.refused-then-ends_before.result (step_in own far a.table.now a.cic.0 event) a.table.now _ (omega arith)
    (no_circuit own far a.table.now a.cic.0 event
    (good_group (bad_codes own far) (length a.table.now) (sym c.if-are_bad.ensures) whole)
    (has_not (length a.table.now) a.cic.0 whole (sym c.if-ends_before.ensures)))
    (rw c.from-then-ends_before.ensures at c.refused-then-ends_before.ensures) refl in
    record { packs = e.0; unpacks = e.1.0; leaves = e.1.1 }

pub on_circuit-requires : goal.on_circuit-requires
on_circuit-requires c = has (length c.args.table.now) c.args.cic.0 (sym c.if-bad_length.ensures) (sym c.if-ends_before.ensures)

pub returns : goal.returns
returns c =
    let a = c.args in let own = a.codes.own.0 in let far = a.codes.far.0 in let whole = sym c.if-bad_length.ensures in
    rw (in_group own far a.table.now a.cic.0 (event_of a.numbers.kind a.numbers.code a.numbers.detail)
    (good_group (bad_codes own far) (length a.table.now) (sym c.if-are_bad.ensures) whole)
    (has (length a.table.now) a.cic.0 whole (sym c.if-ends_before.ensures)))
    (rw c.control.ensures at c.on_circuit.ensures)
