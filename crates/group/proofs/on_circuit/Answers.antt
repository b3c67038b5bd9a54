-- What the check leaves of the proof that `group::on_circuit` meets its contract.
-- Assumes nothing.
use Rattle.std.proofs.Common.{rules}
use Rattle.codes.specs.Numbers.{event_of}
use Rattle.group.proofs.Lands.{ends}
use Rattle.group.proofs.on_circuit.Goals as goal

pub returns : goal.returns
returns c =
    let a = c.args in let at = c.stored_at in let s = c.step-answer in let l = c.land in
    let e = ends a.con a.table.now a.cic.0 (event_of a.numbers.kind a.numbers.code a.numbers.detail) at.result s.result l.result _ at.ensures c.requires (search rules) (search rules) s.ensures.packs s.ensures.unpacks l.ensures.answers l.ensures.leaves in
    record { packs = e.0; unpacks = e.1.0; leaves = e.1.1 }
