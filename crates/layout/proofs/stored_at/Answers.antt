-- What the check leaves of the proof that `layout::stored_at` meets its contract.
-- Assumes nothing.
use Rattle.std.proofs.Common.{◌<◌, ◌-◌, ◌+◌, ℕ, arith, drop, refl}
use Rattle.std.proofs.lemmas.List.{get_or-drop, get_or-take}
use Rattle.layout.proofs.Laws.{octets_at}
use Rattle.layout.proofs.stored_at.Goals as goal

pub returns : goal.returns
returns c =
    let at = c.table_octets-at.result in let table = c.args.table.now in let got = c.in-Some-len10.ensures.lookup.0 in
    octets_at table c.args.cic.0 at c.table_octets-at.ensures.octets c.in-Some-len10.field-0.now _ got.1 (λ (k : ℕ) (h : k < 10).
    let l : k < at + 10 - at = omega arith in
    rw (got.2, get_or-take (at + 10 - at) (drop at table) k 0 l, get_or-drop) refl) c.number.ensures
