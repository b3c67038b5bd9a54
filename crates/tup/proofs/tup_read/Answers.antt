-- What the check leaves of the proof that `tup::tup_read` meets its contract.
-- Assumes nothing.
use Rattle.std.proofs.Common.{refl}
use Rattle.names.proofs.Once.{number_above_0}
use Rattle.tup.proofs.Entries.{tells, refuses, no_room, fills}
use Rattle.tup.proofs.tup_read.Goals as goal

pub returns-in-Err : goal.returns-in-Err
returns-in-Err c =
    let is = rw c.codes_of.ensures at c.in-Err.ensures in
    let m = tells (refuses _ _ _ _ c.args.out.now _ is (number_above_0 c.in-Err.fault.refusal)) c.pack_refusal.ensures refl in
    record { answers = m.0; leaves = m.1 }

pub returns-then-out-lt-FIELDS_OCTETS : goal.returns-then-out-lt-FIELDS_OCTETS
returns-then-out-lt-FIELDS_OCTETS c =
    let is = rw c.codes_of.ensures at c.in-Ok.ensures in
    let m = tells (no_room _ _ _ _ _ _ is refl c.if-out-lt-FIELDS_OCTETS.true) refl refl in
    record { answers = m.0; leaves = m.1 }

pub returns : goal.returns
returns c =
    let is = rw c.codes_of.ensures at c.in-Ok.ensures in
    let m = tells (fills _ _ _ _ _ _ is refl c.if-out-lt-FIELDS_OCTETS.false) refl c.put_fields.ensures in
    record { answers = m.0; leaves = m.1 }
