-- Two different messages are never written as the same octets.
-- Assumes nothing.
use mathlib.Core.Path.{◌≡◌, refl, sym, ap, ◌∙◌}
use Prim.Native.Nat.{ℕ}
use lib.ListN.{length, drop}
use lib.Seq.{take-append_seam}
use Rattle.circuit.specs.Refusals.{first_rule}
use Rattle.circuit.proofs.Groups.{turned}
use Rattle.reader.specs.Reading.{fields_of}
use Rattle.reader.specs.Told.{no_codes}
use Rattle.writer.specs.Writing.{Said, said, octets_of, write_rules}
use Rattle.inverse.specs.Said.{fields_said, said_of}
use Rattle.inverse.proofs.ReadBack.{octets_read, taking}

-- the fields of a message say the message
said_back : (m : Said) → said_of (fields_said m) ≡ m
said_back m = ap (said m.cic m.heading m.acm m.category m.indicators) (take-append_seam m.address (drop (length m.address) no_codes))

-- two messages that the writer takes and writes as the same octets are the same message
pub same_message : (own far records records' : ℕ) (m m' : Said) (room room' : ℕ)
    → first_rule (write_rules own far records m room) ≡ 0 → first_rule (write_rules own far records' m' room') ≡ 0
    → octets_of own far m ≡ octets_of own far m' → m ≡ m'
same_message own far records records' m m' room room' ok ok' e =
    let t = taking own far records m room ok in
    let t' = taking own far records' m' room' ok' in
    let g = turned own far records 4096 t.0 refl in
    sym (said_back m)
    ∙ ap said_of (sym (octets_read own far records m room ok 4096 g t.1) ∙ ap (fields_of far own 4096) e ∙ octets_read own far records' m' room' ok' 4096 g t'.1)
    ∙ said_back m'
