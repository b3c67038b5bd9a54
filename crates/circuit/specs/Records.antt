-- A circuit's record (docs/RULES.md, "Records"): what is changed in one, and which are allowed.
-- Assumes nothing.
use Rattle.std.specs.Prelude.{Bool, true, false, not, ◌&&◌, ◌||◌, cond, ℕ, ◌+◌, leb, ltb}
use Rattle.circuit.specs.declared.Record.{Record}
use Rattle.circuit.specs.declared.AddressType.{AddressType}
use Rattle.circuit.specs.declared.AddressType.TheVariants.{Plain, Charge, NoCharge, Payphone}

-- a record by its state and its flags 1, 2, 4, 8
abbrev pub rec : ℕ → Bool → Bool → Bool → Bool → Record
rec s own far bla uba = record { state = s; own = own; far = far; bla = bla; uba = uba }

-- a record with no flag
abbrev pub plain : ℕ → Record
plain s = rec s false false false false

-- the record in another state
abbrev pub to : Record → ℕ → Record
to r s = rec s r.own r.far r.bla r.uba

-- the record with flag 2, 4, 8 set or cleared
abbrev pub set_far : Record → Bool → Record
set_far r on = rec r.state r.own on r.bla r.uba

abbrev pub set_bla : Record → Bool → Record
set_bla r on = rec r.state r.own r.far on r.uba

abbrev pub set_uba : Record → Bool → Record
set_uba r on = rec r.state r.own r.far r.bla on

-- block: set 1 and 4, clear 8
abbrev pub block : Record → Record
block r = rec r.state true r.far true false

-- unblock: set 8, clear 1 and 4
abbrev pub unblock : Record → Record
unblock r = rec r.state false r.far false true

-- restart: awaiting reset, all flags cleared
abbrev pub restarted : Record
restarted = plain 12

-- 4 needs 1; 8 needs 1 absent; 4 and 8 never together
abbrev pub flags_allowed : Record → Bool
flags_allowed r = (not r.bla || r.own) && ((not r.uba || not r.own) && not (r.bla && r.uba))

-- only 2 may be set
abbrev pub only_far : Record → Bool
only_far r = not r.own && (not r.bla && not r.uba)

-- a state up to 12, flags that are allowed, and in state 12 only 2 set
abbrev pub valid : Record → Bool
valid r = leb r.state 12 && (flags_allowed r && (ltb r.state 12 || only_far r))

-- the octet of address complete: the type in the bits worth 1 and 2, subscriber free in the bit worth 4
abbrev pub type_bits : AddressType → ℕ
type_bits Plain = 0
type_bits Charge = 1
type_bits NoCharge = 2
type_bits Payphone = 3

abbrev pub complete_octet : AddressType → Bool → ℕ
complete_octet t free = type_bits t + cond free 4 0
