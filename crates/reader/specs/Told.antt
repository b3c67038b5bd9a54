-- What the reader tells, in the paper's numbers (docs/RULES.md, "Messages on the link" and "Refusals"): refusal and place, 0 where nothing is refused,
-- beside what the message says. What the program answers, told so.
-- Assumes nothing.
use Rattle.std.specs.Prelude.{List, ℕ, replicate, Result, Ok, Err, Option, Some}
use Rattle.circuit.specs.declared.Cic.{Cic}
use Rattle.circuit.specs.declared.Signal.{Signal}
use Rattle.codes.specs.Headings.{signal_of}
use Rattle.names.specs.Refusal.{number_of}
use Rattle.reader.specs.declared.Fault.{Fault}
use Rattle.reader.specs.declared.Fields.{Fields}
use Rattle.reader.specs.declared.Message.{Message}

-- a message by numbers, or the refusal of one with its place and every other field 0. A field that the heading does not have is 0, and so is each
-- code of the address from the count on
pub record Told : Type 0 where
  pub refusal : ℕ
  pub place : ℕ
  pub circuit : Cic
  pub heading : ℕ
  pub acm : ℕ
  pub category : ℕ
  pub indicators : ℕ
  pub count : ℕ
  pub address : List ℕ

-- fifteen places for codes, none used
abbrev pub no_codes : List ℕ
no_codes = replicate 15 0

-- a refusal and its place: every other field is 0
abbrev pub refused : (refusal place : ℕ) → Told
refused n place = record { refusal = n; place = place; circuit = record { 0 = 0 }; heading = 0; acm = 0; category = 0; indicators = 0; count = 0; address = no_codes }

abbrev pub told : Result Fields Fault → Told
told (Ok f) = record {
  refusal = 0;
  place = 0;
  circuit = f.circuit;
  heading = f.heading;
  acm = f.acm;
  category = f.category;
  indicators = f.indicators;
  count = f.count;
  address = f.address;
}
told (Err e) = refused (number_of e.refusal) e.place

-- THE SAME WITH ITS SIGNAL BY NAME

pub record ByName : Type 0 where
  pub circuit : Cic
  pub signal : Option Signal
  pub category : ℕ
  pub indicators : ℕ
  pub count : ℕ
  pub address : List ℕ

pub record Reading : Type 0 where
  pub refusal : ℕ
  pub place : ℕ
  pub message : ByName

-- the message with its signal by name; a refusal has no signal
abbrev pub message_of : Told → ByName
message_of f = record { circuit = f.circuit; signal = signal_of f.heading f.acm; category = f.category; indicators = f.indicators; count = f.count; address = f.address }

abbrev pub named : Told → Reading
named f = record { refusal = f.refusal; place = f.place; message = message_of f }

abbrev pub told_message : Result Message Fault → Reading
told_message (Ok m) = record {
  refusal = 0;
  place = 0;
  message = record {
    circuit = m.circuit;
    signal = Some m.signal;
    category = m.category;
    indicators = m.indicators;
    count = m.count;
    address = m.address;
  };
}
told_message (Err e) = named (refused (number_of e.refusal) e.place)
