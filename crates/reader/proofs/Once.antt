-- What is told of octets that were read tells what was answered.
-- Assumes nothing.
use Rattle.std.proofs.Common.{◌≡◌, sym, ap, ◌∙◌, ℕ, Result, Ok, Err}
use Rattle.std.proofs.lemmas.Option.{same_Some}
use Rattle.circuit.specs.declared.Signal.{Signal}
use Rattle.names.specs.declared.Refusal.{Refusal}
use Rattle.names.specs.Refusal.{number_of}
use Rattle.names.proofs.Once.{number_once, number_above_0}
use Rattle.reader.specs.declared.Fault.{Fault}
use Rattle.reader.specs.declared.Fields.{Fields}
use Rattle.reader.specs.declared.Message.{Message}
use Rattle.reader.specs.Told.{Told, Reading, told, told_message}

abbrev fault : Refusal → ℕ → Fault
fault n k = record { refusal = n; place = k }

fault_once : (r t : Fault) → number_of r.refusal ≡ number_of t.refusal → r.place ≡ t.place → r ≡ t
fault_once r t e p = ap (λ (n : Refusal). fault n r.place) (number_once r.refusal t.refusal e) ∙ ap (fault t.refusal) p

abbrev read : Told → Result Fields Fault
read f = Ok (record { circuit = f.circuit; heading = f.heading; acm = f.acm; category = f.category; indicators = f.indicators; count = f.count; address = f.address })

pub told_once : (x y : Result Fields Fault) → told x ≡ told y → x ≡ y
told_once (Ok f) (Ok g) e = ap read e
told_once (Ok f) (Err t) e = elim (number_above_0 t.refusal (sym (ap (λ (s : Told). s.refusal) e))) [ ]
told_once (Err r) (Ok g) e = elim (number_above_0 r.refusal (ap (λ (s : Told). s.refusal) e)) [ ]
told_once (Err r) (Err t) e = ap Err (fault_once r t (ap (λ (s : Told). s.refusal) e) (ap (λ (s : Told). s.place) e))

abbrev by_name : Signal → Reading → Result Message Fault
by_name x s = Ok (record { circuit = s.message.circuit; signal = x; category = s.message.category; indicators = s.message.indicators; count = s.message.count; address = s.message.address })

pub told_message_once : (x y : Result Message Fault) → told_message x ≡ told_message y → x ≡ y
told_message_once (Ok m) (Ok n) e =
    ap (λ (x : Signal). by_name x (told_message (Ok m))) (same_Some m.signal n.signal (ap (λ (s : Reading). s.message.signal) e)) ∙ ap (by_name n.signal) e
told_message_once (Ok m) (Err t) e = elim (number_above_0 t.refusal (sym (ap (λ (s : Reading). s.refusal) e))) [ ]
told_message_once (Err r) (Ok n) e = elim (number_above_0 r.refusal (ap (λ (s : Reading). s.refusal) e)) [ ]
told_message_once (Err r) (Err t) e = ap Err (fault_once r t (ap (λ (s : Reading). s.refusal) e) (ap (λ (s : Reading). s.place) e))
