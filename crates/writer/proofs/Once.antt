-- What is told of a message that was to be written tells what was answered.
-- Assumes nothing.
use Rattle.std.proofs.Common.{◌≡◌, sym, ap, ℕ, Result, Ok, Err}
use Rattle.names.specs.declared.Refusal.{Refusal}
use Rattle.names.proofs.Once.{number_once, number_above_0}
use Rattle.writer.specs.Writing.{Written, told}

pub told_once : (x y : Result ℕ Refusal) → told x ≡ told y → x ≡ y
told_once (Ok n) (Ok m) e = ap (λ (w : Written). Ok w.length) e
told_once (Ok n) (Err t) e = elim (number_above_0 t (sym (ap (λ (w : Written). w.refusal) e))) [ ]
told_once (Err r) (Ok m) e = elim (number_above_0 r (ap (λ (w : Written). w.refusal) e)) [ ]
told_once (Err r) (Err t) e = ap Err (number_once r t (ap (λ (w : Written). w.refusal) e))
