-- What is told of a choice tells which choice it was.
-- Assumes nothing.
use Rattle.std.proofs.Common.{◌≡◌, sym, ap, Result, Ok, Err}
use Rattle.names.specs.declared.Refusal.{Refusal}
use Rattle.names.proofs.Once.{number_once, number_above_0}
use Rattle.select.specs.declared.Choice.{Choice}
use Rattle.select.specs.Selection.{Selected, told}

abbrev chosen : Selected → Result Choice Refusal
chosen s = Ok (record { cic = s.cic; looked = s.looked })

pub told_once : (x y : Result Choice Refusal) → told x ≡ told y → x ≡ y
told_once (Ok c) (Ok d) e = ap chosen e
told_once (Ok c) (Err t) e = elim (number_above_0 t (sym (ap (λ (s : Selected). s.refusal) e))) [ ]
told_once (Err r) (Ok d) e = elim (number_above_0 r (ap (λ (s : Selected). s.refusal) e)) [ ]
told_once (Err r) (Err t) e = ap Err (number_once r t (ap (λ (s : Selected). s.refusal) e))
