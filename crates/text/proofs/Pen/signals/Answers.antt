-- What the check leaves of the proof that `text::Pen::signals` meets its contract.
-- Assumes nothing.
use Rattle.std.proofs.Common.{rules, ◌+◌, ℕ, sym, ap}
use native.Mathlib.Omega.{arith}
use Rattle.text.proofs.Writing.{signals_length}
use Rattle.text.proofs.Pen.signals.Goals as goal

pub returns : goal.returns
returns c =
    let a = c.args in
    record {
      place = ap (λ (k : ℕ). a.self.now.at + k) (sym (signals_length a.address.now));
      within = omega (arith, signals_length a.address.now);
      room = c.signal_digits.ensures;
      same = search rules;
    }
