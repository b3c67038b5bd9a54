-- What the check leaves of the proof that `text::written` meets its contract.
-- Assumes nothing.
use Rattle.std.proofs.Common.{rules, refl}
use Rattle.text.proofs.Writing.{whole}
use Rattle.text.proofs.written.Goals as goal

pub returns : goal.returns
returns g c = λ text w.
    let ran = w _ _ refl c.write.ensures in
    whole _ _ _ _ text ran refl (search rules) (search rules) (search rules)
