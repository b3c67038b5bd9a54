-- A message that is read has a signal.
-- Assumes nothing.
use Rattle.std.specs.Prelude.{Option, Some, None, IsSome, Ok}
use mathlib.Core.Path.{◌≡◌, refl, sym, ap, ◌∙◌, subst}
use mathlib.Core.Bool.{Bool, true, false, cond, not}
use mathlib.Core.List.{List}
use Prim.Native.Nat.{ℕ}
use lib.Dec.{T, eqb}
use Rattle.circuit.specs.declared.Signal.{Signal}
use Rattle.circuit.specs.declared.Signal.TheVariants.{Iam, Acm}
use Rattle.circuit.specs.Refusals.{Clear}
use Rattle.circuit.proofs.Refusals.{clear}
use Rattle.codes.specs.Headings.{signal_of}
use Rattle.formats.specs.Messages.{is_known, listed}
use Rattle.reader.specs.declared.Fields.{Fields}
use Rattle.reader.specs.Places.{heading_in}
use Rattle.reader.specs.Reading.{read_rules, fields_of}
use Rattle.reader.specs.Told.{Told, told}
use Rattle.reader.proofs.Faults.{read_refusal, read_fields}

-- whether a heading has a signal does not depend on ACM's octet
any_octet : (heading octet : ℕ) → is_known (signal_of heading octet) ≡ listed heading
any_octet heading octet = go (eqb heading 0x11) (eqb heading 0x14) _
  where
    go : (iam acm : Bool) (rest : Option Signal) → is_known (cond iam (Some Iam) (cond acm (Some (Acm octet)) rest)) ≡ is_known (cond iam (Some Iam) (cond acm (Some (Acm 0)) rest))
    go true acm rest = refl
    go false true rest = refl
    go false false rest = refl

is_there : (o : Option Signal) → is_known o ≡ true → IsSome o
is_there (Some s) e = refl
is_there None e = absurd (subst T (sym e) tt)

module _ (own far records : ℕ) (xs : List ℕ) (f : Fields) (is : told (Ok f) ≡ fields_of own far records xs) where
  accepted : Clear (read_rules own far records xs)
  accepted = clear (read_rules own far records xs) tt (sym (read_refusal own far records xs) ∙ ap (λ (t : Told). t.refusal) (sym is))

  its_heading : f.heading ≡ heading_in xs
  its_heading = ap (λ (t : Told). t.heading) (is ∙ read_fields own far records xs (sym (read_refusal own far records xs) ∙ ap (λ (t : Told). t.refusal) (sym is)))

  known : (b : Bool) → not b ≡ false → b ≡ true
  known true e = refl
  known false e = sym e

  pub has_signal : (heading : ℕ) → heading ≡ f.heading → IsSome (signal_of heading f.acm)
  has_signal heading e = is_there _ (any_octet heading f.acm ∙ ap listed (e ∙ its_heading) ∙ known _ accepted.1.1.1.0)
