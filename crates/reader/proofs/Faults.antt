-- Laws of what a reader looks for: its answer is the first fault that is found, with its place, and where none is, what the octets say.
-- Assumes nothing.
use mathlib.Core.Path.{◌≡◌, refl, ap, ◌∙◌, subst}
use mathlib.Core.Bool.{Bool, true, false, cond}
use mathlib.Core.List.{List, [], ◌∷◌, ◌++◌}
use Prim.Native.Nat.{ℕ, suc}
use native.Mathlib.Omega.{arith}
use lib.Dec.{T}
use lib.ListN.{length}
use Rattle.circuit.specs.Refusals.{first_rule, Clear}
use Rattle.circuit.proofs.Refusals.{clear}
use Rattle.reader.specs.Told.{Told, refused}
use Rattle.reader.specs.Faults.{Fault, fault, rules_of, place_of}
use Rattle.reader.specs.Places.{heading_in}
use Rattle.reader.specs.Reading.{read_faults, read_rules, fields_in, judged, fields_of}

module _ (f : Told) where
  gives_refusal : f.refusal ≡ 0 → (faults : List Fault) → (judged faults f).refusal ≡ first_rule (rules_of faults)
  gives_refusal z [] = z
  gives_refusal z (fault n true place ∷ faults) = refl
  gives_refusal z (fault n false place ∷ faults) = gives_refusal z faults

  gives_place : f.place ≡ 0 → (faults : List Fault) → (judged faults f).place ≡ place_of faults
  gives_place z [] = z
  gives_place z (fault n true place ∷ faults) = refl
  gives_place z (fault n false place ∷ faults) = gives_place z faults

  gives_fields : (faults : List Fault) → Clear (rules_of faults) → judged faults f ≡ f
  gives_fields [] c = refl
  gives_fields (fault n true place ∷ faults) c = absurd (subst T c.0 tt)
  gives_fields (fault n false place ∷ faults) c = gives_fields faults c.1

-- where none is found there is no place
pub no_place : (faults : List Fault) → Clear (rules_of faults) → place_of faults ≡ 0
no_place [] c = refl
no_place (fault n true place ∷ faults) c = absurd (subst T c.0 tt)
no_place (fault n false place ∷ faults) c = no_place faults c.1

-- Faults at the end of a list have a say exactly where none before them is found.
pub place_before : (faults more : List Fault) (n : ℕ) → first_rule (rules_of faults) ≡ suc n → place_of (faults ++ more) ≡ place_of faults
place_before [] more n e = absurd (omega arith)
place_before (fault k true place ∷ faults) more n e = refl
place_before (fault k false place ∷ faults) more n e = place_before faults more n e

pub place_after : (faults more : List Fault) → Clear (rules_of faults) → place_of (faults ++ more) ≡ place_of more
place_after [] more c = refl
place_after (fault k true place ∷ faults) more c = absurd (subst T c.0 tt)
place_after (fault k false place ∷ faults) more c = place_after faults more c.1

-- Two lists give the same place that have the same tests, and the same places where these hold.
abbrev pub Like : List Fault → List Fault → Type 0
Like [] [] = Unit {0}
Like [] (r ∷ others) = ⊥
Like (r ∷ faults) [] = ⊥
Like (fault n a place ∷ faults) (fault k b other ∷ others) = (a ≡ b) × (a ≡ true → place ≡ other) × Like faults others

pub like : (faults others : List Fault) → Like faults others → place_of faults ≡ place_of others
like [] [] e = refl
like [] (r ∷ others) e = absurd e
like (r ∷ faults) [] e = absurd e
like (fault n true place ∷ faults) (fault k b other ∷ others) e = e.1 refl ∙ ap (λ (t : Bool). cond t other (place_of others)) e.0
like (fault n false place ∷ faults) (fault k b other ∷ others) e = like faults others e.2 ∙ ap (λ (t : Bool). cond t other (place_of others)) e.0

-- What holds for each fault, found where none before it is, and for none, holds for the answer.
abbrev pub Cases : (Told → Type 0) → List Fault → Told → Type 0
Cases P [] f = P f
Cases P (fault n found place ∷ faults) f = (found ≡ true → P (refused n place)) × (found ≡ false → Cases P faults f)

pub cases : (P : Told → Type 0) (faults : List Fault) (f : Told) → Cases P faults f → P (judged faults f)
cases P [] f c = c
cases P (fault n true place ∷ faults) f c = c.0 refl
cases P (fault n false place ∷ faults) f c = cases P faults f (c.1 refl)

module _ (own far records : ℕ) (xs : List ℕ) where
  -- the reader's refusal is the first of its rules that holds, and the place is that rule's
  pub read_refusal : (fields_of own far records xs).refusal ≡ first_rule (read_rules own far records xs)
  unfolding fields_of
  read_refusal = gives_refusal (fields_in (heading_in xs) xs) refl (read_faults own far records xs)

  pub read_place : (fields_of own far records xs).place ≡ place_of (read_faults own far records xs)
  unfolding fields_of
  read_place = gives_place (fields_in (heading_in xs) xs) refl (read_faults own far records xs)

  -- what is not refused is read
  pub read_fields : first_rule (read_rules own far records xs) ≡ 0 → fields_of own far records xs ≡ fields_in (heading_in xs) xs
  unfolding fields_of
  read_fields e = gives_fields (fields_in (heading_in xs) xs) (read_faults own far records xs) (clear (read_rules own far records xs) tt e)

  -- the place of a wrong length is the length
  pub length_place : (fields_of own far records xs).refusal ≡ 7 → (fields_of own far records xs).place ≡ length xs
  unfolding fields_of
  length_place = cases Lengthy (read_faults own far records xs) (fields_in (heading_in xs) xs) (
    (λ e n. absurd (omega arith)),
    (λ e. (
      (λ e n. refl),
      (λ e. (
        (λ e n. absurd (omega arith)),
        (λ e. (
          (λ e n. absurd (omega arith)),
          (λ e. (
            (λ e n. refl),
            (λ e. (
              (λ e n. absurd (omega arith)),
              (λ e. (
                (λ e n. refl),
                (λ e. ((λ e n. absurd (omega arith)), (λ e. ((λ e n. absurd (omega arith)), (λ e. ((λ e n. absurd (omega arith)), (λ e n. absurd (omega arith)))))))),
              )),
            )),
          )),
        )),
      )),
    )),
  )
    where
      Lengthy : Told → Type 0
      Lengthy f = f.refusal ≡ 7 → f.place ≡ length xs
