-- How long a message is, by its heading: the cases of `fixed_length`.
-- Assumes nothing.
use Rattle.std.specs.Prelude.{Option, Some, None}
use Rattle.std.proofs.lemmas.Option.{cond_some, none-some}
use mathlib.Core.Path.{◌≡◌, refl, sym, ap, ◌∙◌, subst}
use mathlib.Core.Bool.{Bool, true, false, cond}
use mathlib.Core.List.{List, [], ◌∷◌}
use Prim.Native.Nat.{ℕ, ◌/◌, ◌%◌, ◌^◌, ◌<◌, ◌≤◌}
use borrow.Author.Tests.{eqb-true}
use lib.Dec.{T, eqb, lit<}
use Rattle.circuit.specs.declared.Failure.{Failure}
use Rattle.circuit.specs.declared.Failure.TheVariants.{Sec, Cgc, Nnc, Adi, Cfl, Ssb, Unn, Los, Sst}
use Rattle.circuit.specs.declared.Signal.{Signal}
use Rattle.circuit.specs.declared.Signal.TheVariants.{Iam, Acm, Anc, Ann, Cbk, Clf, Ran, Rlg, Blo, Bla, Ubl, Uba, Rsc, Fail}
use Rattle.codes.specs.Headings.{failure_heading, heading_of, among_failures, failing, among}
use Rattle.circuit.proofs.Every.{at_below, alike, alike_same}
use Rattle.formats.specs.Way.{group_of}
use Rattle.formats.specs.Messages.{is_known, listed, fixed_length}
use native.Mathlib.Omega.{arith}

-- the headings as the program has them, by H0 the set of H1
abbrev in_set : ℕ → Bool
in_set h = eqb (group_of (h % 16) / 2 ^ (h / 16) % 2) 1

pub by_set : (h : ℕ) → h ≤ 255 → in_set h ≡ listed h
by_set h low = alike_same _ _ (at_below 256 (λ h. alike (in_set h) (listed h)) tt h (omega arith))

-- every message has label and heading
pub six_or_more : (h : ℕ) → 6 ≤ fixed_length h
six_or_more h = omega arith

-- what is given only where a test holds is missing where it does not
pub missing : (b : Bool) (n : ℕ) → cond b (Some n) None ≡ None → b ≡ false
missing true n e = absurd (none-some n (sym e))
missing false n e = refl

-- a heading of no length is one that is not listed, and a heading with a length is listed
module _ (h : ℕ) where
  abbrev pub length_if : Bool → Option ℕ
  length_if b = cond b (Some (fixed_length h)) None

  pub no_length : length_if (listed h) ≡ None → listed h ≡ false
  no_length e = missing (listed h) _ e

  pub a_length : (n : ℕ) → length_if (listed h) ≡ Some n → (listed h ≡ true) × (n ≡ fixed_length h)
  a_length n e = let p = cond_some (listed h) _ n e in (p.0, sym p.1)

pub acm_length : (h n : ℕ) → h ≡ 0x14 → n ≡ cond (listed h) (fixed_length h) 0 → n ≡ 7
acm_length h n e is = is ∙ ap (λ (k : ℕ). cond (listed k) (fixed_length k) 0) e

-- a heading that is listed is an octet
failure_octet : (f : Failure) → failure_heading f < 256
failure_octet Sec = lit< tt
failure_octet Cgc = lit< tt
failure_octet Nnc = lit< tt
failure_octet Adi = lit< tt
failure_octet Cfl = lit< tt
failure_octet Ssb = lit< tt
failure_octet Unn = lit< tt
failure_octet Los = lit< tt
failure_octet Sst = lit< tt

signal_octet : (s : Signal) → heading_of s < 256
signal_octet Iam = lit< tt
signal_octet (Acm o) = lit< tt
signal_octet Anc = lit< tt
signal_octet Ann = lit< tt
signal_octet Cbk = lit< tt
signal_octet Clf = lit< tt
signal_octet Ran = lit< tt
signal_octet Rlg = lit< tt
signal_octet Blo = lit< tt
signal_octet Bla = lit< tt
signal_octet Ubl = lit< tt
signal_octet Uba = lit< tt
signal_octet Rsc = lit< tt
signal_octet (Fail f) = failure_octet f

same_octet : (h n : ℕ) → eqb h n ≡ true → n < 256 → h < 256
same_octet h n e l = let q : h ≡ n = eqb-true h n e in omega arith

among_failures_lem : (h : ℕ) (fs : List Failure) → is_known (failing (among_failures h fs)) ≡ true → h < 256
among_failures_lem h [] e = absurd (subst T (sym e) tt)
among_failures_lem h (f ∷ fs) e = go (eqb h (failure_heading f)) refl (λ q. among_failures_lem h fs q)
  where
    go : (b : Bool) → eqb h (failure_heading f) ≡ b → (is_known (failing (among_failures h fs)) ≡ true → h < 256) → h < 256
    go true p more = same_octet h (failure_heading f) p (failure_octet f)
    go false p more = more (sym (ap (λ (b : Bool). is_known (failing (cond b (Some f) (among_failures h fs)))) p) ∙ e)

among_octet : (h : ℕ) (ss : List Signal) → is_known (among h ss) ≡ true → h < 256
among_octet h [] e = among_failures_lem h (Sec ∷ Cgc ∷ Nnc ∷ Adi ∷ Cfl ∷ Ssb ∷ Unn ∷ Los ∷ Sst ∷ []) e
among_octet h (s ∷ ss) e = go (eqb h (heading_of s)) refl (λ q. among_octet h ss q)
  where
    go : (b : Bool) → eqb h (heading_of s) ≡ b → (is_known (among h ss) ≡ true → h < 256) → h < 256
    go true p more = same_octet h (heading_of s) p (signal_octet s)
    go false p more = more (sym (ap (λ (b : Bool). is_known (cond b (Some s) (among h ss))) p) ∙ e)

pub octet : (h : ℕ) → listed h ≡ true → h < 256
octet h = among_octet h (Iam ∷ Acm 0 ∷ Anc ∷ Ann ∷ Cbk ∷ Clf ∷ Ran ∷ Rlg ∷ Blo ∷ Bla ∷ Ubl ∷ Uba ∷ Rsc ∷ [])
