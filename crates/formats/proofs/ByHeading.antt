-- The formats by their headings: which one a heading has, and what holds of them all.
-- Assumes nothing.
use mathlib.Core.Path.{◌≡◌, refl, sym, ap, ◌∙◌, subst}
use mathlib.Core.Bool.{Bool, true, false, cond, not, ◌&&◌}
use mathlib.Core.List.{List, [], ◌∷◌}
use Prim.Native.Nat.{ℕ, ◌+◌, ◌/◌}
use native.Mathlib.Omega.{arith}
use borrow.Author.Tests.{eqb-true}
use lib.Dec.{T, eqb}
use Rattle.circuit.proofs.Every.{left, right, is_true, alike, alike_same}
use Rattle.formats.specs.Format.{Name, Format, ACM, CATEGORY, INDICATORS, COUNT, octets_for, field_octet, signal_octet, most, once}
use Rattle.formats.specs.Messages.{head, acm_format, iam_format, iam_heading, acm_heading, Own, no_fields, own_formats, among_own, headed, format_of, signals_behind, has_signals, fixed_length, is_iam, is_acm, half}

-- ONE TEST OVER ALL OF THEM

abbrev every_own : (ℕ → Format → Bool) → List Own → Bool
every_own P [] = true
every_own P (o ∷ os) = P o.heading o.format && every_own P os

-- a heading that none of them has
abbrev Other : ℕ → List Own → Type 0
Other h [] = Unit {0}
Other h (o ∷ os) = (eqb h o.heading ≡ false) × Other h os

-- what holds of every one, and of a message that ends with its heading, holds of what any heading has
by_heading : (P : ℕ → Format → Bool) (os : List Own) → T (every_own P os) → (h : ℕ) → (Other h os → T (P h no_fields)) → T (P h (among_own h os))
by_heading P [] t h other = other tt
by_heading P (o ∷ os) t h other = go (eqb h o.heading) refl (by_heading P os (right (P o.heading o.format) _ t) h)
  where
    go : (b : Bool) → eqb h o.heading ≡ b → ((Other h os → T (P h no_fields)) → T (P h (among_own h os))) → T (P h (cond (eqb h o.heading) o.format (among_own h os)))
    go true e more =
        subst (λ (b : Bool). T (P h (cond b o.format (among_own h os)))) (sym e)
        (subst (λ (k : ℕ). T (P k o.format)) (sym (eqb-true h o.heading e)) (left (P o.heading o.format) (every_own P os) t))
    go false e more = subst (λ (b : Bool). T (P h (cond b o.format (among_own h os)))) (sym e) (more (λ others. other (e, others)))

same : (a b : ℕ) → T (eqb a b) → a ≡ b
same a b t = eqb-true a b (is_true (eqb a b) t)

-- a field that the message with one heading has, and no other: the most that it may be
only_in : (n : Name) (k m : ℕ) → T (every_own (λ h f. eqb (most (headed f).fields n) (cond (eqb h k) m 0)) own_formats) → T (eqb (most head n) 0)
    → (h : ℕ) → (Other h own_formats → eqb h k ≡ false) → most (format_of h).fields n ≡ cond (eqb h k) m 0
only_in n k m t z h other =
    same _ _ (by_heading (λ h f. eqb (most (headed f).fields n) (cond (eqb h k) m 0)) own_formats t h (λ o. subst (λ (b : Bool). T (eqb (most head n) (cond b m 0))) (sym (other o)) z))

module _ (h : ℕ) where
  -- no field stands twice
  pub once_each : T (once (format_of h).fields)
  once_each = by_heading (λ h f. once (headed f).fields) own_formats tt h (λ other. tt)

  -- an IAM alone has address signals
  pub signals_of_iam : has_signals h ≡ is_iam h
  signals_of_iam = alike_same _ _ (by_heading (λ h f. alike (signals_behind f.behind) (is_iam h)) own_formats tt h (λ other. subst (λ (b : Bool). T (alike false b)) (sym other.0) tt))

  -- the most that the fields may be
  pub acm_most : most (format_of h).fields ACM ≡ cond (is_acm h) 63 0
  acm_most = only_in ACM acm_heading 63 tt tt h (λ other. other.1.0)

  pub category_most : most (format_of h).fields CATEGORY ≡ cond (is_iam h) 63 0
  category_most = only_in CATEGORY iam_heading 63 tt tt h (λ other. other.0)

  pub indicators_most : most (format_of h).fields INDICATORS ≡ cond (is_iam h) 2047 0
  indicators_most = only_in INDICATORS iam_heading 2047 tt tt h (λ other. other.0)

  -- and the count, where there are address signals to be counted
  pub count_most : most (format_of h).fields COUNT ≡ cond (has_signals h) 15 0
  count_most = same _ _ (by_heading (λ h f. eqb (most (headed f).fields COUNT) (cond (signals_behind f.behind) 15 0)) own_formats tt h (λ other. tt))

-- ONE BY ONE

none_of : (h : ℕ) (os : List Own) → Other h os → among_own h os ≡ no_fields
none_of h [] other = refl
none_of h (o ∷ os) other = ap (λ (b : Bool). cond b o.format (among_own h os)) other.0 ∙ none_of h os other.1

module _ (h : ℕ) where
  pub an_iam : is_iam h ≡ true → among_own h own_formats ≡ iam_format
  an_iam e = ap (λ (k : ℕ). among_own k own_formats) (eqb-true h iam_heading e)

  pub an_acm : is_acm h ≡ true → among_own h own_formats ≡ acm_format
  an_acm e = ap (λ (k : ℕ). among_own k own_formats) (eqb-true h acm_heading e)

  pub neither : is_iam h ≡ false → is_acm h ≡ false → among_own h own_formats ≡ no_fields
  neither i a = none_of h own_formats (i, (a, tt))

-- so many address signals take up half as many octets, rounded up
pub iam_octets : (n : ℕ) → octets_for (headed iam_format) n ≡ 9 + half n
iam_octets n = omega arith

-- and each lies in one of them
pub signal_octets : (i : ℕ) → signal_octet (headed iam_format) i ≡ 9 + i / 2
signal_octets i = omega arith

-- where address signals lie behind the fields, the count and each signal have their octets
module _ (h : ℕ) (e : has_signals h ≡ true) where
  its_format : format_of h ≡ headed iam_format
  its_format = ap headed (an_iam h (sym (signals_of_iam h) ∙ e))

  pub count_octet : field_octet (format_of h).fields COUNT ≡ 8
  count_octet = ap (λ (f : Format). field_octet f.fields COUNT) its_format

  pub signal_octets_of : (i : ℕ) → signal_octet (format_of h) i ≡ 9 + i / 2
  signal_octets_of i = ap (λ (f : Format). signal_octet f i) its_format ∙ signal_octets i

-- how long a message is: 6 octets, an ACM 7, an IAM 9 and half its count of address signals rounded up
pub octets_by_heading : (h n : ℕ) → octets_for (format_of h) n ≡ cond (is_iam h) (9 + half n) (cond (is_acm h) 7 6)
octets_by_heading h n = by_iam (is_iam h) refl
  where
    having : (f : Format) → among_own h own_formats ≡ f → octets_for (format_of h) n ≡ octets_for (headed f) n
    having f e = ap (λ (f : Format). octets_for (headed f) n) e

    by_acm : is_iam h ≡ false → (b : Bool) → is_acm h ≡ b → octets_for (format_of h) n ≡ cond b 7 6
    by_acm i true a = having acm_format (an_acm h a) ∙ omega arith
    by_acm i false a = having no_fields (neither h i a) ∙ omega arith

    by_iam : (b : Bool) → is_iam h ≡ b → octets_for (format_of h) n ≡ cond b (9 + half n) (cond (is_acm h) 7 6)
    by_iam true i = having iam_format (an_iam h i) ∙ iam_octets n
    by_iam false i = by_acm i (is_acm h) refl

-- and without any address signals
pub fixed_lengths : (h : ℕ) → fixed_length h ≡ cond (is_iam h) 9 (cond (is_acm h) 7 6)
fixed_lengths h = octets_by_heading h 0

-- a length that is not what the count asks for
pub counted_length : (h len n : ℕ) → (has_signals h && not (eqb len (octets_for (format_of h) n))) ≡ (is_iam h && not (eqb len (9 + half n)))
counted_length h len n =
    ap (λ (b : Bool). b && not (eqb len (octets_for (format_of h) n))) (signals_of_iam h)
    ∙ ap (λ (k : ℕ). is_iam h && not (eqb len k)) (octets_by_heading h n) ∙ go (is_iam h)
  where
    go : (a : Bool) → (a && not (eqb len (cond a (9 + half n) (cond (is_acm h) 7 6)))) ≡ (a && not (eqb len (9 + half n)))
    go true = refl
    go false = refl
