-- What stands in a message's octets, by the letter: its indicators, its count of address signals, and each of these.
-- Assumes nothing.
use mathlib.Core.Path.{◌≡◌, sym, ◌∙◌, subst}
use mathlib.Core.Bool.{true, cond}
use mathlib.Core.List.{List, [], ◌∷◌}
use Prim.Native.Nat.{ℕ, ◌+◌, ◌/◌, ◌%◌, ◌<◌}
use native.Mathlib.Omega.{arith}
use borrow.Author.Tests.{eqb-true}
use lib.Dec.{eqb}
use lib.ListN.{length, get_or}
use Rattle.words.specs.Octets.{number_of}
use Rattle.formats.specs.Format.{INDICATORS, COUNT}
use Rattle.formats.specs.Messages.{format_of, has_signals}
use Rattle.formats.proofs.Format.{got_fits}
use Rattle.formats.proofs.ByHeading.{signals_of_iam}
use Rattle.formats.proofs.Places.{cic_there, indicators_there, count_there, iam_signal}
use Rattle.reader.specs.Places.{cic_in, heading_in, field_by, signals_by}

-- the two octets of an IAM's indicators and count, and a signal
abbrev pub word_in : List ℕ → ℕ
word_in ys = number_of (get_or ys 7 0 ∷ get_or ys 8 0 ∷ [])

abbrev pub signal_in : List ℕ → ℕ → ℕ
signal_in ys j = cond (eqb (j % 2) 0) (get_or ys (9 + j / 2) 0 % 16) (get_or ys (9 + j / 2) 0 / 16)

module _ (ys : List ℕ) (octets : (i : ℕ) → get_or ys i 0 < 256) where
  pub all_circuits : cic_in ys < 4096
  all_circuits = rw (cic_there ys octets) (omega (arith, octets 0, octets 1, octets 2, octets 3, octets 4))

  abbrev pub address : List ℕ
  address = signals_by (format_of 0x11) ys

  pub counted : field_by (format_of 0x11) COUNT ys ≡ word_in ys / 4096
  counted = count_there ys octets

  pub indicated : field_by (format_of 0x11) INDICATORS ys ≡ word_in ys % 2048
  indicated = indicators_there ys octets

  pub long : length address ≡ word_in ys / 4096
  long = sym (got_fits (format_of 0x11) (number_of ys)).counted ∙ counted

  pub its : (j : ℕ) → j < word_in ys / 4096 → get_or address j 0 ≡ signal_in ys j
  its j l = iam_signal ys octets j (subst (λ (k : ℕ). j < k) (sym counted) l)

-- a message with address signals is an IAM
pub iam_in : (xs : List ℕ) → has_signals (heading_in xs) ≡ true → heading_in xs ≡ 0x11
iam_in xs e = eqb-true (heading_in xs) 0x11 (sym (signals_of_iam (heading_in xs)) ∙ e)
