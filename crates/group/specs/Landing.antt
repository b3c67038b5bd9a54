-- The program's way with one circuit's answer as a number: what it says is put into the table. The contracts of private functions cite it; no
-- promise leans on it.
-- Assumes nothing.
use Rattle.std.specs.Prelude.{not, cond, ◌&&◌, List, ℕ, ◌+◌, ◌/◌, ◌%◌, eqb, leb}
use Rattle.answers.specs.Answers.{word}
use Rattle.words.specs.Words.{largest}
use Rattle.layout.specs.Layout.{counter_in, put_octets, ranked}

-- the number that is answered, and the table after it
pub record Landed : Type 0 where
  pub answer : ℕ
  pub table : List ℕ

abbrev pub leaving : ℕ → List ℕ → Landed
leaving w table = record { answer = w; table = table }

-- the record that an answer shows, put at the circuit
abbrev pub put_shown : List ℕ → ℕ → (answer : ℕ) → List ℕ
put_shown table cic w = put_octets table cic (w / 0x10000 % 256) (w / 0x1000000 % 256)

abbrev pub freeing : List ℕ → ℕ → (state flags answer : ℕ) → Landed
freeing table cic s f w =
    cond (leb largest (counter_in table)) (leaving (word 13 0 s f 0 0) table)
    (leaving w (ranked (put_shown table cic w) cic (counter_in table + 1)))

abbrev pub accepted : List ℕ → ℕ → (state flags answer : ℕ) → Landed
accepted table cic s f w =
    cond (not (eqb s 0) && eqb (w / 0x10000 % 256) 0) (freeing table cic s f w)
    (leaving w (put_shown table cic w))

abbrev pub landed : List ℕ → ℕ → (state flags answer : ℕ) → Landed
landed table cic s f w = cond (eqb (w % 256) 0) (accepted table cic s f w) (leaving w table)
