-- What the check leaves of the proof that `words::short_word` meets its contract.
-- Assumes nothing.
use native.Mathlib.Numerals.{unary_clauses}
use Rattle.words.proofs.Words.{octets}
use Rattle.words.proofs.short_word.Goals as goal

pub returns : goal.returns
returns c =
    rw (c.number.ensures, c.octet-8.ensures, c.octet-7.ensures, c.octet-6.ensures, c.octet-5.ensures, c.octet-4.ensures, c.octet-3.ensures, c.octet-2.ensures, c.octet.ensures, octets)
    (simp unary_clauses)
