-- What a row of a printed table means, and a table: the first row that fits gives the answer.
-- Assumes nothing.
use Rattle.std.specs.Prelude.{Bool, cond, ◌&&◌, List, [], ◌∷◌, ℕ, leb}
use Rattle.circuit.specs.declared.Record.{Record}
use Rattle.circuit.specs.declared.Sends.{Sends}
use Rattle.circuit.specs.declared.Sends.TheVariants.{Nothing}
use Rattle.circuit.specs.declared.Outcome.{Outcome}
use Rattle.circuit.specs.declared.Row.{Row}

-- its first and last state, its further condition; what is sent, the new record, the indication
abbrev pub row : ℕ → ℕ → Bool → Sends → Record → ℕ → Row
row low high when sends after ind = record { 0 = low; 1 = high; 2 = when; 3 = sends; 4 = after; 5 = ind }

abbrev pub fits : ℕ → Row → Bool
fits s w = leb w.0 s && leb s w.1 && w.2

abbrev pub answered : Record → Sends → ℕ → Outcome
answered after sends ind = record { refusal = 0; after = after; sends = sends; ind = ind }

abbrev pub done : Row → Outcome
done w = answered w.4 w.3 w.5

abbrev pub or_else : ℕ → Row → Outcome → Outcome
or_else s w other = cond (fits s w) (done w) other

-- the first row that fits the state, and `other` where none does
unfoldable pub first : ℕ → List Row → Outcome → Outcome
first s [] other = other
first s (w ∷ ws) other = or_else s w (first s ws other)

-- a pair that is not in the table of signals changes and sends nothing, indication 7
abbrev pub discarded : Record → Outcome
discarded r = answered r Nothing 7

-- a refusal returns its number, sends nothing, gives indication 0, changes nothing
abbrev pub refused : ℕ → Record → Outcome
refused n r = record { refusal = n; after = r; sends = Nothing; ind = 0 }
