-- A run of events on a group's table.
-- Assumes nothing.
use Rattle.circuit.specs.declared.Event.{Event}
use Rattle.std.specs.Prelude.{List, ℕ, ◌+◌, Option}
use Rattle.group.specs.Table.{step_in}

-- a table that events lead to from another
pub data Follows (own far : ℕ) (first : List ℕ) : List ℕ → Type 0 where
  start : Follows own far first first
  next : {table : List ℕ} → Follows own far first table → (cic : ℕ) (event : Option Event) → Follows own far first (step_in own far table cic event).table

abbrev pub events : {own far : ℕ} {first last : List ℕ} → Follows own far first last → ℕ
events start = 0
events (next f cic event) = events f + 1
