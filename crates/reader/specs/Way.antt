-- The way the reader's program goes: what is left to do once the label is found in order. Only contracts of private functions cite it, and no
-- promise leans on it.
-- Assumes nothing.
use Rattle.std.specs.Prelude.{List, ℕ}
use Rattle.reader.specs.Told.{Told}
use Rattle.reader.specs.Reading.{body_faults, fields_in, judged}

-- what a message with the heading is read as, its label being in order
unfoldable pub body_of : ℕ → ℕ → List ℕ → Told
body_of records heading xs = judged (body_faults records heading xs) (fields_in heading xs)
