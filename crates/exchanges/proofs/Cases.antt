-- Two circuits over one link: where a run leads, and that every run leads to exchanges that are reached.
-- Assumes nothing.
use mathlib.Core.Path.{◌≡◌, refl, ap, ◌∙◌}
use mathlib.Core.List.{List, [], ◌∷◌}
use Prim.Native.Nat.{ℕ, ◌<◌}
use Rattle.circuit.specs.Rows.{first}
use Rattle.codes.specs.Numbers.{event_of}
use Rattle.step.specs.Step.{step, step_found}
use Rattle.words.specs.Words.{number, put}
use Rattle.layout.specs.Layout.{records_in, counter_in, state_at, flags_at, rank_at, record_of, flags_of, put_octets, put_rank, put_counter}
use Rattle.layout.proofs.Laws.{idle_state, idle_flags}
use Rattle.group.specs.Table.{step_in}
use Rattle.formats.specs.Octets.{short}
use Rattle.reader.specs.Reading.{fields_of}
use Rattle.writer.specs.Writing.{too_large, bad_address, octets_of, writing}
use Rattle.tup.specs.Entries.{read_into}
use Rattle.ends.specs.Machine.{Both, Reached.start}
use Rattle.ends.proofs.Machine.{goes_on}
use Rattle.exchanges.specs.Link.{Message, good, LinkStart.idle_at_both, ExchangesCome}
use Rattle.exchanges.specs.Cases.{Run, ran_from, quiet, exchanges, two, crossing, restarting, arriving}

-- both ACMs are on their way
abbrev pub crossed : Both (List ℕ) Message
crossed = exchanges (two 0 1 0 7 0) ((2 ∷ 0x40 ∷ 0 ∷ 0 ∷ 0 ∷ 0x14 ∷ 4 ∷ []) ∷ []) (two 0 8 0 1 0) ((1 ∷ 0x80 ∷ 0 ∷ 0x10 ∷ 0 ∷ 0x14 ∷ 0 ∷ []) ∷ [])

-- circuit 0's is gone, and an RSC has joined the other's
abbrev pub restarted : Both (List ℕ) Message
restarted = exchanges (two 0 12 0 7 0) [] (two 0 8 0 1 0) ((1 ∷ 0x80 ∷ 0 ∷ 0x10 ∷ 0 ∷ 0x14 ∷ 0 ∷ []) ∷ (1 ∷ 0x80 ∷ 0 ∷ 0 ∷ 0 ∷ 0x77 ∷ []) ∷ [])

-- circuit 0 is idle at both ends, freed once, and circuit 1 is at the same stage of one call
abbrev pub settled : Both (List ℕ) Message
settled = exchanges (two 1 0 1 7 0) [] (two 1 0 1 2 0) []

pub crosses : (watched : ℕ) → ran_from watched (quiet, quiet) crossing ≡ crossed
unfolding good bad_address short too_large octets_of writing fields_of read_into step_in records_in counter_in state_at flags_at rank_at record_of flags_of put_octets put_rank put_counter number put event_of step_found step first
crosses watched = refl

pub restarts : (watched : ℕ) → ran_from watched crossed restarting ≡ restarted
unfolding good bad_address short too_large octets_of writing fields_of read_into step_in records_in counter_in state_at flags_at rank_at record_of flags_of put_octets put_rank put_counter number put event_of step_found step first
restarts watched = refl

pub settles : (watched : ℕ) → ran_from watched restarted arriving ≡ settled
unfolding good bad_address short too_large octets_of writing fields_of read_into step_in records_in counter_in state_at flags_at rank_at record_of flags_of put_octets put_rank put_counter number put event_of step_found step first
settles watched = refl

pub shown : (watched : ℕ) → let x = ran_from watched (quiet, quiet) crossing in
    let y = ran_from watched x restarting in
    (x ≡ crossed) × (y ≡ restarted) × (ran_from watched y arriving ≡ settled)
shown watched =
    let e = crosses watched in
    let f = ap (λ (p : Both (List ℕ) Message). ran_from watched p restarting) e ∙ restarts watched in
    (e, f, ap (λ (p : Both (List ℕ) Message). ran_from watched p arriving) f ∙ settles watched)

pub ran : (watched : ℕ) → watched < 2 → (run : Run) → ExchangesCome 2 1 watched (ran_from watched (quiet, quiet) run).0 (ran_from watched (quiet, quiet) run).1
unfolding records_in
ran watched low run = goes_on run quiet quiet (start (idle_at_both quiet quiet (record { group = refl; circuit = low }) (record { group = refl; circuit = low })
    (record { state = idle_state 28 watched; flags = idle_flags 28 watched }) (record { state = idle_state 28 watched; flags = idle_flags 28 watched }) tt))
