-- Each case's run leads to its pair, and every run leads to a pair that is reached.
-- Assumes nothing.
use mathlib.Core.Bool.{true, false}
use mathlib.Core.Path.{◌≡◌, refl}
use Rattle.circuit.specs.Rows.{first}
use Rattle.codes.specs.Numbers.{event_of}
use Rattle.step.specs.Step.{step, step_found}
use Rattle.ends.specs.Machine.{Reached.start}
use Rattle.ends.specs.Ends.{idle, does, Start.both_idle, EndsCome}
use Rattle.ends.specs.Calm.{idle_kept, KeptStart.both_idle as calm_and_idle, KeptCome}
use Rattle.ends.specs.Cases.{Run, ran_from, cases, led, told, KeptRun, ran_kept, kept, kept_led, kept_told}
use Rattle.ends.proofs.Machine.{goes_on}

pub as_told : led cases ≡ told cases
unfolding event_of does step_found step first
as_told = refl

pub reached : (run : Run) → EndsCome true false (ran_from (idle, idle) run).0 (ran_from (idle, idle) run).1
reached run = goes_on run idle idle (start both_idle)

-- by the rule that a host can keep

pub kept_as_told : kept_led kept ≡ kept_told kept
unfolding event_of does step_found step first
kept_as_told = refl

pub kept_reached : (run : KeptRun) → KeptCome true false (ran_kept (idle_kept true, idle_kept true) run).0 (ran_kept (idle_kept true, idle_kept true) run).1
kept_reached run = goes_on run (idle_kept true) (idle_kept true) (start (calm_and_idle true true))
