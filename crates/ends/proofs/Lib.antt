-- The proof of what `Ends`, `Calm` and `Heals` claim; docs/TWO-ENDS.md tells it. In this order:
-- Machine: an invariant is kept. Words: a queue as the run of its words. Events: every record and event, as finite lists. Moves: the call's part of
-- a step, as a table. Rooms: what the two ends' runs may be together. Sound: rooms speak for queues of any length. Explored: the rooms, found and
-- tested. Marks: the blocks. Standing: both hold of every pair that is reached. Claim, Heard: the two claims of `Ends`. Calm: that of `Calm`.
-- Plain: their tests as plain facts. Heals: those of `Heals`. Cases: pairs that are reached.
pub mod Machine
pub mod Words
pub mod Events
pub mod Moves
pub mod Rooms
pub mod Sound
pub mod Explored
pub mod Marks
pub mod Standing
pub mod Claim
pub mod Heard
pub mod Calm
pub mod Plain
pub mod Heals
pub mod Cases
