pub mod Rooms
pub mod Turns
pub mod Runs
pub mod Loop
pub mod Schedule
pub mod Opening
pub mod Kept
