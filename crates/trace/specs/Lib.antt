pub mod Replay
pub mod Cases
pub mod Way
