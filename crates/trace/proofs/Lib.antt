pub mod Events
pub mod Turns
pub mod Cases
