pub mod Machine
pub mod Ends
pub mod Calm
pub mod Heals
pub mod Cases
