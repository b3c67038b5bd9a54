pub mod Step
pub mod Refusals
pub mod Frees
pub mod Way
