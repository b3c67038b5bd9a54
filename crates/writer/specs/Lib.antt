pub mod Writing
pub mod Way
