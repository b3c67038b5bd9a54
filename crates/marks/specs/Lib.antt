pub mod Flags
pub mod Way
