pub mod Numbers
pub mod Writing
pub mod Lines
pub mod Way
