pub mod Layout
pub mod Way
