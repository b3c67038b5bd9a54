pub mod Tables
pub mod Way
