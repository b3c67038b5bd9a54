pub mod Whole
pub mod Feed
pub mod Schedule
pub mod Way
