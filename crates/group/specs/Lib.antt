pub mod Refusals
pub mod Table
pub mod Way
pub mod Landing
pub mod Runs
pub mod Batches
