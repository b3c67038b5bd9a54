pub mod Back
pub mod Details
