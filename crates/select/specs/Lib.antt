pub mod First
pub mod Selection
pub mod Way
