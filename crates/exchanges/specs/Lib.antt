pub mod Link
pub mod Cases
