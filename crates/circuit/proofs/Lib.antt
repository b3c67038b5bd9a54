pub mod Every
pub mod Groups
pub mod Refusals
