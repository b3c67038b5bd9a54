pub mod Records
pub mod Groups
pub mod Rows
pub mod Every
pub mod Refusals
