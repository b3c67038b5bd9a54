pub mod Unpacking
pub mod Once
