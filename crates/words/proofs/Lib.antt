pub mod Words
pub mod Octets
