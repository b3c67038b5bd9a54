pub mod Format
pub mod Octets
pub mod Messages
pub mod Way
