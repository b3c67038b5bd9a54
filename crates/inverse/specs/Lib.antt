pub mod Said
pub mod Octets
pub mod Host
pub mod Cases
