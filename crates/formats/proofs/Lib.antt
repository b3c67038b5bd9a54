pub mod Addresses
pub mod Signals
pub mod Few
pub mod Lengths
pub mod Stores
pub mod Format
pub mod ByHeading
pub mod Places
