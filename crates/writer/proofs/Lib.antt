pub mod Pairs
pub mod Tests
pub mod Writes
pub mod Once
