pub mod Faults
pub mod Places
pub mod Told
pub mod Reading
pub mod Way
pub mod Stands
