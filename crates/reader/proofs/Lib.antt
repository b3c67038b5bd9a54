pub mod Signals
pub mod Bodies
pub mod Faults
pub mod Named
pub mod ByLetter
pub mod Stands
pub mod Spoils
pub mod Once
