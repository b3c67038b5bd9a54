pub mod Refusals
pub mod ReadBack
pub mod Different
pub mod WriteBack
pub mod Laws
pub mod Host
pub mod Cases
