pub mod First
pub mod Searching
pub mod Orders
pub mod Laws
pub mod Once
