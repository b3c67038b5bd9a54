pub mod Always
pub mod Refused
pub mod Erred
pub mod Tables
