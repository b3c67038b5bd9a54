pub mod Headings
pub mod Numbers
pub mod Back
