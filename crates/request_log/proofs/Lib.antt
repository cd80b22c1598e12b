pub mod Headings
pub mod Lengths
pub mod Spelled
