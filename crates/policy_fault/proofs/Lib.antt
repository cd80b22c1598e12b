pub mod Openings
pub mod Reaching
pub mod Refused
