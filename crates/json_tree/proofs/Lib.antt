pub mod Walks
pub mod Openings
pub mod Members
pub mod Steps
pub mod Repeats
pub mod Looking
pub mod Whole
