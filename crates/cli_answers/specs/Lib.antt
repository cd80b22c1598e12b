pub mod Lines
pub mod Rows
pub mod Paths
pub mod Whole
pub mod Steps
