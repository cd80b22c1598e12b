pub mod Explained
pub mod Steps
pub mod Whole
