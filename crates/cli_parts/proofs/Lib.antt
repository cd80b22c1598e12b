pub mod Whole
pub mod Keeping
