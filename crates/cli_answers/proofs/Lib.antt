pub mod Naming
pub mod PathLines
pub mod Whole
pub mod Grouping
