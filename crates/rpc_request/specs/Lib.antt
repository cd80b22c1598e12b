pub mod Steps
pub mod Index
