pub mod Stored
pub mod Rest
pub mod Digits
pub mod Showing
