pub mod Matches
pub mod Groups
