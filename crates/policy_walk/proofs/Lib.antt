pub mod Kept
pub mod Labels
pub mod Refusals
