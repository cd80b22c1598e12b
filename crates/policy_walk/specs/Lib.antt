pub mod Labels
pub mod Kept
pub mod Walk
