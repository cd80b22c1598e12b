pub mod Weights
pub mod Walk
pub mod Deciding
pub mod Verdict
