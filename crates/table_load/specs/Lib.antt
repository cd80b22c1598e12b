pub mod Held
pub mod Loaded
