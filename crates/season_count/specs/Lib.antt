pub mod Counts
pub mod Sound
pub mod Loaded
pub mod Counting
