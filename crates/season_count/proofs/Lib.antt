pub mod Raising
pub mod Runs
pub mod Judging
pub mod Windows
pub mod Lining
pub mod Looping
