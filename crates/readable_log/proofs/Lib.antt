pub mod Cutting
pub mod Running
pub mod Judging
