pub mod Counting
pub mod Parts
pub mod Steps
pub mod Verdict
pub mod Numbers
pub mod Below
pub mod Storing
