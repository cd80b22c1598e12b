pub mod Refusals
pub mod Page
pub mod Steps
