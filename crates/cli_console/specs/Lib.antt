pub mod Quoted
pub mod Steps
