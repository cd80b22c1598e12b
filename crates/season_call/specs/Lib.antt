pub mod Written
pub mod Counted
