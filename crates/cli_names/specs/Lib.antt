pub mod Names
pub mod Positions
