pub mod Names
pub mod Tree
pub mod Walk
