pub mod Names
pub mod Groups
pub mod Members
