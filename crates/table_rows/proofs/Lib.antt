pub mod Strings
pub mod Grow
pub mod RuleBytes
