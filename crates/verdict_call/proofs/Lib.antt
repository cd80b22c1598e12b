pub mod Found
pub mod Spelled
pub mod RuleBytes
pub mod Holding
pub mod Errors
