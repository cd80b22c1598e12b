pub mod Strings
pub mod Rules
