pub mod Growing
pub mod Rows
pub mod Loading
