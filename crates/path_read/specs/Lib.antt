pub mod Text
pub mod TextReader
pub mod Filled
pub mod Calls
pub mod Steps
