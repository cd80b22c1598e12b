pub mod Scan
pub mod Value
pub mod Meaning
