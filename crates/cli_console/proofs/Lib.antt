pub mod Numbering
pub mod Quoting
