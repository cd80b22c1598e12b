pub mod Converted
pub mod Ended
pub mod Texts
