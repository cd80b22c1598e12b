pub mod Digits
pub mod FirstLine
