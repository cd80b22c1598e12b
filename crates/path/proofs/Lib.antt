pub mod Refusals
pub mod Classes
pub mod Bytes
