pub mod Bytes
pub mod Factory
pub mod Lines
