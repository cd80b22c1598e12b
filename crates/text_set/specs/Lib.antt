pub mod Set
pub mod Nested
