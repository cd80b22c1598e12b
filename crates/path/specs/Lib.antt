pub mod Path
pub mod Bytes
pub mod Refusal
pub mod Spells
pub mod Walk
