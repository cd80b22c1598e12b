pub mod Clue
pub mod Index
pub mod Found
pub mod Lookup
