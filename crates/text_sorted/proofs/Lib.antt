pub mod Fronts
pub mod Strings
pub mod Places
pub mod Inserting
pub mod Growing
