pub mod Keys
pub mod Elems
pub mod Steps
