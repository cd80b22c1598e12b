pub mod Sets
pub mod Nesting
