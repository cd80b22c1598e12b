pub mod Twice
pub mod Order
pub mod Choose
pub mod Paths
pub mod OfBytes
pub mod Beneath
pub mod Reorder
pub mod Theorems
