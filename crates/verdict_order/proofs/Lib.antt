pub mod Permutations
pub mod Clean
pub mod Fine
pub mod Reordered
