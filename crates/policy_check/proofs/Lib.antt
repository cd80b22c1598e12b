pub mod Finds
pub mod Yields
pub mod Clean
pub mod Doubles
pub mod Judgements
pub mod Accepted
pub mod Counts
