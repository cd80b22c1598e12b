pub mod Cover
pub mod Join
pub mod Pair
pub mod Order
pub mod Rank
pub mod Verdict
pub mod Orderly
pub mod Laws
