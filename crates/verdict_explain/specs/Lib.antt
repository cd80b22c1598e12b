pub mod Standing
pub mod Lost
pub mod Ranking
