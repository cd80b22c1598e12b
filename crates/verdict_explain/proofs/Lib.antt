pub mod Standings
pub mod Lost
pub mod Listing
