pub mod Letters
pub mod Gathering
pub mod Listing
pub mod Users
