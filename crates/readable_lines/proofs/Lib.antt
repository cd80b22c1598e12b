pub mod Stored
pub mod Converting
pub mod Requests
pub mod Lining
