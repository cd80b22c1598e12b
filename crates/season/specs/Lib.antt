pub mod Report
pub mod Calls
pub mod Total
pub mod Parts
