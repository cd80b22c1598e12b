pub mod Numbers
pub mod Lines
pub mod Sums
pub mod Laws
pub mod Spelled
pub mod Reports
pub mod Written
