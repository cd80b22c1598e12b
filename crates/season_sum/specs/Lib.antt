pub mod Outcome
pub mod Figures
pub mod Reading
pub mod Adding
pub mod Laws
pub mod Steps
