pub mod Rules
pub mod Place
pub mod Placed
pub mod Best
