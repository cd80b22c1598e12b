pub mod Compare
pub mod Place
