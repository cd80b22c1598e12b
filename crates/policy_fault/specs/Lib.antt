pub mod Item
pub mod Place
