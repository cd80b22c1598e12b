pub mod Tops
pub mod Ranks
pub mod Quotients
