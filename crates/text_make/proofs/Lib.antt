pub mod Spelling
pub mod Decimals
pub mod Pieces
