pub mod Test
pub mod Byte
pub mod HexTable
pub mod String
pub mod Frame
pub mod Fill
pub mod Steps
pub mod Refusal
