pub mod Pairs
pub mod Bits
pub mod Sets
pub mod Counting
pub mod Numbers
