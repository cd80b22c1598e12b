pub mod Walked
