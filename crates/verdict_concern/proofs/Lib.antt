pub mod Concerns
