pub mod Tree
pub mod Given
