pub mod Answer
pub mod Node
pub mod Items
pub mod Read
