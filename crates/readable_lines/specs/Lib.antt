pub mod Form
pub mod Request
pub mod Lines
pub mod Steps
